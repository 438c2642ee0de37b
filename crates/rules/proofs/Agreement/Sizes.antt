-- How long everything can get in the play of a good kit: what the places of the code's arrays rest on. Assumes nothing.
use Rattle.std.specs.Prelude.{◌≡◌, refl, true, false, List, [], ◌∷◌, ℕ, zero, suc, ◌*◌, ◌≤◌, length, take, Some}
use Rattle.std.proofs.Common.{ap, ◌∙◌, arith}
use Rattle.std.proofs.Math.ListN.{length-take}
use Rattle.terms.specs.Limits.{replicas, ag, up, sw, places_max, requests_max, filed_max, ticks_max, events_max}
use Rattle.terms.specs.Lists.{nth, Once}
use Rattle.terms.specs.ListLaws.{split, nth-take}
use Rattle.terms.specs.Kit.{Kit, GoodKit, GoodEntries, Entry}
use Rattle.rules.specs.Table.{is_active, is_marked_faulty}
use Rattle.rules.specs.Room.{Room, fresh_room, fresh_replica}
use Rattle.rules.specs.Clock.{tick}
use Rattle.rules.specs.Play.{play, after}
use Rattle.rules.proofs.Laws.Growth.{after_suc}
use Rattle.rules.proofs.Laws.Holding.{after_keeps, tick_keeps}
use Rattle.rules.proofs.Laws.Filings.{FilesFew, few_tick, files_few}
use Rattle.rules.proofs.Laws.Missing.{once-length}
use Rattle.rules.proofs.Laws.Rising.{count_in, rises_tick, settled_by_one, play_rises}
use Rattle.rules.proofs.Laws.Refused.{tick_ticked}
use Rattle.rules.proofs.Laws.Time.{gaps, step_clock, clock_is_sum, Timed, timed_tick, timed}
use Rattle.rules.proofs.Agreement.Invariant.{Part, Invariant}
use Rattle.rules.proofs.Agreement.Events.{next_tick}
use Rattle.rules.proofs.Agreement.Throughout.{at_moment}
use Rattle.rules.specs.Reading.{ag_total}

-- ---- what stands in every room that a good kit reaches

pub record Reached (kit : Kit) (r : Room) : Type 0 where
  pub invariant : Invariant kit r
  pub files : FilesFew kit r
  pub times : Timed r
  pub clock_few : r.clock ≤ events_max * ticks_max
  -- a faulty replica's record is never touched
  pub faulty_fresh : (x : ℕ) → is_marked_faulty kit x ≡ true → r.replica x ≡ fresh_replica true
  -- an accepted value is at most the number of events
  pub accepted_few : (x y name : ℕ) → (r.replica x).accepted y name ≤ events_max

gaps_few : (size : ℕ) (es : List Entry) → GoodEntries size es → gaps es ≤ length es * ticks_max
gaps_few size [] g = omega arith
gaps_few size (e ∷ es) g = omega (arith, (g 0 e refl).gap, gaps_few size es (λ i d h. g (suc i) d h))

module _ (kit : Kit) (good : GoodKit kit) where
  first_good : (n : ℕ) → GoodEntries (replicas kit.f) (take n kit.events)
  first_good n i e h = good.events_good i e (nth-take n kit.events i h).1

  clock_below : (n : ℕ) → (after kit n).clock ≤ events_max * ticks_max
  clock_below n =
      omega (
        arith,
        clock_is_sum kit n,
        gaps_few (replicas kit.f) (take n kit.events) (first_good n),
        length-take n kit.events,
        good.event_count,
      )

  fresh_stays : (n x : ℕ) → is_marked_faulty kit x ≡ true → (after kit n).replica x ≡ fresh_replica true
  unfolding after play fresh_room fresh_replica
  fresh_stays n x m = (after_keeps kit 0 n (omega arith)).untouched x (rw m) ∙ rw m

  accepted_below : (n x y name : ℕ) → ((after kit n).replica x).accepted y name ≤ events_max
  unfolding after fresh_room fresh_replica
  accepted_below n x y name =
      let h = play_rises kit (fresh_room kit) (replicas kit.f) (take n kit.events) (first_good n) in
      omega (arith, h.accepted x y name, length-take n kit.events, good.event_count)

  pub reached_after : (n : ℕ) → Reached kit (after kit n)
  reached_after n =
      record {
        invariant = at_moment kit good n;
        files = files_few kit n;
        times = timed kit n;
        clock_few = clock_below n;
        faulty_fresh = fresh_stays n;
        accepted_few = accepted_below n;
      }

  -- the room in which event n is decided: its gap has been added
  pub reached_ticked : (n : ℕ) (e : Entry) → nth kit.events n ≡ Some e → Reached kit (tick kit (after kit n) e.gap)
  reached_ticked n e h =
      let r = after kit n in
      let inv = at_moment kit good n in
      record {
        invariant = (next_tick kit r inv e.gap).invariant;
        files = few_tick kit r (files_few kit n) e.gap;
        times = timed_tick kit r e.gap (timed kit n);
        clock_few = omega (
          arith,
          (tick_ticked kit r e.gap).clock,
          ap (λ (z : Room). z.clock) (after_suc kit n e h),
          step_clock kit r e,
          clock_below (suc n),
        );
        faulty_fresh = λ x m. (tick_keeps kit r e.gap).untouched x (inv.faulty_marked x ∙ m) ∙ fresh_stays n x m;
        accepted_few = λ x y name. omega (arith, (rises_tick kit r e.gap).accepted x y name, accepted_below n x y name);
      }

-- ---- the bounds

-- of a correct replica
pub record ReplicaBounds (kit : Kit) (r : Room) (x : ℕ) : Type 0 where
  pub noted_few : length (r.replica x).noted ≤ requests_max
  pub ag_few : ag_total r x ≤ suc requests_max
  pub up_few : length (r.counter x up) ≤ suc requests_max
  pub sw_few : length (r.counter x sw) ≤ 1
  pub paired : is_active kit x ≡ false → length (r.replica x).pair_marks ≡ length (r.replica x).noted

pub record Bounds (kit : Kit) (r : Room) : Type 0 where
  pub correct : (x : ℕ) → is_marked_faulty kit x ≡ false → ReplicaBounds kit r x
  pub own_few : (x name : ℕ) → is_marked_faulty kit x ≡ false → length (r.counter x name) ≤ suc requests_max
  -- no counter of any replica meets its last place but by event 2, which is refused there
  pub places : (x name : ℕ) → length (r.counter x name) ≤ places_max
  -- nor does an accepted value pass the number of events
  pub accepted_few : (x y name : ℕ) → (r.replica x).accepted y name ≤ events_max
  pub submitted_few : length r.submitted ≤ requests_max
  pub submitted_once : Once r.submitted
  pub timed : length r.ticks ≡ length r.submitted
  pub filed_few : r.filed ≤ filed_max
  pub histories_few : length r.histories ≤ suc filed_max

module _ {kit : Kit} {r : Room} (a : Reached kit r) where
  correct_bounds : (x : ℕ) → is_marked_faulty kit x ≡ false → ReplicaBounds kit r x
  correct_bounds x fx =
      record {
        noted_few = noted;
        ag_few = omega (arith, noted, part.ag_few);
        up_few = omega (arith, noted, part.up_few);
        sw_few = (a.files.switched x (a.invariant.faulty_marked x ∙ fx)).once;
        paired = λ p. (part.passive p).paired;
      }
    where
      part : Part kit r x (r.replica x) (r.counter x ag) (r.counter x up)
      part = a.invariant.part x fx

      noted : length (r.replica x).noted ≤ requests_max
      noted =
          omega (
            arith,
            once-length (r.replica x).noted r.submitted part.common.once part.common.submitted,
            a.invariant.submissions.few,
          )

  own_places : (x name : ℕ) → is_marked_faulty kit x ≡ false → length (r.counter x name) ≤ suc requests_max
  own_places x zero fx = (correct_bounds x fx).ag_few
  own_places x (suc zero) fx = (correct_bounds x fx).up_few
  own_places x (suc (suc zero)) fx = omega (arith, (correct_bounds x fx).sw_few)
  own_places x (suc (suc (suc m))) fx = rw (a.files.unnamed x (suc (suc (suc m))) (a.invariant.faulty_marked x ∙ fx) (omega arith)) (omega arith)

  counter_places : (x name : ℕ) → length (r.counter x name) ≤ places_max
  counter_places x name =
      split (is_marked_faulty kit x) (λ t. a.files.faulty_few x name (a.invariant.faulty_marked x ∙ t)) (λ t. omega (arith, own_places x name t))

  pub bounds_of : Bounds kit r
  bounds_of =
      record {
        correct = correct_bounds;
        own_few = own_places;
        places = counter_places;
        accepted_few = a.accepted_few;
        submitted_few = a.invariant.submissions.few;
        submitted_once = a.invariant.submissions.once;
        timed = a.times.paired;
        filed_few = a.files.filed_few;
        histories_few = omega (arith, a.files.histories_few, a.files.filed_few);
      }

module _ (kit : Kit) (good : GoodKit kit) where
  pub bounds : (n : ℕ) → Bounds kit (after kit n)
  bounds n = bounds_of (reached_after kit good n)

  -- an event settles at most one request more, but for a closing
  pub settles_one : (n : ℕ) (e : Entry) → nth kit.events n ≡ Some e → (x : ℕ)
      → count_in kit (after kit (suc n)) x ≤ suc (count_in kit (after kit n) x)
  settles_one n e h x = rw (after_suc kit n e h) (settled_by_one kit (after kit n) (replicas kit.f) e (good.events_good n e h) x)
