-- Every room that a good kit reaches is within the bounds that the layout asks for: after each event, and after each event's tick.
-- Assumes nothing.
use Rattle.std.specs.Prelude.{◌≡◌, ℕ, Some}
use Rattle.std.proofs.Common.{sym, ◌∙◌, arith}
use Rattle.terms.specs.Lists.{nth}
use Rattle.terms.specs.ListLaws.{split, no_way}
use Rattle.terms.specs.Kit.{Kit, GoodKit, Entry}
use Rattle.rules.specs.Table.{is_marked_faulty}
use Rattle.rules.specs.Room.{Room, fresh_replica}
use Rattle.rules.specs.Clock.{tick}
use Rattle.rules.specs.Play.{after}
use Rattle.rules.proofs.Agreement.Sizes.{Reached, reached_after, reached_ticked, bounds_of}
use Rattle.room.specs.Bounds.{ReplicaBounds, Bounds}

module _ {kit : Kit} {r : Room} (a : Reached kit r) where
  -- a faulty replica notes nothing
  replica_bounds : (x : ℕ) → ReplicaBounds r.submitted (r.replica x)
  unfolding fresh_replica
  replica_bounds x =
      split (is_marked_faulty kit x)
      (λ t. rw (a.faulty_fresh x t) (record {
        noted_once = λ i j q e d. no_way (cc);
        noted_submitted = λ i q e. no_way (cc);
        noted_max = omega arith;
        pairs_noted = omega arith;
      }))
      (λ t. let c = (a.invariant.part x t).common in
      record {
        noted_once = c.once;
        noted_submitted = c.submitted;
        noted_max = ((bounds_of a).correct x t).noted_few;
        pairs_noted = c.pairs_few;
      })

  pub reached_bounds : GoodKit kit → Bounds kit r
  reached_bounds good =
      record {
        good = good;
        clock_max = a.clock_few;
        submitted_max = a.invariant.submissions.few;
        ticks_length = a.times.paired;
        ticks_ascend = a.times.rising;
        ticks_past = a.times.past;
        filed_max_lem = a.files.filed_few;
        histories_filed = a.files.histories_few;
        built_held = a.files.unbuilt;
        filings = a.invariant.histories_fit;
        replicas = replica_bounds;
        counter_max = (bounds_of a).places;
        own_max = λ x name f. (bounds_of a).own_few x name (sym (a.invariant.faulty_marked x) ∙ f);
      }

-- after the first n events
pub reached : (kit : Kit) → GoodKit kit → (n : ℕ) → Bounds kit (after kit n)
reached kit good n = reached_bounds (reached_after kit good n) good

-- when event n is decided: its gap has been added to the clock
pub reached_tick : (kit : Kit) → GoodKit kit → (n : ℕ) (e : Entry) → nth kit.events n ≡ Some e → Bounds kit (tick kit (after kit n) e.gap)
reached_tick kit good n e h = reached_bounds (reached_ticked kit good n e h) good
