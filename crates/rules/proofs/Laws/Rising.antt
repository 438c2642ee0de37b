-- One event adds at most 1 to each accepted value and to each ag total; so the settled count of a replica rises by at most one an event. In every
-- room, for every event that a kit may have. Assumes nothing.
use Rattle.std.specs.Prelude.{◌≡◌, false, ◌&&◌, List, [], ◌∷◌, ℕ, suc, ◌+◌, ◌≤◌, length, eqb, ltb, leb, Ok, Err}
use Rattle.std.proofs.Math.Path.{refl}
use Rattle.std.proofs.Common.{arith, eqb-true}
use Rattle.terms.specs.Limits.{ag, up, sw}
use Rattle.terms.specs.ListLaws.{split, pick_elim, and_l, and_r, length-snoc}
use Rattle.terms.specs.Kit.{Kit, Entry, GoodEvent, GoodEntry, GoodEntries}
use Rattle.terms.specs.declared.Content.{Content}
use Rattle.terms.specs.declared.Event.{Event}
use Rattle.terms.specs.declared.Act.{Act}
use Rattle.terms.specs.Numbers.{Decision}
use Rattle.terms.specs.declared.Deed.{Deed}
use Rattle.rules.specs.Room.{Room, Replica, put2, with_clock, with_late, with_replica, issue, with_history, remember, with_condition, with_mark, note}
use Rattle.rules.specs.Room.{note_pair, accept, hold}
use Rattle.rules.proofs.Laws.RoomLaws.{accepted_by_one}
use Rattle.rules.specs.Reading.{is_running, settled_count, ag_total}
use Rattle.rules.proofs.Laws.ReadingLaws.{settled_count_by_one}
use Rattle.rules.specs.Clock.{tick}
use Rattle.rules.specs.Submit.{after_submit, after_file}
use Rattle.rules.specs.Deliver.{settle, after_prepare, after_commit, after_update, switches, after_switch}
use Rattle.rules.specs.Switching.{after_panic, after_build, after_hand}
use Rattle.rules.specs.Decide.{concerned, decide, acted, carried_out}
use Rattle.rules.specs.Play.{on_event, step, play}
use Rattle.rules.proofs.Laws.Tested.{Delivered, on_sw, ToAct, Tested, tested}

-- accepted values rise by at most d and ag totals by at most t
pub record Rises (d t : ℕ) (r r₁ : Room) : Type 0 where
  pub accepted : (x y n : ℕ) → (r₁.replica x).accepted y n ≤ d + (r.replica x).accepted y n
  pub total : (x : ℕ) → ag_total r₁ x ≤ t + ag_total r x

rises_more : {d t : ℕ} {r r₁ : Room} (d₁ t₁ : ℕ) → d ≤ d₁ → t ≤ t₁ → Rises d t r r₁ → Rises d₁ t₁ r r₁
rises_more d₁ t₁ l m h = record { accepted = λ x y n. omega (arith, h.accepted x y n); total = λ x. omega (arith, h.total x) }

rises_trans : {d t d₁ t₁ : ℕ} {a b c : Room} → Rises d t a b → Rises d₁ t₁ b c → Rises (d₁ + d) (t₁ + t) a c
rises_trans f g =
    record { accepted = λ x y n. omega (arith, f.accepted x y n, g.accepted x y n); total = λ x. omega (arith, f.total x, g.total x) }

rises_none : (r : Room) → Rises 0 0 r r
rises_none r = record { accepted = λ x y n. omega arith; total = λ x. omega arith }

-- where neither records nor counters change
rises_same : {r r₁ : Room} → r₁.replica ≡ r.replica → r₁.counter ≡ r.counter → Rises 0 0 r r₁
rises_same {r} {r₁} er ec = record { accepted = λ x y n. rw er (omega arith); total = λ x. rw ec (omega arith) }

rises_record : (d : ℕ) (r : Room) (x : ℕ) (p : Replica) → ((y n : ℕ) → p.accepted y n ≤ d + (r.replica x).accepted y n)
    → Rises d 0 r (with_replica r x p)
unfolding with_replica
rises_record d r x p f =
    record {
      accepted = λ y z n. split (eqb y x) (λ t. rw (t, eqb-true y x t) (f z n)) (λ t. rw t (omega arith));
      total = λ y. omega arith;
    }

rises_issue : (r : Room) (x name : ℕ) (c : Content) → Rises 0 1 r (issue r x name c)
unfolding issue
rises_issue r x name c =
    record {
      accepted = λ y z n. omega arith;
      total = λ y.
          split (eqb ag name && eqb y x)
          (λ t. let z = eqb-true y x (and_r (eqb ag name) (eqb y x) t) in
          let w = eqb-true ag name (and_l (eqb ag name) (eqb y x) t) in
          rw t (rw (z, ← w) (omega (arith, length-snoc (r.counter x ag) c))))
          (λ t. rw t (omega arith));
    }

-- on another counter than ag
rises_aside : (r : Room) (x name : ℕ) (c : Content) → eqb ag name ≡ false → Rises 0 0 r (issue r x name c)
unfolding issue
rises_aside r x name c e = record { accepted = λ y z n. omega arith; total = λ y. rw e (omega arith) }

-- ---- one event: at most 1 each

one : {d t : ℕ} {r r₁ : Room} → d ≤ 1 → t ≤ 1 → Rises d t r r₁ → Rises 1 1 r r₁
one l m h = rises_more 1 1 l m h

rises_settle : (d : ℕ) (r : Room) (x : ℕ) (p : Replica) (a b : ℕ) → ((y n : ℕ) → p.accepted y n ≤ d + (r.replica x).accepted y n)
    → Rises d 0 r (settle r x p a b)
unfolding settle with_mark
rises_settle d r x p a b f =
    pick_elim (λ z. Rises d 0 r z) (ltb a b)
    (λ t. rises_more d 0 (omega arith) (omega arith) (rises_trans (rises_record d r x _ f) (rises_aside _ x up _ refl)))
    (λ t. rises_record d r x p f)

rises_submit : (kit : Kit) (r : Room) (request : ℕ) → Rises 1 1 r (after_submit kit r request)
unfolding after_submit note remember
rises_submit kit r request =
    let asked : Rises 0 0 r (remember r request) = rises_same refl refl in
    pick_elim (λ z. Rises 1 1 r z) (is_running (r.replica kit.leader).condition)
    (λ t. one (omega arith) (omega arith)
    (rises_trans asked (rises_trans (rises_record 0 (remember r request) kit.leader _ (λ y n. omega arith)) (rises_issue _ kit.leader ag _))))
    (λ t. one (omega arith) (omega arith) asked)

module _ (kit : Kit) (r : Room) (e : Event) (x : ℕ) (size : ℕ) (list : List ℕ) (good : GoodEvent size e list) where
  -- the value that is accepted is the next
  by_next : (sender name value : ℕ) → Delivered kit r e x sender name value
      → (y n : ℕ) → put2 (r.replica x).accepted sender name value y n ≤ 1 + (r.replica x).accepted y n
  by_next sender name value t y n = omega (arith, accepted_by_one (r.replica x).accepted sender name value y n t.next)

  rises_acted : (act : Act) → ToAct kit r e x act → Rises 1 1 r (acted kit r x act)
  unfolding acted after_prepare after_commit after_update after_switch after_hand after_panic accept note note_pair with_mark with_condition issue hold
  rises_acted (Act.Prepare sender value request) t =
      one (omega arith) (omega arith) (rises_trans (rises_issue r x ag _) (rises_settle 1 _ x _ _ _ (by_next sender ag value t.delivered)))
  rises_acted (Act.Commit sender value) t = one (omega arith) (omega arith) (rises_settle 1 r x _ _ _ (by_next sender ag value t.delivered))
  rises_acted (Act.KnownPair sender value) t = one (omega arith) (omega arith) (rises_record 1 r x _ (by_next sender up value t.delivered))
  rises_acted (Act.NewPair sender value request mark) t = one (omega arith) (omega arith) (rises_record 1 r x _ (by_next sender up value t.delivered))
  rises_acted (Act.Switch sender value) t =
      let next = by_next sender sw value (on_sw kit r e x size list good t) in
      pick_elim (λ z. Rises 1 1 r z) (leb kit.f (switches kit (accept (r.replica x) sender sw value)))
      (λ closes. one (omega arith) (omega arith) (rises_record 1 r x _ next)) (λ waits. one (omega arith) (omega arith) (rises_record 1 r x _ next))
  rises_acted (Act.Hand history) t =
      one (omega arith) (omega arith) (rises_trans (rises_record 0 r x _ (λ y n. omega arith)) (rises_aside _ x sw _ refl))
  rises_acted Act.Panic t = one (omega arith) (omega arith) (rises_record 0 r x _ (λ y n. omega arith))

  rises_carried : (d : Decision) → Tested kit r e x d → Rises 1 1 r (carried_out kit r x d list)
  unfolding carried_out after_build after_file with_history hold
  rises_carried (Err answer) t = one (omega arith) (omega arith) (rises_none r)
  rises_carried (Ok (Deed.Submit request)) t = rises_submit kit r request
  rises_carried (Ok (Deed.Issue y name content)) t = one (omega arith) (omega arith) (rises_issue r y name content)
  rises_carried (Ok (Deed.Act act)) t = rises_acted act t
  rises_carried (Ok Deed.Idle) t = one (omega arith) (omega arith) (rises_none r)
  rises_carried (Ok (Deed.Build j k)) t =
      one (omega arith) (omega arith)
      (rises_trans (rises_same {r₁ = with_history r _ r.filed} refl refl)
      (rises_trans (rises_record 0 _ x _ (λ y n. omega arith))
      (rises_trans (rises_issue _ x ag _) (rises_trans (rises_aside _ x up _ refl) (rises_aside _ x sw _ refl)))))
  rises_carried (Ok (Deed.File j k)) t = one (omega arith) (omega arith) (rises_same refl refl)

rises_event : (kit : Kit) (r : Room) (size : ℕ) (e : Event) (list : List ℕ) → GoodEvent size e list → Rises 1 1 r (on_event kit r e list).room
unfolding on_event
rises_event kit r size e list good = rises_carried kit r e (concerned kit e) size list good (decide kit r e) (tested kit r e)

pub rises_tick : (kit : Kit) (r : Room) (gap : ℕ) → Rises 0 0 r (tick kit r gap)
unfolding tick with_clock with_late
rises_tick kit r gap = rises_same refl refl

pub step_rises : (kit : Kit) (r : Room) (size : ℕ) (e : Entry) → GoodEntry size e → Rises 1 1 r (step kit r e).room
unfolding step
step_rises kit r size e g =
    one (omega arith) (omega arith) (rises_trans (rises_tick kit r e.gap)
    (rises_event kit (tick kit r e.gap) size e.event e.requests g.event))

pub play_rises : (kit : Kit) (r : Room) (size : ℕ) (es : List Entry) → GoodEntries size es → Rises (length es) (length es) r (play kit r es)
unfolding play
play_rises kit r size [] g = rises_none r
play_rises kit r size (e ∷ es) g =
    rises_more (suc (length es)) (suc (length es)) (omega arith) (omega arith)
    (rises_trans (step_rises kit r size e (g 0 e refl)) (play_rises kit (step kit r e).room size es (λ i d h. g (suc i) d h)))

-- the settled count of x but for a closing
abbrev pub count_in : Kit → Room → ℕ → ℕ
count_in kit r x = settled_count kit x (r.replica x) (ag_total r x)

pub settled_by_one : (kit : Kit) (r : Room) (size : ℕ) (e : Entry) → GoodEntry size e → (x : ℕ)
    → count_in kit (step kit r e).room x ≤ suc (count_in kit r x)
settled_by_one kit r size e g x =
    let h = step_rises kit r size e g in
    settled_count_by_one kit x (r.replica x) ((step kit r e).room.replica x) _ _ (omega (arith, h.total x)) (λ y n. omega (arith, h.accepted x y n))
