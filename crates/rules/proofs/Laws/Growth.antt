-- Counters, submissions, their ticks and histories only grow, in every play: what stands at a value or place stands there for ever.
-- Assumes nothing.
use Rattle.std.specs.Prelude.{◌≡◌, refl, true, ◌&&◌, List, [], ◌∷◌, ◌++◌, ℕ, zero, suc, ◌+◌, ◌-◌, ◌≤◌, take, drop, eqb, Some}
use Rattle.std.proofs.Common.{ap, ◌∙◌, arith, take-add, eqb-true}
use Rattle.terms.specs.Lists.{nth, holds, Sub}
use Rattle.terms.specs.ListLaws.{no_way, pick_elim, and_l, and_r, nth-append, holds_nth, holds_at}
use Rattle.terms.specs.Kit.{Kit, Entry}
use Rattle.terms.specs.declared.Content.{Content}
use Rattle.terms.specs.declared.Event.{Event}
use Rattle.rules.specs.Room.{Room, Replica, Filing, fresh_room, with_clock, with_late, with_replica, issue, with_history, remember}
use Rattle.rules.specs.Clock.{tick}
use Rattle.rules.specs.Play.{on_event, step, play, after}
use Rattle.rules.proofs.Laws.Changes.{Change, recorded, issued, filed, remembered, change, changed, event_comes}

-- r₁ is r with more
pub record Grows (r r₁ : Room) : Type 0 where
  pub counters : (x name : ℕ) → Sub (r.counter x name) (r₁.counter x name)
  pub submissions : Sub r.submitted r₁.submitted
  pub times : Sub r.ticks r₁.ticks
  pub filings : Sub r.histories r₁.histories

pub still_submitted : {r r₁ : Room} → Grows r r₁ → (request : ℕ) → holds request r.submitted ≡ true → holds request r₁.submitted ≡ true
still_submitted {r} {r₁} g request e =
    let h = holds_nth r.submitted request e in
    holds_at r₁.submitted h.0 request (g.submissions h.0 request h.1)

pub grows_refl : (r : Room) → Grows r r
grows_refl r = record { counters = λ x name i c e. e; submissions = λ i q e. e; times = λ i t e. e; filings = λ i h e. e }

pub grows_trans : {a b c : Room} → Grows a b → Grows b c → Grows a c
grows_trans f g =
    record {
      counters = λ x name i c e. g.counters x name i c (f.counters x name i c e);
      submissions = λ i q e. g.submissions i q (f.submissions i q e);
      times = λ i t e. g.times i t (f.times i t e);
      filings = λ i h e. g.filings i h (f.filings i h e);
    }

-- ---- one part of a room anew

-- where none of the four changes
pub grows_same : {r r₁ : Room} → r₁.counter ≡ r.counter → r₁.submitted ≡ r.submitted → r₁.ticks ≡ r.ticks → r₁.histories ≡ r.histories
    → Grows r r₁
grows_same ec es et eh =
    record { counters = λ x name i c e. rw ec e; submissions = λ i q e. rw es e; times = λ i t e. rw et e; filings = λ i h e. rw eh e }

pub grows_with_replica : (r : Room) (x : ℕ) (p : Replica) → Grows r (with_replica r x p)
unfolding with_replica
grows_with_replica r x p = grows_same refl refl refl refl

pub grows_remember : (r : Room) (request : ℕ) → Grows r (remember r request)
unfolding remember
grows_remember r request =
    record {
      counters = λ x name i c e. e;
      submissions = λ i q e. nth-append r.submitted (request ∷ []) i e;
      times = λ i t e. nth-append r.ticks (r.clock ∷ []) i e;
      filings = λ i h e. e;
    }

pub grows_with_history : (r : Room) (h : Filing) (n : ℕ) → Grows r (with_history r h n)
unfolding with_history
grows_with_history r h n =
    record {
      counters = λ x name i c e. e;
      submissions = λ i q e. e;
      times = λ i t e. e;
      filings = λ i g e. nth-append r.histories (h ∷ []) i e;
    }

pub grows_issue : (r : Room) (x name : ℕ) (c : Content) → Grows r (issue r x name c)
unfolding issue
grows_issue r x name c =
    record {
      counters = λ y n i d e.
          pick_elim (λ l. nth l i ≡ Some d) (eqb n name && eqb y x)
          (λ t. let a = eqb-true n name (and_l (eqb n name) (eqb y x) t) in
          let b = eqb-true y x (and_r (eqb n name) (eqb y x) t) in
          nth-append (r.counter x name) (c ∷ []) i (rw (a, b) at e))
          (λ t. e);
      submissions = λ i q e. e;
      times = λ i t e. e;
      filings = λ i h e. e;
    }

-- ---- one event

grows_change : (r : Room) (c : Change) → Grows r (change r c)
grows_change r (recorded x p) = grows_with_replica r x p
grows_change r (issued x name content) = grows_issue r x name content
grows_change r (filed h n) = grows_with_history r h n
grows_change r (remembered request) = grows_remember r request

grows_changed : (r : Room) (cs : List Change) → Grows r (changed r cs)
grows_changed r [] = grows_refl r
grows_changed r (c ∷ cs) = grows_trans (grows_change r c) (grows_changed (change r c) cs)

pub event_grows : (kit : Kit) (r : Room) (e : Event) (list : List ℕ) → Grows r (on_event kit r e list).room
event_grows kit r e list = let few = (event_comes kit r e list).few in rw few.gives (grows_changed r few.changes)

pub tick_grows : (kit : Kit) (r : Room) (gap : ℕ) → Grows r (tick kit r gap)
unfolding tick with_clock with_late
tick_grows kit r gap = grows_same refl refl refl refl

pub step_grows : (kit : Kit) (r : Room) (e : Entry) → Grows r (step kit r e).room
unfolding step
step_grows kit r e = grows_trans (tick_grows kit r e.gap) (event_grows kit _ e.event e.requests)

-- ---- a play

pub play_grows : (kit : Kit) (r : Room) (es : List Entry) → Grows r (play kit r es)
unfolding play
play_grows kit r [] = grows_refl r
play_grows kit r (e ∷ es) = grows_trans (step_grows kit r e) (play_grows kit (step kit r e).room es)

pub play_append : (kit : Kit) (r : Room) (es fs : List Entry) → play kit r (es ++ fs) ≡ play kit (play kit r es) fs
unfolding play
play_append kit r [] fs = refl
play_append kit r (e ∷ es) fs = play_append kit (step kit r e).room es fs

-- a later moment of a kit's play comes from an earlier one by the events between them
pub after_later : (kit : Kit) (m n : ℕ) → m ≤ n → after kit n ≡ play kit (after kit m) (take (n - m) (drop m kit.events))
unfolding after
after_later kit m n l =
    let e : n ≡ m + (n - m) = omega arith in
    ap (λ (i : ℕ). play kit (fresh_room kit) (take i kit.events)) e
    ∙ ap (play kit (fresh_room kit)) (take-add m (n - m) kit.events)
    ∙ play_append kit (fresh_room kit) (take m kit.events) (take (n - m) (drop m kit.events))

take_snoc : (l : List Entry) (n : ℕ) (e : Entry) → nth l n ≡ Some e → take (suc n) l ≡ take n l ++ (e ∷ [])
take_snoc [] n e h = no_way (cc)
take_snoc (x ∷ l) zero e h = let z : x ≡ e = cc in rw z
take_snoc (x ∷ l) (suc n) e h = ap (λ (z : List Entry). x ∷ z) (take_snoc l n e h)

-- one event more
pub after_suc : (kit : Kit) (n : ℕ) (e : Entry) → nth kit.events n ≡ Some e → after kit (suc n) ≡ (step kit (after kit n) e).room
unfolding after play
after_suc kit n e h =
    ap (play kit (fresh_room kit)) (take_snoc kit.events n e h) ∙ play_append kit (fresh_room kit) (take n kit.events) (e ∷ [])

pub after_grows : (kit : Kit) (m n : ℕ) → m ≤ n → Grows (after kit m) (after kit n)
after_grows kit m n l = rw (after_later kit m n l) (play_grows kit (after kit m) _)
