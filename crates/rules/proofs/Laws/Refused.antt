-- A refused event leaves exactly the ticked room: clock and late tick have moved, nothing else. Assumes nothing.
use Rattle.std.specs.Prelude.{◌≡◌, refl, true, ◌≢◌, ℕ, suc, ◌+◌, Some}
use Rattle.std.proofs.Common.{sym, ◌∙◌}
use Rattle.terms.specs.Lists.{nth, is_some}
use Rattle.terms.specs.Kit.{Kit, Entry}
use Rattle.terms.specs.Numbers.{Answer}
use Rattle.terms.specs.Numbers.{Taken}
use Rattle.rules.specs.Room.{Room, with_clock, with_late}
use Rattle.rules.specs.Clock.{tick}
use Rattle.rules.specs.Play.{step, after, answer}
use Rattle.rules.proofs.Laws.Changes.{event_comes}
use Rattle.rules.proofs.Laws.Growth.{after_suc}

pub refused_is_ticked : (kit : Kit) (r : Room) (e : Entry) → (step kit r e).answer ≢ Taken → (step kit r e).room ≡ tick kit r e.gap
unfolding step
refused_is_ticked kit r e = (event_comes kit (tick kit r e.gap) e.event e.requests).refused

-- the same at a moment of a play: event n is e, and its answer is a
pub refused_after
    : (kit : Kit) (n : ℕ) (e : Entry) (a : Answer) → nth kit.events n ≡ Some e → answer kit n ≡ Some a → a ≢ Taken
    → after kit (suc n) ≡ tick kit (after kit n) e.gap
unfolding answer
refused_after kit n e a h g d =
    let g₁ : Some (step kit (after kit n) e).answer ≡ Some a = rw h at g in
    after_suc kit n e h ∙ refused_is_ticked kit (after kit n) e (λ t. d (let z : (step kit (after kit n) e).answer ≡ a = cc in sym z ∙ t))

-- ---- what the tick moves, and what it leaves alone: every record, too

pub record Ticked (r : Room) (gap : ℕ) (r₁ : Room) : Type 0 where
  pub clock : r₁.clock ≡ r.clock + gap
  -- what was late before stays so
  pub late : is_some r.late ≡ true → r₁.late ≡ r.late
  -- all else stands
  pub submitted : r₁.submitted ≡ r.submitted
  pub ticks : r₁.ticks ≡ r.ticks
  pub histories : r₁.histories ≡ r.histories
  pub filed : r₁.filed ≡ r.filed
  pub counter : r₁.counter ≡ r.counter
  pub replica : r₁.replica ≡ r.replica

pub tick_ticked : (kit : Kit) (r : Room) (gap : ℕ) → Ticked r gap (tick kit r gap)
unfolding tick with_clock with_late
tick_ticked kit r gap =
    record {
      clock = refl;
      late = λ s. rw s;
      submitted = refl;
      ticks = refl;
      histories = refl;
      filed = refl;
      counter = refl;
      replica = refl;
    }

-- a refused event, at a moment of a play: nothing but clock and late tick
pub refused_ticked
    : (kit : Kit) (n : ℕ) (e : Entry) (a : Answer) → nth kit.events n ≡ Some e → answer kit n ≡ Some a → a ≢ Taken
    → Ticked (after kit n) e.gap (after kit (suc n))
refused_ticked kit n e a h g d = rw (refused_after kit n e a h g d) (tick_ticked kit (after kit n) e.gap)
