-- The patience decides the late tick and nothing else: at every moment the room apart from it, and every answer, are the same at every
-- patience. Assumes nothing.
use Rattle.std.proofs.Common.{◌≡◌, ℕ, take, sym, ◌∙◌, List, [], ◌∷◌}
use Rattle.std.proofs.Math.Path.{refl, ap}
use Rattle.std.specs.Prelude.{Option, None, Some}
use Rattle.terms.specs.Lists.{nth}
use Rattle.terms.specs.Kit.{Kit, Entry}
use Rattle.rules.specs.Table.{is_marked_faulty}
use Rattle.rules.specs.Room.{Room, fresh_room, with_clock, with_late}
use Rattle.rules.specs.Clock.{tick}
use Rattle.rules.specs.Play.{step, play, after, answer_in, answer}
use Rattle.rules.proofs.Laws.Settings.{same_table, event_same}
use Rattle.rules.proofs.Laws.LateAside.{late_with, event_late}

-- the kit with another patience
unfoldable pub with_patience : Kit → ℕ → Kit
with_patience kit patience = same_table kit patience kit.events

-- r₁ is r but for its late tick
abbrev pub ButLate : Room → Room → Type 0
ButLate r r₁ = r₁ ≡ with_late r r₁.late

but_late : (r r₁ : Room) (late : Option ℕ) → r₁ ≡ with_late r late → ButLate r r₁
unfolding with_late
but_late r r₁ late e = e ∙ ap (with_late r) (sym (ap (λ (z : Room). z.late) e))

module _ (kit : Kit) (patience : ℕ) where
  -- an event, where before it the two rooms differ at most in the late tick
  step_aside
      : (r : Room) (late : Option ℕ) (e : Entry)
      → step (with_patience kit patience) (with_late r late) e ≡ late_with (step kit r e) (tick (with_patience kit patience) (with_late r late) e.gap).late
  unfolding with_patience step tick with_clock with_late
  step_aside r late e =
      let ticked = tick (with_patience kit patience) (with_late r late) e.gap in
      event_same kit patience kit.events ticked e.event e.requests ∙ event_late kit ticked.late (tick kit r e.gap) e.event e.requests

  play_aside
      : (r : Room) (late : Option ℕ) (es : List Entry)
      → (late₁ : Option ℕ) × (play (with_patience kit patience) (with_late r late) es ≡ with_late (play kit r es) late₁)
  unfolding play late_with
  play_aside r late [] = (late, refl)
  play_aside r late (e ∷ es) = rw (step_aside r late e) (play_aside (step kit r e).room _ es)

  fresh_aside : fresh_room (with_patience kit patience) ≡ with_late (fresh_room kit) None
  unfolding with_patience same_table fresh_room is_marked_faulty with_late
  fresh_aside = refl

  after_aside : (n : ℕ) → (late : Option ℕ) × (after (with_patience kit patience) n ≡ with_late (after kit n) late)
  unfolding after with_patience same_table
  after_aside n = rw fresh_aside (play_aside (fresh_room kit) None (take n kit.events))

  -- the room after the first n events
  pub patience_room : (n : ℕ) → ButLate (after kit n) (after (with_patience kit patience) n)
  patience_room n = let a = after_aside n in but_late _ _ a.0 a.1

  answers_aside : (r : Room) (late : Option ℕ) (o : Option Entry) → answer_in (with_patience kit patience) (with_late r late) o ≡ answer_in kit r o
  unfolding late_with
  answers_aside r late None = refl
  answers_aside r late (Some e) = ap (λ o. Some o.answer) (step_aside r late e)

  -- and every answer
  pub patience_answer : (n : ℕ) → answer (with_patience kit patience) n ≡ answer kit n
  unfolding answer with_patience same_table
  patience_answer n = let a = after_aside n in rw a.1 (answers_aside (after kit n) a.0 (nth kit.events n))
