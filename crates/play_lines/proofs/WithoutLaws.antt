-- Laws of Without: the kit with one idle less prints the play without that event's line. Assumes nothing.
use Rattle.std.proofs.Common.{◌≡◌, refl, List, ◌++◌, ap, ◌∙◌, append_assoc, arith, ℕ, suc, ◌-◌, ◌≤◌, ◌<◌}
use Rattle.std.proofs.Math.ListN.{length}
use Rattle.terms.specs.Kit.{Kit, Entry}
use Rattle.rules.specs.Table.{is_active, actives}
use Rattle.rules.specs.Room.{Room}
use Rattle.rules.specs.Reading.{settled_count, settled_noted, settled}
use Rattle.rules.specs.Play.{after}
use Rattle.rules.proofs.Laws.Settings.{same_table}
use Rattle.rules.proofs.Laws.Instead.{with_events}
use Rattle.rules.proofs.Laws.IdleEdits.{OneIdleLess, PlaysWithout, OneEventLess, one_event_less}
use Rattle.rules.proofs.Laws.IdlePlays.{plays_without}
use Rattle.play_lines.specs.Lines.{lines_from}
use Rattle.play_lines.specs.LinesLaws.{lines_ext, lines_at, lines_higher}
use Rattle.play_lines.specs.PlayText.{event_said, replica_said, room_said, text_after, text_of_play}
use Rattle.play_lines.specs.Without.{lowered, end_said, text_with, text_without}

-- ---- the printed play in two parts

text_at
    : (kit : Kit) (n : ℕ) → n ≤ length kit.events
    → text_of_play kit ≡ lines_from 0 n (event_said kit) ++ (lines_from n (length kit.events - n) (event_said kit) ++ end_said kit)
unfolding text_of_play text_after room_said
text_at kit n l = rw (lines_at n (length kit.events) (event_said kit) l) (append_assoc (lines_from 0 n (event_said kit)) _ _)

pub text_with_lem : (kit : Kit) (n : ℕ) → n < length kit.events → text_of_play kit ≡ text_with n kit
unfolding text_with lines_from
text_with_lem kit n l =
    let many : length kit.events - n ≡ suc (length kit.events - suc n) = omega arith in
    text_at kit n (omega arith)
    ∙ ap (λ (m : ℕ). lines_from 0 n (event_said kit) ++ (lines_from n m (event_said kit) ++ end_said kit)) many
    ∙ ap (λ (z : List ℕ). lines_from 0 n (event_said kit) ++ z) (append_assoc (event_said kit n) _ _)

-- ---- the kit with one idle less

-- what is said of a room goes by the settings
room_same : (kit : Kit) (events : List Entry) (r : Room) → room_said (with_events kit events) r ≡ room_said kit r
unfolding with_events same_table room_said replica_said settled settled_noted settled_count is_active actives
room_same kit events r = refl

pub end_same
    : (kit kit₁ : Kit) → kit₁ ≡ with_events kit kit₁.events → after kit₁ (length kit₁.events) ≡ after kit (length kit.events)
    → end_said kit₁ ≡ end_said kit
end_same kit kit₁ settings last =
    ap (λ (k : Kit). room_said k (after kit₁ (length kit₁.events))) settings
    ∙ room_same kit kit₁.events (after kit₁ (length kit₁.events))
    ∙ ap (room_said kit) last

module _ {n : ℕ} {kit kit₁ : Kit} (p : PlaysWithout n kit kit₁) (o : OneEventLess n kit kit₁) where
  said_before : (k : ℕ) → k < n → event_said kit₁ k ≡ event_said kit k
  unfolding event_said
  said_before k l = rw (p.room_before (suc k) (omega arith), p.answer_before k l)

  said_later : (k : ℕ) → n ≤ k → event_said kit₁ k ≡ lowered kit (suc k)
  unfolding event_said lowered
  said_later k l = rw (p.room_later (suc k) (omega arith), p.answer_later k l)

  text_lowered : text_of_play kit₁ ≡ text_without n kit
  unfolding text_without
  text_lowered =
      let many : length kit.events - suc n ≡ length kit₁.events - n = omega (arith, o.count) in
      let before = lines_ext n 0 (event_said kit₁) (event_said kit) (λ k h. said_before k (omega arith)) in
      let later = lines_higher (length kit₁.events - n) n (event_said kit₁) (lowered kit) said_later in
      text_at kit₁ n (omega (arith, o.count, o.place)) ∙ rw (many, before, later, end_same kit kit₁ o.settings p.room_last)

pub text_without_lem : {n : ℕ} {kit kit₁ : Kit} → 1 ≤ kit.patience → OneIdleLess n kit kit₁ → text_of_play kit₁ ≡ text_without n kit
text_without_lem low i = text_lowered (plays_without low i) (one_event_less i)
