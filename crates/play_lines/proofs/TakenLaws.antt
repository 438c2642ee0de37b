-- Laws of Taken: of a kit with an event that is taken, and of a kit into which a hand of the built history has been put: up to there the lines are those
-- of the kit, and the line of the hand ends in 0. Assumes nothing.
use Rattle.std.specs.Prelude.{◌≡◌, ℕ, suc, ◌+◌, ◌≤◌, ◌<◌, length, Some}
use Rattle.std.proofs.Common.{◌∙◌, arith}
use Rattle.terms.specs.Kit.{Kit}
use Rattle.terms.specs.Numbers.{Taken}
use Rattle.rules.specs.Play.{after, answer}
use Rattle.rules.proofs.Agreement.HandedIn.{PlaysHandedIn}
use Rattle.play_lines.specs.Lines.{event_line}
use Rattle.play_lines.specs.LinesLaws.{lines_ext}
use Rattle.play_lines.specs.PlayText.{event_said, text_of_play}
use Rattle.play_lines.specs.Without.{text_with}
use Rattle.play_lines.specs.Taken.{text_taken}
use Rattle.play_lines.proofs.WithoutLaws.{text_with_lem}

pub text_taken_lem : (kit : Kit) (n : ℕ) → n < length kit.events → answer kit n ≡ Some Taken → text_of_play kit ≡ text_taken n (after kit (suc n)).clock kit kit
unfolding text_with text_taken event_said
text_taken_lem kit n l is_taken =
    let line : event_said kit n ≡ event_line (suc n) (after kit (suc n)).clock 0 = rw is_taken in
    text_with_lem kit n l ∙ rw line

pub text_handed_in
    : {kit kit₁ : Kit} {n number gap to : ℕ} → PlaysHandedIn kit kit₁ n number gap to → n ≤ length kit.events
    → text_of_play kit₁ ≡ text_taken n ((after kit n).clock + gap) kit kit₁
unfolding text_taken event_said
text_handed_in {kit} {kit₁} {n} p place =
    let before = lines_ext n 0 (event_said kit₁) (event_said kit) (λ k h. rw (p.room_before (suc k) (omega arith), p.answer_before k (omega arith))) in
    text_taken_lem kit₁ n (omega (arith, p.count)) p.is_taken ∙ rw (before, p.clock)
