-- The printed play of a kit with the line of an event that is taken apart: it ends in 0. Laws: TakenLaws, in proofs/. Places are counted from 0, so that
-- the line of the event at place k has the number k+1. Assumes nothing.
use Rattle.std.specs.Prelude.{List, ◌++◌, ℕ, suc, ◌-◌, length}
use Rattle.terms.specs.Kit.{Kit}
use Rattle.play_lines.specs.Lines.{event_line, lines_from}
use Rattle.play_lines.specs.PlayText.{event_said}
use Rattle.play_lines.specs.Without.{end_said}

-- the lines behind that of the event at place n, and what is said of the end
abbrev pub text_behind : ℕ → Kit → List ℕ
text_behind n kit = lines_from (suc n) (length kit.events - suc n) (event_said kit) ++ end_said kit

-- a printed play of which the lines up to place n are those of kit, the next is of the event at place n, taken when the clock is at this tick, and
-- what follows is what kit₁ has behind place n
unfoldable pub text_taken : ℕ → ℕ → Kit → Kit → List ℕ
text_taken n clock kit kit₁ = lines_from 0 n (event_said kit) ++ (event_line (suc n) clock 0 ++ text_behind n kit₁)
