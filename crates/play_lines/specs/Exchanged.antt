-- The printed play of a kit in which two neighbouring events have each the other's answer. Laws: ExchangedLaws, in proofs/. Places are counted from 0,
-- so that the line of the event at place k has the number k+1. Assumes nothing.
use Rattle.std.specs.Prelude.{List, ◌++◌, ℕ, suc, length, eqb}
use Rattle.terms.specs.Lists.{pick}
use Rattle.terms.specs.Kit.{Kit}
use Rattle.rules.specs.Play.{after, answer}
use Rattle.play_lines.specs.Lines.{event_line, lines_from}
use Rattle.room.specs.Said.{number_said}
use Rattle.play_lines.specs.Without.{end_said}

-- places n and n+1 exchanged, every other place as it is
abbrev pub exchanged_place : ℕ → ℕ → ℕ
exchanged_place n k = pick (eqb k n) (suc n) (pick (eqb k (suc n)) n k)

-- the line of the event at place k, with the answer that the exchange brings there
unfoldable pub exchanged_said : ℕ → Kit → ℕ → List ℕ
exchanged_said n kit k = event_line (suc k) (after kit (suc k)).clock (number_said (answer kit (exchanged_place n k)))

unfoldable pub text_exchanged : ℕ → Kit → List ℕ
text_exchanged n kit = lines_from 0 (length kit.events) (exchanged_said n kit) ++ end_said kit
