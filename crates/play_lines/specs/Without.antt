-- The printed play of a kit without the line of one event, the later events numbered one lower. Laws: WithoutLaws, in proofs/. Places are counted
-- from 0, so that the line of the event at place k has the number k+1. Assumes nothing.
use Rattle.std.specs.Prelude.{List, ◌++◌, ℕ, suc, ◌-◌}
use Rattle.std.proofs.Math.ListN.{length}
use Rattle.terms.specs.Kit.{Kit}
use Rattle.rules.specs.Play.{after, answer}
use Rattle.play_lines.specs.Lines.{event_line, lines_from}
use Rattle.room.specs.Said.{number_said}
use Rattle.play_lines.specs.PlayText.{event_said, room_said}

-- the line of the event at place k under the number k instead of k+1
unfoldable pub lowered : Kit → ℕ → List ℕ
lowered kit k = event_line k (after kit (suc k)).clock (number_said (answer kit k))

-- the lines of the replicas and of the late tick in the end
abbrev pub end_said : Kit → List ℕ
end_said kit = room_said kit (after kit (length kit.events))

-- the printed play, with the line of the event at place n apart
unfoldable pub text_with : ℕ → Kit → List ℕ
text_with n kit =
    lines_from 0 n (event_said kit) ++ (event_said kit n ++ (lines_from (suc n) (length kit.events - suc n) (event_said kit) ++ end_said kit))

-- the printed play without that line
unfoldable pub text_without : ℕ → Kit → List ℕ
text_without n kit = lines_from 0 n (event_said kit) ++ (lines_from (suc n) (length kit.events - suc n) (lowered kit) ++ end_said kit)
