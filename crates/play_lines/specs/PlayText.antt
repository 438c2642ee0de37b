-- The printed play as the rules say it: for each event its number, the clock after it and its answer; for each replica its number, its
-- condition, its settled count, its mark and its settled requests; and the late tick. Laws: PlayTextLaws. Assumes nothing.
use Rattle.std.specs.Prelude.{List, ◌++◌, ℕ, suc, length}
use Rattle.terms.specs.Lists.{pick}
use Rattle.terms.specs.Kit.{Kit}
use Rattle.rules.specs.Room.{Room}
use Rattle.rules.specs.Reading.{is_faulty, settled}
use Rattle.rules.specs.Play.{after, answer}
use Rattle.room.specs.Said.{number_said}
use Rattle.play_lines.specs.Lines.{event_line, settled_line, late_text, lines_from}

-- the line of the event that comes after the first k
unfoldable pub event_said : Kit → ℕ → List ℕ
event_said kit k = event_line (suc k) (after kit (suc k)).clock (number_said (answer kit k))

-- of a faulty replica no mark is shown, and it has settled nothing: 0 0
unfoldable pub replica_said : Kit → Room → ℕ → List ℕ
replica_said kit r x =
    let p = r.replica x in
    settled_line x p.condition (pick (is_faulty p.condition) 0 p.mark) (settled kit r x)

-- the lines of the replicas and of the late tick
unfoldable pub room_said : Kit → Room → List ℕ
room_said kit r = lines_from 0 (length kit.table) (replica_said kit r) ++ late_text r.late

-- the play of the first n events
unfoldable pub text_after : Kit → ℕ → List ℕ
text_after kit n = lines_from 0 n (event_said kit) ++ room_said kit (after kit n)

-- the play of them all
unfoldable pub text_of_play : Kit → List ℕ
text_of_play kit = text_after kit (length kit.events)
