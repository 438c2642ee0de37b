-- The lines of a play, from the parts that the player keeps, whatever is in them. Laws: PlayText, where the parts are a room's of the
-- rules. Assumes nothing.
use Rattle.std.specs.Prelude.{false, List, ◌++◌, ℕ, suc, min, get_or}
use Rattle.terms.specs.Limits.{events_max, replicas_max}
use Rattle.terms.specs.Lent.{Histories}
use Rattle.terms.specs.declared.Roles.{Roles}
use Rattle.ledger.specs.declared.Book.{Book}
use Rattle.replica.specs.declared.Replica.{Replica}
use Rattle.replica.specs.Record.{fresh_record}
use Rattle.room.specs.declared.Desk.{Desk}
use Rattle.room.specs.declared.Log.{Log}
use Rattle.room.specs.Settled.{settled_of, shown_record}
use Rattle.play_lines.specs.Lines.{event_line, settled_line, late_text, lines_from}

-- ---- events

-- the line of the event that comes after the first k
abbrev pub event_at : Log → ℕ → List ℕ
event_at log k = event_line (suc k) (get_or log.clocks k 0) (get_or log.answers k 0)

unfoldable pub event_lines : Log → ℕ → List ℕ
event_lines log n = lines_from 0 (min n events_max) (event_at log)

-- ---- replicas

-- number, condition, mark, settled list: of a faulty one mark 0 and nothing settled
unfoldable pub replica_line : Roles → Histories → Book → ℕ → Replica → List ℕ
replica_line roles histories book x p = settled_line x p.condition (shown_record p).mark (settled_of roles histories book x p)

-- the line of replica x
abbrev pub replica_at : Roles → Histories → Book → List Replica → ℕ → List ℕ
replica_at roles histories book replicas x = replica_line roles histories book x (get_or replicas x (fresh_record false))

-- one line for each replica
unfoldable pub replica_lines : List Replica → Roles → Histories → Book → List ℕ
replica_lines replicas roles histories book = lines_from 0 (min roles.size replicas_max) (replica_at roles histories book replicas)

-- ---- the whole

unfoldable pub lines_of_play : Log → ℕ → Desk → List Replica → Roles → Histories → Book → List ℕ
lines_of_play log n desk replicas roles histories book =
    event_lines log n ++ (replica_lines replicas roles histories book ++ late_text desk.late)
