-- A room of the rules laid out as the parts that the player keeps: lists as arrays that are 0 beyond their length, the replicas' records
-- and the counters as crates replica and ledger lay them out. Laws: LayoutLaws. Assumes nothing.
use Rattle.std.specs.Prelude.{Option, None, Some, List, [], ℕ, length}
use Rattle.terms.specs.Lent.{Table, Histories}
use Rattle.terms.specs.Limits.{replicas_max, requests_max, histories_max}
use Rattle.terms.specs.Lists.{nth}
use Rattle.terms.specs.Padding.{pad}
use Rattle.terms.specs.Tabulate.{tab}
use Rattle.terms.specs.Kit.{Kit}
use Rattle.rules.specs.Table.{switch_leader}
use Rattle.rules.specs.Room.{Room, Filing}
use Rattle.rules.specs.Room as Rules
use Rattle.ledger.specs.declared.Book.{Book}
use Rattle.ledger.specs.LedgerLayout.{lay_book}
use Rattle.replica.specs.declared.Replica.{Replica}
use Rattle.replica.specs.RecordLayout.{lay_replica}
use Rattle.room.specs.declared.Desk.{Desk}
use Rattle.terms.specs.declared.Roles.{Roles}
use Rattle.terms.specs.declared.Submissions.{Submissions}
use Rattle.terms.specs.declared.History.{History}

-- what the player keeps of a room: the desk; what was submitted; the histories; the counters; the replicas' records
pub record Parts : Type 0 where
  pub desk : Desk
  pub submissions : Submissions
  pub histories : Histories
  pub book : Book
  pub replicas : List Replica

-- ---- the kit's settings

unfoldable pub lay_table : Kit → Table
lay_table kit = pad replicas_max kit.table

unfoldable pub lay_roles : Kit → Roles
lay_roles kit =
    record {
      f = kit.f;
      size = length kit.table;
      leader = kit.leader;
      switcher = switch_leader kit;
      patience = kit.patience;
      table = lay_table kit;
    }

-- ---- the room

unfoldable pub lay_submissions : Room → Submissions
lay_submissions r = record { requests = pad requests_max r.submitted; ticks = pad requests_max r.ticks }

-- j, k, the length of the list, and the list
abbrev pub history_of : Option Filing → History
history_of None = record { j = 0; k = 0; count = 0; list = pad requests_max [] }
history_of (Some h) = record { j = h.j; k = h.k; count = length h.list; list = pad requests_max h.list }

unfoldable pub lay_histories : List Filing → Histories
lay_histories histories = tab histories_max (λ h. history_of (nth histories h))

-- `known` counts the first submissions that are known to be answered; the rules do not keep it
unfoldable pub lay_desk : Room → ℕ → Desk
lay_desk r known =
    record {
      clock = r.clock;
      late = r.late;
      known = known;
      submitted = length r.submitted;
      histories = length r.histories;
      filed = r.filed;
    }

unfoldable pub lay_replicas : (ℕ → Rules.Replica) → List Replica
lay_replicas replica = tab replicas_max (λ x. lay_replica (replica x))

unfoldable pub lay_room : Room → ℕ → Parts
lay_room r known =
    record {
      desk = lay_desk r known;
      submissions = lay_submissions r;
      histories = lay_histories r.histories;
      book = lay_book r.counter;
      replicas = lay_replicas r.replica;
    }
