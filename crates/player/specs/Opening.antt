-- The room before the first event, by a kit's settings. Laws: OpeningLaws. Assumes nothing.
use Rattle.std.specs.Prelude.{List, ℕ, get_or}
use Rattle.terms.specs.Limits.{replicas_max}
use Rattle.terms.specs.Lent.{Table}
use Rattle.terms.specs.Kit.{marks_faulty}
use Rattle.terms.specs.Tabulate.{tab}
use Rattle.rules.specs.Table.{actives_from, first_but}
use Rattle.kit.specs.declared.Settings.{Settings}
use Rattle.replica.specs.declared.Replica.{Replica}
use Rattle.replica.specs.Record.{fresh_record}
use Rattle.terms.specs.declared.Roles.{Roles}

-- the active replica of lowest number apart from the leader
unfoldable pub switch_leader_of : Table → ℕ → ℕ
switch_leader_of table leader = first_but leader (actives_from table 0)

-- what the settings say of the replicas, and the patience
unfoldable pub roles_in : Settings → Roles
roles_in s =
    record {
      f = s.f;
      size = s.size;
      leader = s.leader;
      switcher = switch_leader_of s.table s.leader;
      patience = s.patience;
      table = s.table;
    }

-- the replicas of a table: faulty where it marks them so, and nothing noted, accepted or held
unfoldable pub fresh_replicas : Table → List Replica
fresh_replicas table = tab replicas_max (λ x. fresh_record (marks_faulty (get_or table x 0)))
