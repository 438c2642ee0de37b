-- A replica of the rules as the record keeps it: lists in arrays of 64 places, zeros after them, and the accepted values in 21 rows.
-- Laws: RecordLaws. Assumes nothing.
use Rattle.std.specs.Prelude.{length}
use Rattle.terms.specs.Limits.{requests_max}
use Rattle.terms.specs.Padding.{pad}
use Rattle.terms.specs.Tabulate.{grid}
use Rattle.rules.specs.Room as Rules
use Rattle.replica.specs.declared.Replica.{Replica}

unfoldable pub lay_replica : Rules.Replica → Replica
lay_replica p =
    record {
      condition = p.condition;
      noted = pad requests_max p.noted;
      count = length p.noted;
      marks = pad requests_max p.pair_marks;
      pairs = length p.pair_marks;
      mark = p.mark;
      accepted = grid p.accepted;
      held = p.held;
    }
