-- One decision done on the player's parts: entered, applied to the record of the replica concerned, and counted. That this is what the
-- rules do is a law: DoneLaws. Assumes nothing.
use Rattle.std.specs.Prelude.{List, ℕ, set}
use Rattle.replica.specs.declared.Replica.{Replica}
use Rattle.terms.specs.declared.Roles.{Roles}
use Rattle.terms.specs.Numbers.{Decision}
use Rattle.room.specs.Desk.{counted_on}
use Rattle.room.specs.Layout.{Parts}
use Rattle.carry_out.specs.Enter.{Entered, enter_on}
use Rattle.carry_out.specs.Apply.{Applied, apply_on}

-- the lists after what was entered, and the desk that has counted it
abbrev pub entering : Parts → Decision → Entered → Parts
entering parts decision e =
    record {
      desk = counted_on parts.desk decision;
      submissions = e.submissions;
      histories = e.histories;
      book = parts.book;
      replicas = parts.replicas;
    }

-- the counters, and the record of replica `me`, after what it did
abbrev pub acting : Parts → ℕ → Applied → Parts
acting parts me a =
    record {
      desk = parts.desk;
      submissions = parts.submissions;
      histories = parts.histories;
      book = a.book;
      replicas = set parts.replicas me a.replica;
    }

-- p is the record of replica `me`, the n requests of `list` those of a filed history
unfoldable pub done_on : Roles → Parts → Replica → ℕ → Decision → List ℕ → ℕ → Parts
done_on roles parts p me decision list n =
    let e = enter_on decision parts.desk p list n parts.submissions parts.histories in
    acting (entering parts decision e) me (apply_on p decision parts.desk me roles e.histories parts.book)
