-- What a replica has settled, read off the parts that the player keeps, whatever is in them; and what is shown of its record. Laws:
-- SettledLaws, where the parts are a room's of the rules. Assumes nothing.
use Rattle.std.specs.Prelude.{true, Option, None, Some, List, [], ℕ, min, get_or, take, ltb}
use Rattle.terms.specs.Limits.{histories_max, ag}
use Rattle.terms.specs.Lent.{Histories, no_history}
use Rattle.terms.specs.Lists.{pick}
use Rattle.terms.specs.declared.Roles.{Roles}
use Rattle.terms.specs.declared.Condition.{Condition}
use Rattle.terms.specs.declared.Condition.TheVariants.{Running, Halted, Closed, Faulty}
use Rattle.rules.specs.Reading.{is_faulty}
use Rattle.ledger.specs.declared.Book.{Book}
use Rattle.ledger.specs.Ledger.{total_of}
use Rattle.replica.specs.declared.Replica.{Replica}
use Rattle.replica.specs.Record.{fresh_record, settled_in}

-- a replica that has not closed: the first of its noted requests
unfoldable pub noted_settled : Roles → Book → ℕ → Replica → List ℕ
noted_settled roles book x p = take (min (settled_in p.accepted roles.table roles.leader x (total_of book x ag)) p.count) p.noted

-- a closed one: the whole list of the history that it holds
abbrev pub list_held : Histories → Option ℕ → List ℕ
list_held histories None = []
list_held histories (Some h) =
    let history = get_or histories h no_history in
    pick (ltb h histories_max) (take history.count history.list) []

unfoldable pub held_settled : Histories → Replica → List ℕ
held_settled histories p = list_held histories p.held

module _ (roles : Roles) (histories : Histories) (book : Book) (x : ℕ) (p : Replica) where
  -- by its condition: a faulty one has settled nothing
  abbrev pub settled_by : Condition → List ℕ
  settled_by Running = noted_settled roles book x p
  settled_by Halted = noted_settled roles book x p
  settled_by Closed = held_settled histories p
  settled_by Faulty = []

  unfoldable pub settled_of : List ℕ
  settled_of = settled_by p.condition

-- of a faulty replica a fresh record is shown
unfoldable pub shown_record : Replica → Replica
shown_record p = pick (is_faulty p.condition) (fresh_record true) p
