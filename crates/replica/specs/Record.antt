-- The record as the code keeps it, and its steps on every record. Laws: RecordLaws, where a replica of the rules is laid out in this way.
-- Assumes nothing.
use Rattle.std.specs.Prelude.{Bool, false, Some, None, List, ℕ, ◌+◌, ◌*◌, ◌-◌, min, get_or, set, replicate, leb, ltb, eqb}
use Rattle.terms.specs.Limits.{replicas_max, up, sw, names, counters, requests_max}
use Rattle.terms.specs.Lists.{pick, least_over, count_below}
use Rattle.terms.specs.Kit.{marks_active}
use Rattle.terms.specs.declared.Condition.{Condition}
use Rattle.terms.specs.declared.Condition.TheVariants.{Running, Halted, Closed, Faulty}
use Rattle.rules.specs.Table.{actives_from}
use Rattle.rules.specs.Reading.{value_seen}
use Rattle.replica.specs.declared.Replica.{Replica}

unfoldable pub fresh_record : Bool → Replica
fresh_record faulty =
    record {
      condition = pick faulty Faulty Running;
      noted = replicate requests_max 0;
      count = 0;
      marks = replicate requests_max 0;
      pairs = 0;
      mark = 0;
      accepted = replicate counters 0;
      held = None;
    }

-- ---- the record with some parts anew

abbrev pub with_noted : Replica → List ℕ → ℕ → Replica
with_noted p noted count = record p { noted = noted; count = count }

abbrev pub with_pairs : Replica → List ℕ → ℕ → Replica
with_pairs p marks pairs = record p { marks = marks; pairs = pairs }

abbrev pub with_accepted : Replica → List ℕ → Replica
with_accepted p accepted = record p { accepted = accepted }

abbrev pub with_condition : Replica → Condition → Replica
with_condition p condition = record p { condition = condition }

unfoldable pub mark_on : Replica → ℕ → Replica
mark_on p mark = record p { mark = mark }

unfoldable pub hold_on : Replica → ℕ → Replica
hold_on p history = record p { held = Some history }

-- ---- the steps

unfoldable pub note_on : Replica → ℕ → Replica
note_on p request = pick (leb requests_max p.count) p (with_noted p (set p.noted p.count request) (p.count + 1))

unfoldable pub note_pair_on : Replica → ℕ → ℕ → Replica
note_pair_on p request mark =
    pick (leb requests_max p.count) p
    (pick (leb requests_max p.pairs) p
    (with_pairs (with_noted p (set p.noted p.count request) (p.count + 1)) (set p.marks p.pairs mark) (p.pairs + 1)))

unfoldable pub accept_on : Replica → ℕ → ℕ → ℕ → Replica
accept_on p sender name value =
    pick (leb replicas_max sender) p (pick (leb names name) p (with_accepted p (set p.accepted (names * sender + name) value)))

abbrev pub halted : Replica → Condition → Replica
halted p Running = with_condition p Halted
halted p Halted = p
halted p Closed = p
halted p Faulty = p

unfoldable pub halt_on : Replica → Replica
halt_on p = halted p p.condition

unfoldable pub close_on : Replica → ℕ → Replica
close_on p mark = mark_on (with_condition p Closed) mark

-- ---- what is read off it

unfoldable pub accepted_in : List ℕ → ℕ → ℕ → ℕ
accepted_in accepted sender name = pick (leb replicas_max sender) 0 (pick (leb names name) 0 (get_or accepted (names * sender + name) 0))

-- the table marks replica x as active
unfoldable pub active_in : List ℕ → ℕ → Bool
active_in table x = marks_active (get_or table x 0)

unfoldable pub lesser_of : Bool → List ℕ → ℕ → ℕ → ℕ → ℕ → ℕ
lesser_of active accepted me own y c = min (value_seen active own me (accepted_in accepted) y) c

-- the least over the active replicas of what is seen of them, as the rules take it
unfoldable pub least_seen : List ℕ → List ℕ → Bool → ℕ → ℕ → ℕ → ℕ
least_seen table accepted active me own first = least_over (actives_from table 0) (value_seen active own me (accepted_in accepted)) first

-- the settled count of replica x with these accepted values and `own` values on ag
unfoldable pub settled_in : List ℕ → List ℕ → ℕ → ℕ → ℕ → ℕ
settled_in accepted table leader x own =
    least_seen table accepted (active_in table x) x own (pick (active_in table x) own (accepted_in accepted leader up))

-- a SWITCH of replica y, one of the first `size`, was accepted
unfoldable pub switched_in : List ℕ → ℕ → ℕ → Bool
switched_in accepted size y = pick (leb size y) false (leb 1 (accepted_in accepted y sw))

unfoldable pub switches_in : List ℕ → ℕ → ℕ
switches_in accepted size = count_below replicas_max (switched_in accepted size)

unfoldable pub mark_in : List ℕ → ℕ → ℕ
mark_in marks c = pick (eqb c 0) 0 (pick (ltb requests_max c) 0 (get_or marks (c - 1) 0))
