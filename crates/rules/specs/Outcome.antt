-- What an event comes to: its answer and the room after it. What is decided of an event gives the answer; a refusal leaves the room as it is handed
-- over. Assumes nothing.
use Rattle.std.specs.Prelude.{Bool, Ok, Err}
use Rattle.terms.specs.Lists.{pick}
use Rattle.terms.specs.Numbers.{Answer, Taken, Decision}
use Rattle.terms.specs.declared.Refusal.{Refusal}
use Rattle.rules.specs.Room.{Room}

pub record Outcome : Type 0 where
  pub answer : Answer
  pub room : Room

abbrev pub outcome : Answer → Room → Outcome
outcome a r = record { answer = a; room = r }

abbrev pub taken : Room → Outcome
taken r = outcome Taken r

-- refused with this answer if the test holds, else what follows
unfoldable pub refuse_if : Bool → Refusal → Decision → Decision
refuse_if test refusal next = pick test (Err refusal) next

-- everything but a refusal is taken
abbrev pub answer_of : Decision → Answer
answer_of (Err refusal) = Err refusal
answer_of (Ok deed) = Taken
