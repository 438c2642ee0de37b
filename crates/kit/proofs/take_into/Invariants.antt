-- `take_into`. The invariant (`Filling`): the numbers from the place on, as many as are left, stored from entry i on, make of the list what all the
-- numbers make of the list as it was, and end where they end. Assumes nothing.
use Rattle.kit.proofs.Filling.{Filling}
use Rattle.kit.proofs.take_into.Given as goal

abbrev pub invariant-loop-slot : goal.invariant-loop-slot
invariant-loop-slot l = Filling l.bytes l.fn.at l.fn.out l.slot-items l.slot-index l.next
