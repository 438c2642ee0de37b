-- Writes the spelling. The invariant (`Head`): the spelling of what is left of the number, stored from the place on, gives what the whole spelling
-- gives stored from `at` on, and ends where it ends. Assumes nothing.
use Rattle.number.proofs.Writing.{Head}
use Rattle.number.proofs.put.Given as goal

abbrev pub invariant-loop-left : goal.invariant-loop-left
invariant-loop-left l = Head l.fn.out l.fn.at l.fn.n l.out l.left l.to

abbrev pub decreases-loop-left : goal.decreases-loop-left
decreases-loop-left l = l.left
