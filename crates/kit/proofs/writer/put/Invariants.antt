-- `put`. The invariant (`Putting`): the spellings from number i on, stored from the place on, make of the buffer what all the spellings make of the
-- buffer as it was, and end where they end. Assumes nothing.
use Rattle.kit.proofs.Writing.{Putting}
use Rattle.kit.proofs.writer.put.Given as goal

abbrev pub invariant-loop-n : goal.invariant-loop-n
invariant-loop-n l = Putting l.numbers l.fn.out l.out l.at l.n-index
