-- `has_room`. The invariant (`Measuring`): the spellings from number i on have room in what is left exactly if all have room in the whole.
-- Assumes nothing.
use Rattle.kit.proofs.Writing.{Measuring}
use Rattle.kit.proofs.writer.has_room.Given as goal

abbrev pub invariant-loop-n : goal.invariant-loop-n
invariant-loop-n l = Measuring l.numbers l.room l.left l.n-index
