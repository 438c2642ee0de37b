-- `take_into`: a turn, and what the last one leaves. Assumes nothing.
use Rattle.std.proofs.Common.{arith}
use Rattle.kit.proofs.Filling.{filling_next, filling_last}
use Rattle.kit.proofs.take_into.Goals as goal

pub loop-slot-preserved : goal.loop-slot-preserved
loop-slot-preserved c = rw c.take-found.ensures (filling_next c.loop-slot.invariant (omega arith))

pub returns : goal.returns
returns c = filling_last c.loop-slot.invariant (omega arith)
