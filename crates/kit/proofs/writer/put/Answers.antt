-- `put`: a turn. Assumes nothing.
use Rattle.std.proofs.Common.{refl, arith}
use Rattle.kit.proofs.Writing.{putting_next}
use Rattle.kit.proofs.writer.put.Goals as goal

pub loop-n-preserved : goal.loop-n-preserved
loop-n-preserved c = putting_next c.loop-n.invariant (omega arith) (omega arith) c.in-Some.ensures c.in-Some.next refl
