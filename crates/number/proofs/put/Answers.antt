-- `put`: what holds at the loop's head before the first turn, and what the last group leaves. Assumes nothing.
use Rattle.std.proofs.Common.{arith}
use Rattle.number.proofs.Writing.{head_first, last}
use Rattle.number.proofs.put.Goals as goal

pub loop-left-init : goal.loop-left-init
loop-left-init c = head_first c.args.out.now c.args.at c.args.n (omega arith)

pub returns : goal.returns
returns c = last c.loop-left.invariant (omega arith) (omega arith)
