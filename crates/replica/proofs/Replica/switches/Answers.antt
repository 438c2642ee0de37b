-- `switches`: fewer than seven are counted before the seventh. Assumes nothing.
use Rattle.std.proofs.Common.{◌<◌, arith}
use Rattle.terms.specs.Limits.{replicas_max}
use Rattle.replica.proofs.Turns.{small}
use Rattle.replica.proofs.Replica.switches.Goals as goal

pub overflow_add-n : goal.overflow_add-n
overflow_add-n c = let few : c.loop-y.n < replicas_max = small c.loop-y.invariant c.loop-y-test.true in omega arith
