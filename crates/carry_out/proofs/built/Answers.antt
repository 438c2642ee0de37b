-- `built`: one submission more. Assumes nothing.
use Rattle.carry_out.proofs.Turns.{next_appended}
use Rattle.carry_out.proofs.built.Goals as goal

pub loop-request-preserved : goal.loop-request-preserved
loop-request-preserved c = rw c.add_missing.ensures (next_appended c.loop-request.invariant c.loop-request-test.true)
