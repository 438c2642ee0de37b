-- `first_open`: one submission more is due and answered. Assumes nothing.
use Rattle.std.proofs.Common.{sym}
use Rattle.clock.proofs.Turns.{next_passed}
use Rattle.clock.proofs.first_open.Goals as goal

pub loop-i-preserved : goal.loop-i-preserved
loop-i-preserved c = next_passed c.loop-i.invariant c.loop-i-test.true (sym c.if-not-is_passed.ensures)
