-- `check`. The invariant (`Checking`): the judge has heard the numbers before the place, and what it will say of those from there on is what is
-- said of the whole. Assumes nothing.
use Rattle.std.proofs.Common.{length, ◌-◌}
use Rattle.kit.proofs.Checking.{Checking}
use Rattle.kit.proofs.check.Given as goal

abbrev pub invariant-loop-found : goal.invariant-loop-found
invariant-loop-found l = Checking l.bytes l.judge l.at

abbrev pub decreases-loop-found : goal.decreases-loop-found
decreases-loop-found l = length l.bytes - l.at
