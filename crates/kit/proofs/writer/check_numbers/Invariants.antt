-- `check_numbers`. The invariant (`Hearing`): the judge has heard the first i numbers, and what it will say of the others is what is said of all.
-- Assumes nothing.
use Rattle.std.proofs.Common.{length, ◌-◌}
use Rattle.kit.proofs.Writing.{Hearing}
use Rattle.kit.proofs.writer.check_numbers.Given as goal

abbrev pub invariant-loop-i : goal.invariant-loop-i
invariant-loop-i l = Hearing l.numbers l.judge l.i

abbrev pub decreases-loop-i : goal.decreases-loop-i
decreases-loop-i l = length l.numbers - l.i
