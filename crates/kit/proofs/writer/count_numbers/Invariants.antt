-- `count_numbers`. The invariant (`Counting`): the count and the numbers that can be read from the place on are together as many as can be read
-- from the first byte on. Assumes nothing.
use Rattle.std.proofs.Common.{length, ◌-◌}
use Rattle.kit.proofs.Writing.{Counting}
use Rattle.kit.proofs.writer.count_numbers.Given as goal

abbrev pub invariant-loop-found : goal.invariant-loop-found
invariant-loop-found l = Counting l.bytes l.count l.at

abbrev pub decreases-loop-found : goal.decreases-loop-found
decreases-loop-found l = length l.bytes - l.at
