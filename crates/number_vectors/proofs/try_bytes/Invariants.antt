-- Reads on to the end: nothing has to hold from turn to turn, and each place is further on than the one before. Assumes nothing.
use Rattle.std.proofs.Common.{◌-◌, length}
use Rattle.number_vectors.proofs.try_bytes.Given as goal

abbrev pub decreases-loop-at : goal.decreases-loop-at
decreases-loop-at g l = length l.bytes - l.at
