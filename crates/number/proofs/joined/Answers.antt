-- A group's bits above the lowest ones: no bit is in both, so to join them is to add them. Assumes nothing.
use Rattle.std.proofs.Common.{mod-eq_of_lt}
use Rattle.std.specs.Int.Bits.{or_shifted_r}
use Rattle.number.proofs.joined.Goals as goal

pub returns : goal.returns
returns c = rw (mod-eq_of_lt c.requires.shift_bound) (or_shifted_r c.args.group c.args.shift c.args.bits c.requires.bits_bound.0)
