-- The second to the fifth group. The invariant (`Head`): the groups from place `next` on, over the bits of those before it, say what the groups from
-- the start say, and those bits are below 2 ^ shift. Assumes nothing.
use Rattle.std.proofs.Common.{◌+◌, ◌*◌}
use Rattle.number.proofs.Reading.{Head}
use Rattle.number.proofs.later.Given as goal

abbrev pub invariant-loop-shift : goal.invariant-loop-shift
invariant-loop-shift l = Head l.fn.bytes l.fn.at l.fn.first l.bits (7 + 7 * l.shift-index) l.next
