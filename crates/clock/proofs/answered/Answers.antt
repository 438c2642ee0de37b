-- `answered`: at some value; at one value less; at none. Assumes nothing.
use Rattle.std.proofs.Common.{◌<◌, arith}
use Rattle.clock.proofs.Turns.{sought, next_down, none_left, at_value}
use Rattle.clock.proofs.answered.Goals as goal

pub returns-then-updated : goal.returns-then-updated
returns-then-updated c =
    let positive : 0 < c.loop-value.value = omega arith in
    sought c.loop-value.invariant positive (rw (at_value _ _ _ _ positive, ← c.second_at-mark.ensures, ← c.updated.ensures) c.if-updated.true)

pub loop-value-preserved : goal.loop-value-preserved
loop-value-preserved c =
    let positive : 0 < c.loop-value.value = omega arith in
    next_down c.loop-value.invariant positive (rw (at_value _ _ _ _ positive, ← c.second_at-mark.ensures, ← c.updated.ensures) c.if-updated.false)

pub returns : goal.returns
returns c = none_left c.loop-value.invariant (omega arith)
