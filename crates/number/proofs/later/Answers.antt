-- `later`: what holds at the loop's head, before the first turn and after each, and that a group has room. Assumes nothing.
use Rattle.std.proofs.Common.{◌≡◌, ◌<◌, ◌+◌, ◌*◌, length, get_or, sym, arith, ltb-false}
use Rattle.std.proofs.lemmas.Grind.{common_steps}
use Rattle.number.proofs.Reading.{head_first, room, goes_on, shift_at}
use Rattle.number.proofs.later.Goals as goal

pub loop-shift-init : goal.loop-shift-init
loop-shift-init c = head_first c.args.bytes.now c.args.at c.args.first (omega arith)

pub joined-bits-requires-clause-shift_bound : goal.joined-bits-requires-clause-shift_bound
joined-bits-requires-clause-shift_bound c =
    rw (shift_at c.loop-shift.shift-index (omega arith)) (room c.loop-shift.invariant c.group.result (omega arith) (omega arith))

pub loop-shift-preserved : goal.loop-shift-preserved
loop-shift-preserved c =
    let within : c.loop-shift.next < length c.args.bytes.now = grind (arith, common_steps) in
    let byte : c.in_ok-b.field-0.now ≡ get_or c.args.bytes.now c.loop-shift.next 0 = grind (arith, common_steps) in
    let k = c.loop-shift.shift-index in
    let shift : 7 + 7 * (k + 1) ≡ 7 + 7 * k + 7 = omega arith in
    rw (c.joined-bits.ensures, c.group.ensures, shift_at k (omega arith), byte, shift)
    (goes_on c.loop-shift.invariant (omega arith) within (ltb-false _ 128 (sym (rw byte at c.if-is_last.ensures))))
