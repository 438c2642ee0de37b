-- `count_numbers`: before the first turn, and a turn. Assumes nothing.
use Rattle.std.proofs.Common.{sym, arith}
use Rattle.kit.proofs.Writing.{counting_first, counting_less, counting_next}
use Rattle.kit.proofs.writer.count_numbers.Goals as goal

pub loop-found-init : goal.loop-found-init
loop-found-init c = counting_first c.args.bytes.now

pub overflow_add-count : goal.overflow_add-count
overflow_add-count c = omega (arith, counting_less c.loop-found.invariant (sym c.in-Ok.ensures))

pub loop-found-smaller : goal.loop-found-smaller
loop-found-smaller c = (counting_less c.loop-found.invariant (sym c.in-Ok.ensures)).1

pub loop-found-preserved : goal.loop-found-preserved
loop-found-preserved c = counting_next c.loop-found.invariant (sym c.in-Ok.ensures)
