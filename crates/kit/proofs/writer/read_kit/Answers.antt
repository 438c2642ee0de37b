-- `read_kit`: the numbers at the front of what is lent. Assumes nothing.
use Rattle.std.proofs.Common.{arith}
use Rattle.kit.proofs.Writing.{read_all}
use Rattle.kit.proofs.writer.read_kit.Goals as goal

pub returns : goal.returns
returns c =
    read_all c.args.bytes.now c.args.numbers.now c.take_into.new.out c.count_numbers-count.result c.take_into.result
    c.in_ok-check.ensures c.count_numbers-count.ensures (omega (arith, c.if-count-numbers.false)) c.take_into.ensures
