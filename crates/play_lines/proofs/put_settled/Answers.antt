-- The parts of the line in their order. Assumes nothing.
use Rattle.std.proofs.Common.{ap}
use Rattle.text.specs.PageLaws.{then_puts, puts_as}
use Rattle.play_lines.specs.Lines.{spaced, settled_line}
use Rattle.play_lines.specs.LinesLaws.{requests_each}
use Rattle.play_lines.proofs.put_settled.Goals as goal

pub returns : goal.returns
unfolding settled_line
returns c =
    then_puts c.put_name.ensures
    (then_puts c.put_next.ensures
    (then_puts (puts_as c.put_next-2.ensures (ap spaced c.from.ensures)) (then_puts (puts_as c.put_all.ensures (requests_each c.args.list.now)) c.put_byte.ensures)))
