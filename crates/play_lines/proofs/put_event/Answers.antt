-- The three numbers, then the line's end. Assumes nothing.
use Rattle.text.specs.PageLaws.{then_puts}
use Rattle.play_lines.specs.Lines.{event_line}
use Rattle.play_lines.proofs.put_event.Goals as goal

pub returns : goal.returns
unfolding event_line
returns c = then_puts c.put_decimal.ensures (then_puts c.put_next.ensures (then_puts c.put_next-2.ensures c.put_byte.ensures))
