-- A space, then the number. Assumes nothing.
use Rattle.text.specs.PageLaws.{then_puts}
use Rattle.play_lines.specs.Lines.{spaced}
use Rattle.play_lines.proofs.put_next.Goals as goal

pub returns : goal.returns
unfolding spaced
returns c = then_puts c.put_byte.ensures c.put_decimal.ensures
