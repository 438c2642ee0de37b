-- The parts in their order. Assumes nothing.
use Rattle.std.proofs.Common.{ap}
use Rattle.text.specs.Text.{decimal}
use Rattle.text.specs.PageLaws.{then_puts, puts_as}
use Rattle.room_lines.specs.Pieces.{opening_text}
use Rattle.room_lines.proofs.put_opening.Goals as goal

pub returns : goal.returns
unfolding opening_text
returns c = then_puts c.put_name.ensures (then_puts c.put_word.ensures (then_puts c.put_decimal.ensures (then_puts c.put_word-2.ensures (puts_as c.put_decimal-2.ensures (ap decimal c.from.ensures)))))
