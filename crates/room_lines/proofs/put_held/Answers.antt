-- The number, or a dash. Assumes nothing.
use Rattle.std.proofs.Common.{ap}
use Rattle.text.specs.Text.{decimal}
use Rattle.text.specs.PageLaws.{then_puts, puts_as}
use Rattle.room_lines.specs.Pieces.{held_text}
use Rattle.room_lines.proofs.put_held.Goals as goal

pub returns-in-Some : goal.returns-in-Some
unfolding held_text
returns-in-Some c = rw c.in-Some.is (then_puts c.put_word.ensures (puts_as c.put_decimal.ensures (ap decimal c.from.ensures)))

pub returns-in-None : goal.returns-in-None
unfolding held_text
returns-in-None c = rw c.in-None.is (then_puts c.put_word.ensures c.put_byte.ensures)
