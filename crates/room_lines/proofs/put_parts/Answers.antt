-- The parts in their order. Assumes nothing.
use Rattle.text.specs.PageLaws.{then_puts}
use Rattle.room_lines.specs.Pieces.{parts_text}
use Rattle.room_lines.proofs.put_parts.Goals as goal

pub returns : goal.returns
unfolding parts_text
returns c = then_puts c.put_next.ensures (then_puts c.put_byte.ensures (then_puts c.put_decimal.ensures (then_puts c.put_byte-2.ensures c.put_decimal-2.ensures)))
