-- The parts in their order. Assumes nothing.
use Rattle.text.specs.PageLaws.{then_puts}
use Rattle.room_lines.specs.Pieces.{history_text}
use Rattle.room_lines.proofs.put_history.Goals as goal

pub returns : goal.returns
unfolding history_text
returns c = then_puts c.put_word.ensures (then_puts c.put_next.ensures (then_puts c.put_next-2.ensures (then_puts c.put_next-3.ensures (then_puts c.put_part.ensures c.put_byte.ensures))))
