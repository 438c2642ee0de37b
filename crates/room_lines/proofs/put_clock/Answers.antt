-- The parts in their order. Assumes nothing.
use Rattle.text.specs.PageLaws.{then_puts}
use Rattle.room_lines.specs.Pieces.{clock_text}
use Rattle.room_lines.proofs.put_clock.Goals as goal

pub returns : goal.returns
unfolding clock_text
returns c = then_puts c.put_word.ensures (then_puts c.put_next.ensures (then_puts c.put_word-2.ensures c.put_next-2.ensures))
