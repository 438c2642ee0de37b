-- The parts in their order. Assumes nothing.
use Rattle.text.specs.PageLaws.{then_puts}
use Rattle.room_lines.specs.Pieces.{event_text}
use Rattle.room_lines.proofs.put_event.Goals as goal

pub returns : goal.returns
unfolding event_text
returns c = then_puts c.put_clock.ensures (then_puts c.put_word.ensures (then_puts c.put_answer.ensures (then_puts c.put_byte.ensures c.put_late.ensures)))
