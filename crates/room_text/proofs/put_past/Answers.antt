-- `put_past`: the words with the number between them. Assumes nothing.
use Rattle.text.specs.PageLaws.{then_puts}
use Rattle.room_text.specs.RoomPrinted.{past_text}
use Rattle.room_text.proofs.put_past.Goals as goal

pub returns : goal.returns
unfolding past_text
returns c = then_puts c.put_word.ensures (then_puts c.put_next.ensures c.put_word-2.ensures)
