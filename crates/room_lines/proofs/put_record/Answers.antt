-- The parts of the line in their order. Assumes nothing.
use Rattle.text.specs.PageLaws.{then_puts}
use Rattle.room_lines.specs.Pieces.{record_text}
use Rattle.room_lines.specs.RoomLines.{record_line, kept_in}
use Rattle.room_lines.proofs.put_record.Goals as goal

pub returns : goal.returns
unfolding record_text record_line kept_in
returns c = then_puts c.put_opening.ensures (then_puts c.put_kept.ensures (then_puts c.put_word.ensures (then_puts c.put_listed.ensures c.put_byte.ensures)))
