-- The parts in their order. Assumes nothing.
use Rattle.text.specs.PageLaws.{then_puts}
use Rattle.room_lines.specs.RoomLines.{history_lines, counter_lines, replica_lines, lines_of_room}
use Rattle.room_lines.proofs.put_room.Goals as goal

pub returns : goal.returns
unfolding history_lines counter_lines replica_lines lines_of_room
returns c = then_puts c.put_event.ensures (then_puts c.put_submitted.ensures (then_puts c.put_all.ensures (then_puts c.put_all-2.ensures c.put_all-3.ensures)))
