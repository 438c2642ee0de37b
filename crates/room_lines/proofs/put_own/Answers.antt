-- The three counters in their order. Assumes nothing.
use Rattle.text.specs.PageLaws.{then_puts}
use Rattle.room_lines.specs.RoomLines.{counters_at}
use Rattle.room_lines.proofs.put_own.Goals as goal

pub returns : goal.returns
unfolding counters_at
returns c = then_puts c.put_counter.ensures (then_puts c.put_counter-2.ensures c.put_counter-3.ensures)
