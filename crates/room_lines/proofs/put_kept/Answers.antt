-- The parts in their order. Assumes nothing.
use Rattle.text.specs.PageLaws.{then_puts}
use Rattle.room_lines.specs.Pieces.{kept_text}
use Rattle.room_lines.specs.RoomLines.{kept_in}
use Rattle.room_lines.proofs.put_kept.Goals as goal

pub returns : goal.returns
unfolding kept_text kept_in
returns c = then_puts c.put_held.ensures (then_puts c.put_part.ensures (then_puts c.put_part-2.ensures c.put_accepted.ensures))
