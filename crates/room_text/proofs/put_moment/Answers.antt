-- `put_moment`: n is past the last event, or the room is put. Assumes nothing.
use Rattle.std.proofs.Common.{lt-ltb, le-ltb}
use Rattle.text.specs.PageLaws.{puts_as}
use Rattle.room_text.specs.RoomPrinted.{moment_text}
use Rattle.room_text.proofs.put_moment.Goals as goal

pub returns-then-count-n : goal.returns-then-count-n
unfolding moment_text
returns-then-count-n c = puts_as c.put_past.ensures (rw (lt-ltb _ _ c.if-count-n.true))

pub returns : goal.returns
unfolding moment_text
returns c = puts_as c.put_played.ensures (rw (le-ltb _ _ c.if-count-n.false))
