-- `put_input`: by the length alone, before anything else. Assumes nothing.
use Rattle.std.proofs.Common.{lt-ltb, le-ltb}
use Rattle.text.specs.PageLaws.{puts_as}
use Rattle.room_text.specs.RoomPrinted.{input_room}
use Rattle.room_text.proofs.put_input.Goals as goal

pub returns-then-bytes-gt-BYTES_MAX : goal.returns-then-bytes-gt-BYTES_MAX
unfolding input_room
returns-then-bytes-gt-BYTES_MAX c = puts_as c.put_kit.ensures (rw (c.from.ensures, lt-ltb _ _ c.if-bytes-gt-BYTES_MAX.true))

pub returns : goal.returns
unfolding input_room
returns c = puts_as c.put_printed.ensures (rw (le-ltb _ _ c.if-bytes-gt-BYTES_MAX.false))
