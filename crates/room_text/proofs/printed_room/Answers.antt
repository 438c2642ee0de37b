-- The text ends within the buffer. Assumes nothing.
use Rattle.std.proofs.Common.{arith, rules}
use Rattle.play_lines.specs.Whole.{ends_within}
use Rattle.room_text.specs.RoomPrinted.{printed_room}
use Rattle.room_text.proofs.printed_room.Goals as goal

pub returns-clause-counts : goal.returns-clause-counts
returns-clause-counts c = ends_within {s = c.args.out.now} {at = 0} {t = printed_room c.args.bytes.now c.args.n} (search rules) (omega arith)
