-- The text ends within the buffer. Assumes nothing.
use Rattle.std.specs.Option.{option_copied}
use Rattle.std.proofs.Common.{arith, rules}
use Rattle.play_lines.specs.Whole.{ends_within}
use Rattle.room_text.specs.RoomPrinted.{program_room}
use Rattle.room_text.proofs.room_input.Goals as goal

pub returns-clause-counts : goal.returns-clause-counts
returns-clause-counts c = ends_within {s = c.args.out.now} {at = 0} {t = program_room c.args.bytes.now (option_copied c.args.word)} (search rules) (omega arith)
