-- The text ends within the buffer. Assumes nothing.
use Rattle.std.proofs.Common.{arith, rules}
use Rattle.play_lines.specs.Whole.{ends_within}
use Rattle.play_text.specs.Printed.{printed_text}
use Rattle.play_text.proofs.printed_play.Goals as goal

pub returns-clause-counts : goal.returns-clause-counts
returns-clause-counts c = ends_within {s = c.args.out.now} {at = 0} {t = printed_text c.args.bytes.now} (search rules) (omega arith)
