-- The text ends within the buffer. Assumes nothing.
use Rattle.std.proofs.Common.{arith, rules}
use Rattle.play_lines.specs.Whole.{ends_within}
use Rattle.play_text.specs.Printed.{program_text}
use Rattle.play_text.proofs.printed_input.Goals as goal

pub returns-clause-counts : goal.returns-clause-counts
returns-clause-counts c = ends_within {s = c.args.out.now} {at = 0} {t = program_text c.args.bytes.now} (search rules) (omega arith)
