-- The parts in their order. Assumes nothing.
use Rattle.std.proofs.Common.{ap}
use Rattle.text.specs.PageLaws.{then_puts, puts_as}
use Rattle.play_lines.specs.Lines.{spaced}
use Rattle.room_lines.specs.Pieces.{submission_text}
use Rattle.room_lines.proofs.put_submission.Goals as goal

pub returns : goal.returns
unfolding submission_text
returns c = then_puts (puts_as c.put_next.ensures (ap spaced c.from.ensures)) (then_puts c.put_byte.ensures c.put_decimal.ensures)
