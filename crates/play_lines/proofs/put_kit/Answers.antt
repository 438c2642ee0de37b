-- The word, the number, the line's end. Assumes nothing.
use Rattle.std.proofs.Common.{ap}
use Rattle.text.specs.PageLaws.{then_puts, puts_as}
use Rattle.play_lines.specs.Lines.{spaced, kit_line}
use Rattle.play_lines.proofs.put_kit.Goals as goal

pub returns : goal.returns
unfolding kit_line
returns c = then_puts c.put_word.ensures (then_puts (puts_as c.put_next.ensures (ap spaced c.from.ensures)) c.put_byte.ensures)
