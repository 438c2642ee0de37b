-- The late tick, or none. Assumes nothing.
use Rattle.text.specs.PageLaws.{then_puts}
use Rattle.play_lines.specs.Lines.{late_text}
use Rattle.play_lines.proofs.put_late.Goals as goal

pub returns-in-Some : goal.returns-in-Some
unfolding late_text
returns-in-Some c = rw c.in-Some.is (then_puts c.put_word.ensures (then_puts c.put_next.ensures c.put_byte.ensures))

pub returns-in-None : goal.returns-in-None
unfolding late_text
returns-in-None c = rw c.in-None.is (then_puts c.put_word.ensures c.put_word-in-None.ensures)
