-- The word, the submissions, the line's end. Assumes nothing.
use Rattle.text.specs.PageLaws.{then_puts}
use Rattle.room_lines.specs.Pieces.{submitted_text}
use Rattle.room_lines.specs.RoomLines.{submitted_line, submissions_in}
use Rattle.room_lines.proofs.put_submitted.Goals as goal

pub returns : goal.returns
unfolding submitted_text submitted_line submissions_in
returns c = then_puts c.put_word.ensures (then_puts c.put_all.ensures c.put_byte.ensures)
