-- Its kind, a and b. Assumes nothing.
use Rattle.text.specs.PageLaws.{puts_as}
use Rattle.room_lines.specs.Pieces.{content_text}
use Rattle.room_lines.proofs.put_content.Goals as goal

pub returns : goal.returns
unfolding content_text
returns c = puts_as c.put_parts.ensures (rw (c.from-2.ensures, c.from-3.ensures, c.from-4.ensures, c.from.ensures))
