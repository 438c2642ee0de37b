-- The word, then the values. Assumes nothing.
use Rattle.text.specs.PageLaws.{then_puts}
use Rattle.room_lines.specs.Pieces.{accepted_text}
use Rattle.room_lines.proofs.put_accepted.Goals as goal

pub returns : goal.returns
unfolding accepted_text
returns c = then_puts c.put_word.ensures c.put_entries.ensures
