-- A comma or nothing. Assumes nothing.
use Rattle.text.specs.PageLaws.{puts_as, puts_none}
use Rattle.room_lines.proofs.put_between.Goals as goal

pub returns-else-begun : goal.returns-else-begun
returns-else-begun c = puts_as (puts_none _) (rw c.if-begun.false)
