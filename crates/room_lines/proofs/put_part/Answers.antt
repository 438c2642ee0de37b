-- No more than the list has. Assumes nothing.
use Rattle.std.proofs.Common.{ap}
use Rattle.text.specs.PageLaws.{then_puts, puts_as}
use Rattle.room.specs.SettledLaws.{take_least}
use Rattle.room_lines.specs.Pieces.{listed}
use Rattle.room_lines.proofs.put_part.Goals as goal

pub returns : goal.returns
returns c =
    then_puts c.put_word.ensures
    (puts_as c.put_listed.ensures (ap listed (rw c.min.ensures (take_least c.args.n c.args.list.now))))
