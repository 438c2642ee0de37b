-- The line of a history that there is. Assumes nothing.
use Rattle.std.proofs.Common.{◌<◌, arith, min, rules}
use Rattle.terms.specs.Limits.{histories_max}
use Rattle.text.specs.PageLaws.{puts_as}
use Rattle.room_lines.specs.RoomLines.{history_at}
use Rattle.play_lines.specs.LinesLaws.{puts_there}
use Rattle.room_lines.proofs.FiledPieces.put.Goals as goal

pub returns-then-i-many : goal.returns-then-i-many
returns-then-i-many c =
    let it = c.args.self.now in
    let there : c.args.i < min it.n histories_max = omega (arith, c.many.ensures, c.if-i-many.true) in
    puts_there (min it.n histories_max) (history_at it.histories.now) c.args.i there (puts_as c.put_history.ensures (search rules))
