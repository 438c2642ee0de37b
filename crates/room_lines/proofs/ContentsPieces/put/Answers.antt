-- A content that there is. Assumes nothing.
use Rattle.std.proofs.Common.{◌<◌, arith, min, rules}
use Rattle.terms.specs.Limits.{places_max}
use Rattle.text.specs.PageLaws.{puts_as}
use Rattle.room_lines.specs.RoomLines.{content_at_place}
use Rattle.play_lines.specs.LinesLaws.{puts_there}
use Rattle.room_lines.proofs.ContentsPieces.put.Goals as goal

pub returns-then-i-many : goal.returns-then-i-many
returns-then-i-many c =
    let it = c.args.self.now in
    let there : c.args.i < min it.n places_max = omega (arith, c.many.ensures, c.if-i-many.true) in
    puts_there (min it.n places_max) (content_at_place it.book.now it.x it.name) c.args.i there (puts_as c.put_choice.ensures (search rules))
