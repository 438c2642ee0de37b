-- The lines of the counters of a replica that there is. Assumes nothing.
use Rattle.std.proofs.Common.{◌<◌, arith, min}
use Rattle.terms.specs.Limits.{replicas_max}
use Rattle.room_lines.specs.RoomLines.{counters_at}
use Rattle.play_lines.specs.LinesLaws.{puts_there}
use Rattle.room_lines.proofs.CountersPieces.put.Goals as goal

pub returns-then-i-many : goal.returns-then-i-many
returns-then-i-many c =
    let it = c.args.self.now in
    let there : c.args.i < min it.size replicas_max = omega (arith, c.many.ensures, c.if-i-many.true) in
    puts_there (min it.size replicas_max) (counters_at it.book.now) c.args.i there c.put_own.ensures
