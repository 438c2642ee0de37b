-- The line of a replica that there is. Assumes nothing.
use Rattle.std.proofs.Common.{◌<◌, arith, min}
use Rattle.terms.specs.Limits.{replicas_max}
use Rattle.room_lines.specs.RoomLines.{replica_at}
use Rattle.play_lines.specs.LinesLaws.{puts_there}
use Rattle.room_lines.proofs.RecordsPieces.put.Goals as goal

pub returns-then-i-many : goal.returns-then-i-many
returns-then-i-many c =
    let it = c.args.self.now in
    let there : c.args.i < min it.roles.now.size replicas_max = omega (arith, c.many.ensures, c.if-i-many.true) in
    puts_there (min it.roles.now.size replicas_max) (replica_at it.roles.now it.histories.now it.book.now it.replicas.now) c.args.i there c.put_replica.ensures
