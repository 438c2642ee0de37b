-- The line of a replica that there is. Assumes nothing.
use Rattle.std.proofs.Common.{◌<◌, arith, min}
use Rattle.terms.specs.Limits.{replicas_max}
use Rattle.play_lines.specs.PlayLines.{replica_at}
use Rattle.play_lines.specs.LinesLaws.{puts_there}
use Rattle.play_lines.proofs.LinesPieces.put.Goals as goal

pub returns-then-i-many : goal.returns-then-i-many
returns-then-i-many c =
    let l = c.args.self.now in
    let there : c.args.i < min l.roles.now.size replicas_max = omega (arith, c.many.ensures, c.if-i-many.true) in
    puts_there (min l.roles.now.size replicas_max) (replica_at l.roles.now l.histories.now l.book.now l.replicas.now) c.args.i there c.put_replica.ensures
