-- The line of an event that there is. Assumes nothing.
use Rattle.std.proofs.Common.{◌<◌, arith, min, rules}
use Rattle.terms.specs.Limits.{events_max}
use Rattle.text.specs.PageLaws.{puts_as}
use Rattle.play_lines.specs.PlayLines.{event_at}
use Rattle.play_lines.specs.LinesLaws.{puts_there}
use Rattle.play_lines.proofs.EventsPieces.put.Goals as goal

pub returns-then-i-many : goal.returns-then-i-many
returns-then-i-many c =
    let there : c.args.i < min c.args.self.now.n events_max = omega (arith, c.many.ensures, c.if-i-many.true) in
    puts_there (min c.args.self.now.n events_max) (event_at c.args.self.now.log.now) c.args.i there (puts_as c.put_event.ensures (search rules))
