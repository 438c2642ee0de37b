-- A request that there is, after a space. Assumes nothing.
use Rattle.std.proofs.Common.{◌<◌, length, get_or, rules}
use Rattle.text.specs.PageLaws.{puts_as}
use Rattle.play_lines.specs.Lines.{spaced}
use Rattle.play_lines.specs.LinesLaws.{puts_there}
use Rattle.play_lines.proofs.SpacedPieces.put.Goals as goal

pub returns-in-Some : goal.returns-in-Some
returns-in-Some c =
    let list = c.args.self.now.list.now in
    let there : c.args.i < length list = search rules in
    puts_there (length list) (λ i. spaced (get_or list i 0)) c.args.i there (puts_as c.put_next.ensures (search rules))
