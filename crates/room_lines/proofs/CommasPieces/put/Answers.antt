-- A number that there is, after a comma. Assumes nothing.
use Rattle.std.specs.Prelude.{[], ◌∷◌, ◌++◌}
use Rattle.std.proofs.Common.{◌<◌, length, get_or, rules}
use Rattle.text.specs.Text.{decimal}
use Rattle.text.specs.PageLaws.{then_puts, puts_as}
use Rattle.play_lines.specs.LinesLaws.{puts_there}
use Rattle.room_lines.proofs.CommasPieces.put.Goals as goal

pub returns-in-Some : goal.returns-in-Some
returns-in-Some c =
    let list = c.args.self.now.list.now in
    let there : c.args.i < length list = search rules in
    puts_there (length list) (λ i. (44 ∷ []) ++ decimal (get_or list i 0)) c.args.i there
    (then_puts c.put_byte.ensures (puts_as c.put_decimal.ensures (search rules)))
