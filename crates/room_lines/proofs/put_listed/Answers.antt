-- Nothing, or the first and then the others. Assumes nothing.
use Rattle.std.proofs.Common.{◌≡◌, ◌∷◌, ap}
use Rattle.text.specs.Text.{decimal}
use Rattle.text.specs.PageLaws.{then_puts, puts_as}
use Rattle.room_lines.specs.Pieces.{listed}
use Rattle.room_lines.specs.PieceLaws.{commas_each, listed_none}
use Rattle.room_lines.proofs.put_listed.Goals as goal

pub returns-in-None : goal.returns-in-None
unfolding listed
returns-in-None c = puts_as c.put_byte.ensures (listed_none _ c.in-None.ensures.cases)

pub returns-in-Some : goal.returns-in-Some
unfolding listed
returns-in-Some c =
    let whole : c.args.list.now ≡ c.in-Some.first.now ∷ c.in-Some.rest.now = c.in-Some.ensures.cases.0 in
    rw whole
    (then_puts (puts_as c.put_decimal.ensures (ap decimal c.from.ensures)) (puts_as c.put_all.ensures (commas_each c.in-Some.rest.now)))
