-- Nothing, or the parts in their order. Assumes nothing.
use Rattle.std.proofs.Common.{ap, eq-eqb, ne_eqb}
use Rattle.text.specs.Text.{decimal}
use Rattle.text.specs.PageLaws.{then_puts, puts_as, puts_none}
use Rattle.room_lines.specs.Pieces.{entry_text}
use Rattle.room_lines.proofs.put_entry.Goals as goal

pub returns-then-value-eq0 : goal.returns-then-value-eq0
unfolding entry_text
returns-then-value-eq0 c = puts_as (puts_none _) (rw (eq-eqb _ _ c.if-value-eq0.true))

pub returns : goal.returns
unfolding entry_text
returns c =
    puts_as
    (then_puts c.put_between.ensures
    (then_puts c.put_decimal.ensures
    (then_puts c.put_byte.ensures
    (then_puts c.put_decimal-2.ensures
    (then_puts c.put_byte-2.ensures (puts_as c.put_decimal-3.ensures (ap decimal c.from.ensures)))))))
    (rw (ne_eqb _ _ c.if-value-eq0.false))
