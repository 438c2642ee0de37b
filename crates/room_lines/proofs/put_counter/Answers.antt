-- A line, where something was issued. Assumes nothing.
use Rattle.std.proofs.Common.{eq-eqb, ne_eqb}
use Rattle.text.specs.PageLaws.{then_puts, puts_as, puts_none}
use Rattle.room_lines.specs.Pieces.{counter_text}
use Rattle.room_lines.specs.RoomLines.{contents_in, counter_line}
use Rattle.room_lines.proofs.put_counter.Goals as goal

pub returns-then-n-eq0 : goal.returns-then-n-eq0
unfolding counter_line counter_text
returns-then-n-eq0 c = puts_as (puts_none _) (rw (← c.total-n.ensures, eq-eqb _ _ c.if-n-eq0.true))

pub returns : goal.returns
unfolding contents_in counter_line counter_text
returns c =
    puts_as
    (then_puts c.put_word.ensures
    (then_puts c.put_next.ensures
    (then_puts c.put_byte.ensures (then_puts c.put_decimal.ensures (then_puts c.put_all.ensures c.put_byte-2.ensures)))))
    (rw (← c.total-n.ensures, ne_eqb _ _ c.if-n-eq0.false))
