-- The answer, where there is one. Assumes nothing.
use Rattle.std.proofs.Common.{⊎_elim, arith, eq-eqb, ne_eqb, lt-ltb, le-ltb}
use Rattle.text.specs.PageLaws.{puts_as}
use Rattle.room_lines.specs.RoomLines.{answer_in}
use Rattle.room_lines.proofs.put_answer.Goals as goal

pub returns-then-n-le-EVENTS : goal.returns-then-n-le-EVENTS
unfolding answer_in
returns-then-n-le-EVENTS c =
    puts_as c.put_decimal.ensures (rw (ne_eqb c.args.n 0 (λ e. omega arith), le-ltb _ _ c.if-n-le-EVENTS.true, c.from.ensures))

pub returns-else-n-ge1 : goal.returns-else-n-ge1
unfolding answer_in
returns-else-n-ge1 c =
    puts_as c.put_byte.ensures
    (⊎_elim (λ h. rw (ne_eqb c.args.n 0 (λ e. omega (arith, h.0)), lt-ltb _ _ h.1)) (λ h. rw (eq-eqb c.args.n 0 (omega (arith, h)))) c.else-n-ge1.either)
