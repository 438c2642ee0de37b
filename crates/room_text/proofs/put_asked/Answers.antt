-- `put_asked`: the word is a number or not, and a great number may be cut off. Assumes nothing.
use Rattle.std.proofs.Common.{sym, ap, ◌∙◌, arith}
use Rattle.text.specs.PageLaws.{puts_as}
use Rattle.room_text.specs.Asked.{number_asked}
use Rattle.room_text.specs.RoomPrinted.{input_room, asked_room}
use Rattle.room_text.specs.RoomTheorem.{cut_input}
use Rattle.room_text.proofs.put_asked.Goals as goal

pub returns-then-is_number : goal.returns-then-is_number
unfolding asked_room
returns-then-is_number c =
    let bytes = c.args.bytes.now in
    puts_as c.put_input.ensures
    (ap (input_room bytes) c.number_asked.ensures
    ∙ cut_input bytes (λ i. omega (arith, c.type_inv.bytes i)) (number_asked c.args.word.now)
    ∙ rw (sym c.is_number.ensures ∙ c.if-is_number.true))

pub returns : goal.returns
unfolding asked_room
returns c = puts_as c.put_word.ensures (rw (sym c.is_number.ensures ∙ c.if-is_number.false))
