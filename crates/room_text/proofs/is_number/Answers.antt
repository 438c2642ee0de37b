-- `is_number`: a byte that is no digit; no byte at all. Assumes nothing.
use Rattle.std.proofs.Common.{length}
use Rattle.room_text.specs.Asked.{is_number}
use Rattle.room_text.specs.AskedLaws.{digits_all, some_byte}
use Rattle.room_text.proofs.is_number.Goals as goal

pub returns-then-all_digits : goal.returns-then-all_digits
unfolding is_number
returns-then-all_digits c =
    rw (c.is_empty.ensures, ← digits_all c.args.word.now, ← c.all_digits.ensures, c.if-all_digits.true) (some_byte (length c.args.word.now))

pub returns-else-all_digits : goal.returns-else-all_digits
unfolding is_number
returns-else-all_digits c = rw (← digits_all c.args.word.now, ← c.all_digits.ensures, c.if-all_digits.false)
