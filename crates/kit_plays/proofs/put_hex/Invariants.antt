-- `put_hex`. The invariant (`Head`): the bytes that the digits from here on spell, with the one that waits, put from here on, give what all the
-- digits give from the start. Assumes nothing.
use Rattle.kit_plays.proofs.Digits.{Head}
use Rattle.kit_plays.proofs.put_hex.Given as goal

abbrev pub invariant-loop-c : goal.invariant-loop-c
invariant-loop-c l = Head l.fn.page l.hex l.page l.waiting l.c-index
