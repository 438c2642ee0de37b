-- `first_open`: every submission before i is due and answered. Assumes nothing.
use Rattle.clock.specs.Tick.{passed}
use Rattle.clock.proofs.Turns.{Searching}
use Rattle.clock.proofs.first_open.Given as goal

abbrev pub invariant-loop-i : goal.invariant-loop-i
invariant-loop-i l = Searching (passed l.clock l.roles l.submissions l.book) l.known l.submitted l.i
