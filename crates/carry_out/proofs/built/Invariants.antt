-- `built`: what is missing of the rest, stored in the history so far, gives the whole history. Assumes nothing.
use Rattle.carry_out.proofs.Turns.{Appending}
use Rattle.carry_out.proofs.built.Given as goal

abbrev pub invariant-loop-request : goal.invariant-loop-request
invariant-loop-request l = Appending l.noted l.submitted l.initial.history l.history l.request-index
