-- `answered`: no value above this one answers the request, so that those up to it decide. Assumes nothing.
use Rattle.clock.specs.AnsweredOn.{answered_on, answered_at_on}
use Rattle.clock.proofs.Turns.{Seeking}
use Rattle.clock.proofs.answered.Given as goal

abbrev pub invariant-loop-value : goal.invariant-loop-value
invariant-loop-value l = Seeking (answered_on l.roles l.request l.book) (answered_at_on l.roles l.request l.book) l.value
