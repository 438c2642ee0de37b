-- `switch_leader`: no replica below x is the one that is sought, an active one that is not the leader; those from x on decide. Assumes nothing.
use Rattle.player.proofs.Seeking.{Seeking}
use Rattle.player.proofs.opening.switch_leader.Given as goal

abbrev pub invariant-loop-x : goal.invariant-loop-x
invariant-loop-x l = Seeking l.table l.leader l.x
