-- `switches`: n counts those replicas below y of which a SWITCH was accepted. Assumes nothing.
use Rattle.replica.specs.Record.{switched_in}
use Rattle.replica.proofs.Turns.{Counting}
use Rattle.replica.proofs.Replica.switches.Given as goal

abbrev pub invariant-loop-y : goal.invariant-loop-y
invariant-loop-y l = Counting (switched_in l.self.accepted l.size) l.n l.y
