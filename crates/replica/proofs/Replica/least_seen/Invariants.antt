-- `least_seen`: the least over the active replicas from y on, and of c, is that of the whole. Assumes nothing.
use Rattle.rules.specs.Reading.{value_seen}
use Rattle.replica.specs.Record.{accepted_in}
use Rattle.replica.proofs.Turns.{Lessening}
use Rattle.replica.proofs.Replica.least_seen.Given as goal

abbrev pub invariant-loop-y : goal.invariant-loop-y
invariant-loop-y l = Lessening l.table (value_seen l.active l.own l.me (accepted_in l.self.accepted)) l.first l.c l.y
