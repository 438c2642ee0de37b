-- `play`. The loop's invariant: k events of the n that are to be played are done, and what the turns from k on make of the desk, the records and
-- the lent arrays as they are now is what the whole play makes of them as they were at the start. A turn's places have names (`event-of-tick` and the
-- others: from the place after one step back to the place after an earlier one). Assumes nothing.
use Rattle.std.proofs.Common.{◌≡◌, ◌-◌}
use Rattle.player.specs.Turn.{play_on, left_of, turns_from, stage}
use Rattle.player.proofs.play.Given as goal

abbrev pub invariant-loop-k : goal.invariant-loop-k
invariant-loop-k l =
    play_on l.bytes l.settings l.most l.initial.log l.initial.submissions l.initial.histories l.initial.book
    ≡ left_of (turns_from l.bytes l.roles l.k (l.k-end - l.k) (stage l.desk l.replicas l.log l.submissions l.histories l.book l.list l.at))
