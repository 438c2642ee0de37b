-- Those from entry c on are still to come. Assumes nothing.
use Rattle.std.proofs.Common.{◌-◌, false, get_or}
use Rattle.terms.specs.Limits.{counters}
use Rattle.play_lines.specs.LinesLaws.{Awaits}
use Rattle.room_lines.specs.Pieces.{entries_from}
use Rattle.room_lines.proofs.put_entries.Given as goal

abbrev pub invariant-loop-c : goal.invariant-loop-c
invariant-loop-c l =
    Awaits l.fn.page (entries_from (λ k. get_or l.accepted k 0) false 0 counters) l.page
    (entries_from (λ k. get_or l.accepted k 0) l.begun l.c (counters - l.c))
