-- The pieces from i on are still to come. Assumes nothing.
use Rattle.std.proofs.Common.{◌-◌}
use Rattle.play_lines.specs.Lines.{lines_from}
use Rattle.play_lines.specs.LinesLaws.{Awaits}
use Rattle.play_lines.proofs.put_all.Given as goal

abbrev pub invariant-loop-i : goal.invariant-loop-i
invariant-loop-i g l =
    let p = g.P.Pieces in
    Awaits l.fn.page (lines_from 0 (p.many l.pieces) (p.piece l.pieces)) l.page (lines_from l.i (p.many l.pieces - l.i) (p.piece l.pieces))
