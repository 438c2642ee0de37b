-- One piece more, and none left. Assumes nothing.
use Rattle.std.proofs.Common.{arith, ◌<◌}
use Rattle.text.specs.PageLaws.{puts_as}
use Rattle.play_lines.specs.LinesLaws.{awaits_next, awaits_over, lines_next, lines_over, piece_there}
use Rattle.play_lines.proofs.put_all.Goals as goal

pub loop-i-preserved : goal.loop-i-preserved
loop-i-preserved g c =
    let p = g.P.Pieces in
    let x = c.args.pieces.now in
    let there : c.loop-i.i < p.many x = omega (arith, c.many-i-end.ensures) in
    awaits_next c.loop-i.invariant (lines_next c.loop-i.i (p.many x) (p.piece x) there)
    (puts_as c.put.ensures (piece_there (p.many x) (p.piece x) c.loop-i.i there))

pub returns : goal.returns
returns g c = awaits_over c.loop-i.invariant (lines_over _ _ _ (omega (arith, c.many-i-end.ensures)))
