-- `least_seen`: an active replica more, or a passive one. Assumes nothing.
use Rattle.std.proofs.Common.{sym, ◌∙◌, ◌<◌, length, arith}
use Rattle.replica.specs.Record.{lesser_of}
use Rattle.replica.proofs.Turns.{next_active, next_passive}
use Rattle.replica.proofs.Replica.least_seen.Goals as goal
use Rattle.replica.proofs.Replica.least_seen.Goals.{then-marks_active, else-marks_active}

pub loop-y-preserved : goal.loop-y-preserved
unfolding lesser_of
loop-y-preserved c =
    let below : c.loop-y.y < length c.args.table.now = omega arith in
    elim c.if-marks_active.branch [
      | then-marks_active w ↦ rw (w.c-is, w.lesser-c.ensures)
          (next_active c.loop-y.invariant below (sym c.marks_active.ensures ∙ w.if-marks_active.true))
      | else-marks_active w ↦ rw w.c-is (next_passive c.loop-y.invariant below (sym c.marks_active.ensures ∙ w.if-marks_active.false))
    ]
