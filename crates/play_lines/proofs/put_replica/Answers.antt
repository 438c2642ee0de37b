-- The record that is shown and the list that is settled. Assumes nothing.
use Rattle.std.proofs.Common.{arith, false, ◌<◌, length}
use Rattle.text.specs.PageLaws.{puts_as}
use Rattle.replica.specs.Record.{fresh_record}
use Rattle.play_lines.specs.PlayLines.{replica_line}
use Rattle.play_lines.specs.LinesLaws.{get_d_any}
use Rattle.play_lines.proofs.put_replica.Goals as goal

pub returns : goal.returns
unfolding replica_line
returns c =
    let long : c.args.x < length c.args.replicas.now = omega (arith, c.told-replicas) in
    puts_as c.put_settled.ensures
    (rw (c.settled_of-settled.ensures, c.shown-mark.ensures, get_d_any c.args.replicas.now c.args.x _ (fresh_record false) long))
