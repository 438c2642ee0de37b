-- Events, replicas, late tick. Assumes nothing.
use Rattle.text.specs.PageLaws.{then_puts}
use Rattle.play_lines.specs.PlayLines.{event_lines, replica_lines, lines_of_play}
use Rattle.play_lines.proofs.put_play.Goals as goal

pub returns : goal.returns
unfolding event_lines replica_lines lines_of_play
returns c = then_puts c.put_all.ensures (then_puts c.put_all-2.ensures c.put_late.ensures)
