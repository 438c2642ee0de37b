-- The parts in their order. Assumes nothing.
use Rattle.text.specs.PageLaws.{then_puts}
use Rattle.play_lines.specs.Lines.{replica_name}
use Rattle.play_lines.proofs.put_name.Goals as goal

pub returns : goal.returns
unfolding replica_name
returns c = then_puts c.put_word.ensures (then_puts c.put_next.ensures (then_puts c.put_word-2.ensures c.put_condition.ensures))
