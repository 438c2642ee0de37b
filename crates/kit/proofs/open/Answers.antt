-- `open`: what its parts give together. Assumes nothing.
use Rattle.kit.proofs.Events.{opened}
use Rattle.kit.proofs.open.Goals as goal

pub returns : goal.returns
returns c =
    opened c.args.bytes.now c.take-f.result c.take-leader.result c.take-patience.result c.take-count.result
    c.size_of-size.result c.take_into-at.result c.take_into-at.new.out c.take-f.ensures c.take-leader.ensures c.take-patience.ensures
    c.size_of-size.ensures.is c.size_of-size.ensures.few c.take_into-at.ensures c.take-count.ensures
