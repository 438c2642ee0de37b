-- `event_of_kind`: what its parts give together. Assumes nothing.
use Rattle.std.proofs.Common.{ap, length}
use Rattle.kit.proofs.Events.{filed_few, event_read}
use Rattle.kit.proofs.event_of_kind.Goals as goal

pub requests-next-requires : goal.requests-next-requires
requests-next-requires c = rw c.filed_by-count.ensures (filed_few c.args.kind _ _)

pub returns : goal.returns
returns c =
    event_read c.args.bytes.now c.args.gap c.args.kind c.args.at c.args.list.now c.requests-next.new.list
    (length (c.operands_of-row.result.now)) c.take_into-after.result c.filed_by-count.result c.requests-next.result c.take_into-after.new.out
    c.event_of-event.result (ap length c.operands_of-row.ensures.row) c.operands_of-row.ensures.few c.take_into-after.ensures
    c.event_of-event.ensures c.filed_by-count.ensures c.requests-next.ensures
