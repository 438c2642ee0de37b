-- `next_event`: no kind, or an event of one. Assumes nothing.
use Rattle.std.proofs.Common.{sym, ◌∙◌}
use Rattle.terms.specs.NumbersLaws.{of_ok, of_err}
use Rattle.kit.proofs.Events.{stepped_idle, stepped_kind}
use Rattle.kit.proofs.next_event.Goals as goal

pub returns-in-Err : goal.returns-in-Err
returns-in-Err c =
    stepped_idle c.args.bytes.now c.args.at c.args.list.now c.take-gap.result c.take-number.result c.take-gap.ensures c.take-number.ensures
    (of_err _ _ _ (sym c.try_from.ensures ∙ c.in-Err.is))

pub returns-in-Ok : goal.returns-in-Ok
returns-in-Ok c =
    stepped_kind c.args.bytes.now c.args.at c.args.list.now c.take-gap.result c.take-number.result c.take-gap.ensures c.take-number.ensures
    c.in-Ok.kind c.event_of_kind.new.list c.event_of_kind.result (of_ok _ _ _ (sym c.try_from.ensures ∙ c.in-Ok.is)) c.event_of_kind.ensures
