-- `play`: a turn, in which something moves or nothing does; the end. Assumes nothing.
use Rattle.std.proofs.Common.{sym, ap, ◌∙◌}
use Rattle.player.specs.Turn.{left_of, turns_from}
use Rattle.player.specs.TurnLaws.{turn_made, turn_still, turns_next, turns_over}
use Rattle.player.proofs.play.Goals as goal
use Rattle.player.proofs.play.Goals.{then-moves, else-moves}

pub loop-k-preserved : goal.loop-k-preserved
loop-k-preserved c =
    let test = c.loop-k-test.true in
    let e = c.next_event-e.ensures in
    c.loop-k.invariant
    ∙ ap left_of
    (turns_next _ _ _ _ _ test
    ∙ ap (turns_from _ _ _ _)
    (elim c.if-moves.branch [
      | then-moves w ↦
          turn_made _ _ _ _ e.answer e.filed c.tick-desk.ensures c.concerned-me.ensures.replica c.decide-decision.ensures
          c.answer_of.ensures c.enter.ensures c.counted-desk.ensures w.apply.ensures
          ∙ rw (w.replicas-is, w.book-is)
      | else-moves w ↦
          turn_still _ _ _ _ e.answer e.filed c.tick-desk.ensures c.concerned-me.ensures.replica c.decide-decision.ensures
          c.answer_of.ensures c.enter.ensures c.counted-desk.ensures (sym c.moves.ensures ∙ w.if-moves.false)
          ∙ rw (w.replicas-is, w.book-is)
    ]))

pub returns : goal.returns
returns c = sym (c.loop-k.invariant ∙ ap left_of (turns_over _ _ _ _ _ c.loop-k-test.false))
