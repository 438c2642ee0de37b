-- One entry more, and none left. Assumes nothing.
use Rattle.std.proofs.Common.{[], refl, ◌∙◌}
use Rattle.play_lines.specs.LinesLaws.{awaits_next, awaits_over}
use Rattle.room_lines.specs.PieceLaws.{entries_next, entries_over}
use Rattle.room_lines.proofs.put_entries.Goals as goal

pub loop-c-preserved : goal.loop-c-preserved
loop-c-preserved c = awaits_next c.loop-c.invariant (entries_next _ _ _ _ c.loop-c-test.true) c.put_entry.ensures

pub returns-then-not-begun : goal.returns-then-not-begun
returns-then-not-begun c =
    awaits_over
    (awaits_next c.loop-c.invariant {w = []} (entries_over _ _ _ _ c.loop-c-test.false ∙ rw c.if-not-begun.true) c.put_byte.ensures) refl

pub returns-else-not-begun : goal.returns-else-not-begun
returns-else-not-begun c = awaits_over c.loop-c.invariant (entries_over _ _ _ _ c.loop-c-test.false ∙ rw c.if-not-begun.false)
