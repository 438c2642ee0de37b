-- `put_hex`: before the first turn, a turn, that two digits make a byte, and past the last digit, by a law of `Digits` each. Assumes nothing.
use Rattle.std.proofs.Common.{arith, refl}
use Rattle.play_lines.specs.LinesLaws.{rest_start}
use Rattle.kit_plays.proofs.Digits.{some_digit, over, waits_below, pass, first, second}
use Rattle.kit_plays.proofs.put_hex.Goals.{in-None, in-Some-waiting}
use Rattle.kit_plays.proofs.put_hex.Goals as goal

pub loop-c-init : goal.loop-c-init
loop-c-init c = record { rest = record { same = refl; rest = rest_start c.args.page.now.out.now c.args.page.now.at refl }; digit = tt }

pub loop-c-preserved-in_default : goal.loop-c-preserved-in_default
loop-c-preserved-in_default c = pass c.loop-c.invariant (omega arith) c.in_default.ensures

pub overflow_add-high : goal.overflow_add-high
overflow_add-high c =
    omega (arith, waits_below c.loop-c.invariant _ c.in-Some-waiting.is, some_digit _ _ c.in-Some.ensures)

pub loop-c-preserved : goal.loop-c-preserved
loop-c-preserved c =
    elim c.match-waiting.branch [
      | in-None w ↦
          rw (w.page-is, w.waiting-is) (first c.loop-c.invariant (omega arith) w.in-None.is c.in-Some.digit c.in-Some.ensures)
      | in-Some-waiting w ↦
          rw (w.page-is, w.waiting-is)
          (second c.loop-c.invariant (omega arith) _ w.in-Some-waiting.is c.in-Some.digit c.in-Some.ensures w.put_byte.ensures)
    ]

pub returns : goal.returns
returns c = over c.loop-c.invariant c.loop-c-test.false
