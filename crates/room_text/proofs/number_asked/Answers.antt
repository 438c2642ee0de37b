-- `number_asked`: one digit more; the end. Assumes nothing.
use Rattle.std.proofs.Common.{ℕ, ◌+◌, min, get_or, drop, sym, ap, ◌∙◌, arith}
use Rattle.room_text.specs.Asked.{with_digit, with_digits, number_asked, asked_max}
use Rattle.room_text.specs.AskedLaws.{cut_digits, asked_from, asked_end}
use Rattle.room_text.proofs.number_asked.Goals as goal

pub loop-byte-preserved : goal.loop-byte-preserved
loop-byte-preserved c =
    let s = c.loop-byte in
    let i = s.byte-index in
    let w = c.args.word.now in
    let e = c.with_digit-n.ensures in
    record {
      within = omega arith;
      few = omega (arith, e);
      same =
          s.invariant.same ∙ ap (λ (m : ℕ). min m asked_max) (asked_from s.n w i c.loop-byte-test.true)
          ∙ sym (cut_digits (drop (i + 1) w) (with_digit s.n (get_or w i 0)))
          ∙ ap (λ (m : ℕ). min (with_digits m (drop (i + 1) w)) asked_max) (sym e);
    }

pub returns : goal.returns
unfolding number_asked
returns c =
    let s = c.loop-byte in
    let z = asked_end s.n c.args.word.now s.byte-index c.loop-byte-test.false in
    sym (s.invariant.same ∙ ap (λ (m : ℕ). min m asked_max) z ∙ omega (arith, s.invariant.few))
