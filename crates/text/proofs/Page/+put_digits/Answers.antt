-- The higher digits first, then the last one. Assumes nothing.
use Rattle.std.proofs.Common.{ℕ, ◌-◌, ◌/◌, [], ◌∷◌, ◌++◌, sym, ap, ◌∙◌}
use Rattle.text.specs.Text.{decimal_in}
use Rattle.text.specs.TextLaws.{decimal_last, decimal_more}
use Rattle.text.specs.PageLaws.{then_puts, puts_as, puts_none}
use Rattle.text.proofs.Page.+put_digits.Goals as goal
use Rattle.text.proofs.Page.+put_digits.Goals.{then-n-ge10, else-n-ge10}

pub returns-then-most-eq0 : goal.returns-then-most-eq0
returns-then-most-eq0 t c = rw c.if-most-eq0.true (puts_none _)

pub returns : goal.returns
returns t c =
    let a = c.args in
    elim c.if-n-ge10.branch [
      | then-n-ge10 w ↦
          puts_as (then_puts w.put_digits.ensures (rw w.self-is at c.put_byte.ensures))
          (ap (λ (d : ℕ). decimal_in (a.most - 1) (a.n / 10) ++ (d ∷ [])) c.digit.ensures
          ∙ sym (decimal_more a.most a.n c.if-most-eq0.false w.if-n-ge10.true))
      | else-n-ge10 w ↦
          puts_as (rw w.self-is at c.put_byte.ensures)
          (ap (λ (d : ℕ). d ∷ []) c.digit.ensures ∙ sym (decimal_last a.most a.n c.if-most-eq0.false w.if-n-ge10.false))
    ]
