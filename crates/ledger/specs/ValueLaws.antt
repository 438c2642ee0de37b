-- Values by the one before. Assumes nothing.
use Rattle.std.specs.Prelude.{◌≡◌, ◌≢◌, ℕ, suc, ◌-◌, eqb}
use Rattle.std.proofs.Common.{sym, arith, eqb-true, eq-eqb, ne_eqb}
use Rattle.std.proofs.lemmas.Bool.{eqb-false}
use Rattle.terms.specs.ListLaws.{split}

-- a value is the next after the one before
pub next_value : (value last : ℕ) → value ≢ 0 → eqb (value - 1) last ≡ eqb value (suc last)
next_value value last h =
    split (eqb (value - 1) last) (λ e. rw e (sym (eq-eqb value (suc last) (omega (arith, eqb-true (value - 1) last e, h)))))
    (λ e. rw e (sym (ne_eqb value (suc last) (λ q. eqb-false (value - 1) last e (omega arith)))))
