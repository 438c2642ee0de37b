-- Laws of Known: it is kept by all that grows, and what is known to be answered need not be looked at again: the late tick that the rules
-- take over all submissions is the one over those that are not known. Assumes nothing.
use Rattle.std.specs.Prelude.{◌≡◌, ℕ, zero, suc, ◌+◌, ◌-◌, ◌<◌, true, false, not, List, [], ◌∷◌, drop, nat_le, refl, None, Some}
use Rattle.std.proofs.Common.{sym, ◌∙◌, arith}
use Rattle.std.proofs.Math.Bool.{and-false}
use Rattle.terms.specs.Lists.{nth}
use Rattle.terms.specs.ListLaws.{no_way, nth_in, sub_length}
use Rattle.terms.specs.Kit.{Kit}
use Rattle.rules.specs.Room.{Room}
use Rattle.rules.specs.Reading.{answered}
use Rattle.rules.specs.Clock.{overdue}
use Rattle.rules.proofs.Laws.Growth.{Grows}
use Rattle.rules.proofs.Laws.Answered.{answered_stays}
use Rattle.clock.specs.Known.{Known}

-- nothing is known at the start
pub known_fresh : (kit : Kit) (r : Room) → Known kit r 0
known_fresh kit r = record { within = omega arith; all_answered = λ i q h e. absurd (omega arith) }

pub known_grows : (kit : Kit) (r r₁ : Room) (known : ℕ) → Grows r r₁ → Known kit r known → Known kit r₁ known
known_grows kit r r₁ known g k =
    record {
      within = omega (arith, k.within, sub_length r.submitted r₁.submitted g.submissions);
      all_answered = λ i q h e.
          let was = nth_in r.submitted i (omega (arith, k.within)) in
          let now : Some was.0 ≡ Some q = sym (g.submissions i was.0 was.1) ∙ e in
          let same : was.0 ≡ q = cc (now) in
          answered_stays kit r r₁ g q (k.all_answered i q h (was.1 ∙ now));
    }

module _ (kit : Kit) (r : Room) where
  no_ticks : (requests : List ℕ) → overdue kit r requests [] ≡ None
  no_ticks [] = refl
  no_ticks (q ∷ qs) = refl

  -- the first k, if answered, may be left out
  pub overdue_skip
      : (requests ticks : List ℕ) (k : ℕ) → ((i q : ℕ) → i < k → nth requests i ≡ Some q → answered kit r q ≡ true)
      → overdue kit r requests ticks ≡ overdue kit r (drop k requests) (drop k ticks)
  overdue_skip requests ticks zero f = refl
  overdue_skip [] ticks (suc k) f = refl
  overdue_skip (q ∷ qs) [] (suc k) f = sym (no_ticks (drop k qs))
  overdue_skip (q ∷ qs) (t ∷ ts) (suc k) f = rw (f 0 q (omega arith) refl) (overdue_skip qs ts k (λ i p h e. f (suc i) p (omega arith) e))

  -- the late tick over all submissions is the one over those that are not known to be answered
  pub overdue_from_known
      : (known : ℕ) → Known kit r known → overdue kit r r.submitted r.ticks ≡ overdue kit r (drop known r.submitted) (drop known r.ticks)
  overdue_from_known known k = overdue_skip r.submitted r.ticks known k.all_answered

  -- none is late where none has waited long enough
  pub overdue_none
      : (requests ticks : List ℕ) → ((i t : ℕ) → nth ticks i ≡ Some t → nat_le kit.patience (r.clock - t) ≡ false) → overdue kit r requests ticks ≡ None
  overdue_none [] ticks f = refl
  overdue_none (q ∷ qs) [] f = refl
  overdue_none (q ∷ qs) (t ∷ ts) f = rw (f 0 t refl, and-false (not (answered kit r q))) (overdue_none qs ts (λ i u e. f (suc i) u e))

  -- the first one that is not answered, if it has waited long enough
  pub overdue_here
      : (requests ticks : List ℕ) (k q t : ℕ) → nth requests k ≡ Some q → nth ticks k ≡ Some t → answered kit r q ≡ false
      → nat_le kit.patience (r.clock - t) ≡ true → overdue kit r (drop k requests) (drop k ticks) ≡ Some (t + kit.patience)
  overdue_here [] ticks k q t e d a w = no_way (cc)
  overdue_here (x ∷ xs) [] k q t e d a w = no_way (cc)
  overdue_here (x ∷ xs) (u ∷ us) zero q t e d a w =
      let same : x ≡ q = cc (e) in
      let at : u ≡ t = cc (d) in
      rw (same, at, a, w)
  overdue_here (x ∷ xs) (u ∷ us) (suc k) q t e d a w = overdue_here xs us k q t e d a w
