-- The invariants of two loops, and what is cited of a turn of each. Assumes nothing.
use Rattle.std.proofs.Common.{◌≡◌, refl, ◌∙◌, Bool, true, false, List, [], ◌∷◌, ℕ, zero, suc, ◌+◌, ◌≤◌, ◌<◌, min, arith, add-one, length, drop, get_or, drop-cons}
use Rattle.terms.specs.Limits.{replicas_max}
use Rattle.terms.specs.Lists.{least_over, count_below}
use Rattle.terms.specs.ListLaws.{split}
use Rattle.terms.specs.Kit.{marks_active}
use Rattle.rules.specs.Table.{actives_from}

-- ---- how many of seven pass a test

count_below-le : (n : ℕ) (t : ℕ → Bool) → count_below n t ≤ n
count_below-le zero t = omega arith
count_below-le (suc n) t = split (t n) (λ e. rw e (omega (arith, count_below-le n t))) (λ e. rw e (omega (arith, count_below-le n t)))

pub record Counting (t : ℕ → Bool) (n y : ℕ) : Type 0 where
  pub within : y ≤ replicas_max
  pub so_far : n ≡ count_below y t

pub small : {t : ℕ → Bool} {n y : ℕ} → Counting t n y → y < replicas_max → n < replicas_max
small {t} {n} {y} s h = rw s.so_far (omega (arith, count_below-le y t))

-- ---- the least over the active replicas: that of replica y and those after it, and of c

-- what one of them has may as well go into the value that is there at the start
least_over-min : (ys : List ℕ) (g : ℕ → ℕ) (a d : ℕ) → min a (least_over ys g d) ≡ least_over ys g (min a d)
least_over-min [] g a d = refl
least_over-min (y ∷ ys) g a d = rw (← least_over-min ys g a d) (omega arith)

pub record Lessening (table : List ℕ) (g : ℕ → ℕ) (first c y : ℕ) : Type 0 where
  pub rest : least_over (actives_from table 0) g first ≡ least_over (actives_from (drop y table) y) g c

module _ {table : List ℕ} {g : ℕ → ℕ} {first c y : ℕ} (s : Lessening table g first c y) where
  pub next_active : y < length table → marks_active (get_or table y 0) ≡ true → Lessening table g first (min (g y) c) (y + 1)
  next_active below e =
      record { rest = s.rest ∙ rw (drop-cons table y 0 below, e, add-one y) (least_over-min (actives_from (drop (suc y) table) (suc y)) g (g y) c) }

  pub next_passive : y < length table → marks_active (get_or table y 0) ≡ false → Lessening table g first c (y + 1)
  next_passive below e = record { rest = s.rest ∙ rw (drop-cons table y 0 below, e, add-one y) refl }
