-- Requests noted once each, all of them submitted, and the submitted ones that are missing are together no more than those submitted: so a
-- list without repeats whose numbers all stand in another is no longer than that one. Assumes nothing.
use Rattle.std.specs.Prelude.{◌≡◌, refl, true, false, List, [], ◌∷◌, ℕ, suc, ◌+◌, ◌≤◌, ◌<◌, length, eqb, Some}
use Rattle.std.proofs.Common.{sym, ap, arith, eqb-true, ne_eqb}
use Rattle.std.proofs.lemmas.Bool.{eqb-false}
use Rattle.terms.specs.Lists.{nth, holds, Once}
use Rattle.terms.specs.ListLaws.{split, no_way, once_head, once_tail}
use Rattle.rules.specs.Switching.{missing}

-- every element is among those of the other list
abbrev pub Within : List ℕ → List ℕ → Type 0
Within l m = (i a : ℕ) → nth l i ≡ Some a → holds a m ≡ true

-- nothing noted: all are missing
missing_all : (s : List ℕ) → length (missing [] s) ≡ length s
missing_all [] = refl
missing_all (q ∷ qs) = ap suc (missing_all qs)

missing_fewer : (x : ℕ) (xs s : List ℕ) → length (missing (x ∷ xs) s) ≤ length (missing xs s)
missing_fewer x xs [] = omega arith
missing_fewer x xs (q ∷ qs) =
    split (eqb q x)
    (λ e. split (holds q xs) (λ h. rw (e, h) (missing_fewer x xs qs)) (λ h. rw (e, h) (omega (arith, missing_fewer x xs qs))))
    (λ e. split (holds q xs) (λ h. rw (e, h) (missing_fewer x xs qs)) (λ h. rw (e, h) (omega (arith, missing_fewer x xs qs))))

-- one more noted: one less is missing
missing_one_less : (x : ℕ) (xs s : List ℕ) → holds x xs ≡ false → holds x s ≡ true → length (missing (x ∷ xs) s) < length (missing xs s)
missing_one_less x xs [] n h = no_way (cc)
missing_one_less x xs (q ∷ qs) n h =
    split (eqb q x)
    (λ e. let z = eqb-true q x e in rw (e, z, n) (omega (arith, missing_fewer x xs qs)))
    (λ e.
    let d : eqb x q ≡ false = ne_eqb x q (λ z. eqb-false q x e (sym z)) in
    let h₁ : holds x qs ≡ true = rw d at h in
    split (holds q xs) (λ g. rw (e, g) (missing_one_less x xs qs n h₁)) (λ g. rw (e, g) (omega (arith, missing_one_less x xs qs n h₁))))

-- requests that are submitted, once each, and those that are missing are together no more than those submitted
pub noted_missing : (noted s : List ℕ) → Once noted → Within noted s → length noted + length (missing noted s) ≤ length s
noted_missing [] s o w = omega (arith, missing_all s)
noted_missing (x ∷ xs) s o w =
    omega (arith, missing_one_less x xs s (once_head x xs o) (w 0 x refl), noted_missing xs s (once_tail x xs o) (λ i a e. w (suc i) a e))

pub once-length : (l m : List ℕ) → Once l → Within l m → length l ≤ length m
once-length l m o w = omega (arith, noted_missing l m o w)
