-- Laws of AnyLevel: elements by place and prefixes, of lists of every level. Assumes nothing.
use Rattle.std.specs.Prelude.{◌≡◌, ℕ, zero, suc, ◌+◌, ◌<◌, ◌≤◌, ◌⊎◌, List, [], ◌∷◌, ◌++◌, length, take, drop, refl}
use Rattle.std.proofs.Common.{sym, ap, ◌∙◌, inl, inr, ⊎_elim, le_of_suc-le-suc, arith, length-append}
use Rattle.std.proofs.Math.Decide.{dec_lt}
use Rattle.std.proofs.Math.Logic.{by_cases}
use Rattle.std.proofs.Math.Option.{none, some, none-ne-some}
use Rattle.std.proofs.Math.Seq.{drop-append_seam}
use Rattle.terms.specs.Lists.{◌⊑◌}
use Rattle.terms.specs.AnyLevel.{nth, Sub, Agree}

module _ {ℓ} {A : Type ℓ} where
  pub nth-append : (l m : List A) (i : ℕ) {a : A} → nth l i ≡ some a → nth (l ++ m) i ≡ some a
  nth-append [] m i {a} e = absurd (none-ne-some a e)
  nth-append (x ∷ xs) m zero e = e
  nth-append (x ∷ xs) m (suc i) e = nth-append xs m i e

  pub nth-lt : (l : List A) (i : ℕ) {a : A} → nth l i ≡ some a → i < length l
  nth-lt [] i {a} e = absurd (none-ne-some a e)
  nth-lt (x ∷ xs) zero e = omega arith
  nth-lt (x ∷ xs) (suc i) e = omega (arith, nth-lt xs i e)

  pub nth_in : (l : List A) (i : ℕ) → i < length l → (a : A) × (nth l i ≡ some a)
  nth_in [] i h = absurd (omega arith)
  nth_in (x ∷ xs) zero h = (x, refl)
  nth_in (x ∷ xs) (suc i) h = nth_in xs i (le_of_suc-le-suc h)

  -- a list with something at each place below n has n elements, one with nothing at place i has no more than i
  pub nth_full : (l : List A) (n : ℕ) → ((i : ℕ) → i < n → (a : A) × (nth l i ≡ some a)) → n ≤ length l
  nth_full l n f =
      by_cases (dec_lt (length l) n)
      (λ t. let h = f (length l) t in absurd (omega (arith, nth-lt l (length l) h.1)))
      (λ t. omega (arith, t))

  pub nth-none : (l : List A) (i : ℕ) → nth l i ≡ none → length l ≤ i
  nth-none l i e =
      by_cases (dec_lt i (length l)) (λ t. let h = nth_in l i t in absurd (none-ne-some h.0 (sym e ∙ h.1))) (λ t. omega (arith, t))

  pub nth-snoc : (l : List A) (a : A) → nth (l ++ (a ∷ [])) (length l) ≡ some a
  nth-snoc [] a = refl
  nth-snoc (x ∷ xs) a = nth-snoc xs a

  pub nth-snoc_inv : (l : List A) (a : A) (i : ℕ) {b : A} → nth (l ++ (a ∷ [])) i ≡ some b → (nth l i ≡ some b) ⊎ ((i ≡ length l) × (a ≡ b))
  nth-snoc_inv [] a zero e = inr (refl, cc)
  nth-snoc_inv [] a (suc i) e = inl e
  nth-snoc_inv (x ∷ xs) a zero e = inl e
  nth-snoc_inv (x ∷ xs) a (suc i) e = ⊎_elim (λ p. inl p) (λ p. inr (ap suc p.0, p.1)) (nth-snoc_inv xs a i e)

  pub nth_app_inv : (l m : List A) (i : ℕ) {b : A} → nth (l ++ m) i ≡ some b → (nth l i ≡ some b) ⊎ ((j : ℕ) × (i ≡ length l + j) × (nth m j ≡ some b))
  nth_app_inv [] m i e = inr (i, omega arith, e)
  nth_app_inv (x ∷ xs) m zero e = inl e
  nth_app_inv (x ∷ xs) m (suc i) e = ⊎_elim (λ p. inl p) (λ p. inr (p.0, omega (arith, p.1), p.2)) (nth_app_inv xs m i e)

  pub nth-take : (n : ℕ) (l : List A) (i : ℕ) {a : A} → nth (take n l) i ≡ some a → (i < n) × (nth l i ≡ some a)
  nth-take zero l i {a} e = absurd (none-ne-some a e)
  nth-take (suc n) [] i {a} e = absurd (none-ne-some a e)
  nth-take (suc n) (x ∷ xs) zero e = (omega arith, e)
  nth-take (suc n) (x ∷ xs) (suc i) e = let h = nth-take n xs i e in (omega arith, h.1)

  pub take_nth : (n : ℕ) (l : List A) (i : ℕ) {a : A} → i < n → nth l i ≡ some a → nth (take n l) i ≡ some a
  take_nth zero l i h e = absurd (omega arith)
  take_nth (suc n) [] i h e = e
  take_nth (suc n) (x ∷ xs) zero h e = e
  take_nth (suc n) (x ∷ xs) (suc i) h e = take_nth n xs i (le_of_suc-le-suc h) e

  pub sub_prefix : (l m : List A) → Sub l m → l ⊑ m
  sub_prefix [] m f = (m, refl)
  sub_prefix (x ∷ xs) [] f = absurd (none-ne-some x (f 0 x refl))
  sub_prefix (x ∷ xs) (y ∷ ys) f =
      let h = sub_prefix xs ys (λ i a e. f (suc i) a e) in
      (h.0, cc (f 0 x refl, h.1))

  pub agree_prefix : (l m : List A) → Agree l m → (l ⊑ m) ⊎ (m ⊑ l)
  agree_prefix [] m f = inl (m, refl)
  agree_prefix (x ∷ xs) [] f = inr (x ∷ xs, refl)
  agree_prefix (x ∷ xs) (y ∷ ys) f =
      ⊎_elim (λ h. inl (h.0, cc (f 0 x y refl refl, h.1))) (λ h. inr (h.0, cc (f 0 x y refl refl, h.1)))
      (agree_prefix xs ys (λ i a b e d. f (suc i) a b e d))

pub sub_length {ℓ} : {A : Type ℓ} (l m : List A) → Sub l m → length l ≤ length m
sub_length l m f = let h = sub_prefix l m f in rw (← h.1) (omega (arith, length-append l h.0))

pub nth_drop {ℓ} : {A : Type ℓ} (k : ℕ) (l : List A) (i : ℕ) → nth (drop k l) i ≡ nth l (k + i)
nth_drop zero l i = let z : 0 + i ≡ i = omega arith in rw z
nth_drop (suc k) [] i = refl
nth_drop (suc k) (x ∷ xs) i = let z : suc k + i ≡ suc (k + i) = omega arith in rw z (nth_drop k xs i)

pub nth_behind {ℓ} : {A : Type ℓ} (l m : List A) (i : ℕ) → nth (l ++ m) (length l + i) ≡ nth m i
nth_behind l m i = sym (nth_drop (length l) (l ++ m) i) ∙ ap (λ (z : List _). nth z i) (drop-append_seam l m)
