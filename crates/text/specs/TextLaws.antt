-- Laws of Text: a text in two parts, a text that fits. Assumes nothing.
use Rattle.std.specs.Prelude.{◌≡◌, refl, List, [], ◌∷◌, ◌++◌, ℕ, zero, suc, ◌+◌, ◌-◌, ◌/◌, ◌%◌, ◌≤◌, ◌<◌, length, drop, get_or, ltb}
use Rattle.std.proofs.Common.{sym, ap, ◌∙◌, arith, length-set, drop_of_length-le, drop-cons, add-one, lt-ltb, le-ltb}
use Rattle.terms.specs.ListLaws.{pick_elim}
use Rattle.text.specs.Text.{Put, put, put_byte, laid, Lays, decimal_in}

pub laid_append : (t u : List ℕ) (s : List ℕ) (at : ℕ) → laid s at (t ++ u) ≡ laid (laid s at t).bytes (laid s at t).next u
unfolding laid
laid_append [] u s at = refl
laid_append (b ∷ t) u s at = laid_append t u (put_byte s at b).bytes (put_byte s at b).next

length_put : (s : List ℕ) (at b : ℕ) → length (put_byte s at b).bytes ≡ length s
length_put s at b = pick_elim (λ (p : Put). length p.bytes ≡ length s) (ltb at (length s)) (λ e. length-set s at b) (λ e. refl)

-- a text leaves the buffer as long as it was
pub length_laid : (t : List ℕ) (s : List ℕ) (at : ℕ) → length (laid s at t).bytes ≡ length s
unfolding laid
length_laid [] s at = refl
length_laid (b ∷ t) s at = length_laid t (put_byte s at b).bytes (put_byte s at b).next ∙ length_put s at b

-- a text from one of its bytes on
pub laid_from : (t : List ℕ) (i : ℕ) (s : List ℕ) (at : ℕ) → i < length t
    → laid s at (drop i t) ≡ laid (laid s at (get_or t i 0 ∷ [])).bytes (laid s at (get_or t i 0 ∷ [])).next (drop (i + 1) t)
unfolding laid
laid_from t i s at h = rw (drop-cons t i 0 h, add-one i)

pub laid_end : (t : List ℕ) (i : ℕ) (s : List ℕ) (at : ℕ) → length t ≤ i → laid s at (drop i t) ≡ put at s
unfolding laid
laid_end t i s at h = rw (drop_of_length-le t h)

-- ---- a text put in two steps, from what each step promises

module _ {s x : List ℕ} {at r : ℕ} {t : List ℕ} (e : Lays s at t r x) where
  pub length_after : length x ≡ length s
  length_after = ap (λ (p : Put). length p.bytes) e.is ∙ length_laid t s at

  pub then_lays : {y : List ℕ} {q : ℕ} {u : List ℕ} → Lays x r u q y → Lays s at (t ++ u) q y
  then_lays {y} {q} {u} d =
      record { is = d.is ∙ ap (λ (p : Put). laid p.bytes p.next u) e.is ∙ sym (laid_append t u s at) }

  -- the same text, said in another way
  pub lays_as : {u : List ℕ} → t ≡ u → Lays s at u r x
  lays_as {u} d = record { is = e.is ∙ ap (laid s at) d }

-- nothing put is the empty text
pub lays_none : (s : List ℕ) (at : ℕ) → Lays s at [] at s
unfolding laid
lays_none s at = record { is = refl }

-- ---- a number's digits

pub decimal_last : (most n : ℕ) → (most ≡ 0 → ⊥) → n < 10 → decimal_in most n ≡ (48 + n % 10) ∷ []
decimal_last zero n some h = absurd (some refl)
decimal_last (suc most) n some h = simp (lt-ltb n 10 h)

pub decimal_more : (most n : ℕ) → (most ≡ 0 → ⊥) → 10 ≤ n → decimal_in most n ≡ decimal_in (most - 1) (n / 10) ++ ((48 + n % 10) ∷ [])
decimal_more zero n some h = absurd (some refl)
decimal_more (suc most) n some h = let z : suc most - 1 ≡ most = omega arith in rw z (simp (le-ltb n 10 h))
