-- Laws of Pieces: lists from a place on, entries from one on, numbered lists as lines. Assumes nothing.
use Rattle.std.specs.Prelude.{◌≡◌, refl, Bool, not, ◌||◌, List, [], ◌∷◌, ◌++◌, length, get_or, drop, eqb, ℕ, zero, suc, ◌+◌, ◌-◌, ◌≤◌, ◌<◌, Some}
use Rattle.std.proofs.Common.{sym, ap, ◌∙◌, arith, drop_of_length-le, drop-cons}
use Rattle.std.proofs.Math.Numerals.{add-one}
use Rattle.std.proofs.Math.Option.{some}
use Rattle.terms.specs.Lists.{pick, nth}
use Rattle.terms.specs.ListLaws.{at_std}
use Rattle.terms.specs.AnyLevel as any
use Rattle.text.specs.Text.{decimal}
use Rattle.play_lines.specs.Lines.{lines_from}
use Rattle.room_lines.specs.Pieces.{dash, commas, listed, numbered, entry_text, entries_from}

-- ---- lists

pub commas_next : (l : List ℕ) (i : ℕ) → i < length l → commas (drop i l) ≡ ((44 ∷ []) ++ decimal (get_or l i 0)) ++ commas (drop (i + 1) l)
commas_next l i h = rw (drop-cons l i 0 h, add-one i)

pub commas_over : (l : List ℕ) (i : ℕ) → length l ≤ i → commas (drop i l) ≡ []
commas_over l i h = rw (drop_of_length-le l h)

-- the numbers of a list one after the other
commas_from : (m i : ℕ) (l : List ℕ) → i + m ≡ length l → commas (drop i l) ≡ lines_from i m (λ k. (44 ∷ []) ++ decimal (get_or l k 0))
unfolding lines_from
commas_from zero i l e = commas_over l i (omega arith)
commas_from (suc m) i l e =
    commas_next l i (omega arith) ∙ rw (add-one i) (ap (λ (t : List ℕ). ((44 ∷ []) ++ decimal (get_or l i 0)) ++ t) (commas_from m (suc i) l (omega arith)))

pub commas_each : (l : List ℕ) → lines_from 0 (length l) (λ k. (44 ∷ []) ++ decimal (get_or l k 0)) ≡ commas l
commas_each l = sym (commas_from (length l) 0 l (omega arith))

pub listed_none : (l : List ℕ) → length l ≡ 0 → dash ≡ listed l
unfolding listed
listed_none [] e = refl
listed_none (n ∷ l) e = absurd (omega arith)

pub listed_some : (l : List ℕ) → (length l ≡ 0 → ⊥) → decimal (get_or l 0 0) ++ commas (drop 1 l) ≡ listed l
unfolding listed
listed_some [] e = absurd (e refl)
listed_some (n ∷ l) e = refl

-- ---- accepted values

module _ (accepted : ℕ → ℕ) (begun : Bool) (c n : ℕ) where
  pub entries_next : c < n
      → entries_from accepted begun c (n - c)
      ≡ entry_text begun c (accepted c) ++ entries_from accepted (begun || not (eqb (accepted c) 0)) (c + 1) (n - (c + 1))
  unfolding entries_from
  entries_next h = let e : n - c ≡ suc (n - (c + 1)) = omega arith in rw (e, add-one c)

  pub entries_over : n ≤ c → entries_from accepted begun c (n - c) ≡ pick begun [] dash
  unfolding entries_from
  entries_over h = let e : n - c ≡ 0 = omega arith in rw e

-- the same entries, said in another way
pub entries_ext : (m c : ℕ) (f g : ℕ → ℕ) (begun : Bool) → ((k : ℕ) → k < c + m → f k ≡ g k)
    → entries_from f begun c m ≡ entries_from g begun c m
unfolding entries_from
entries_ext zero c f g begun e = refl
entries_ext (suc m) c f g begun e =
    rw (e c (omega arith), entries_ext m (suc c) f g (begun || not (eqb (g c) 0)) (λ k h. e k (omega (arith, h))))

-- ---- numbered lists

-- lines of which each is an element's, of a list of any level: from number i on, and from the first
lines_numbered {ℓ} : {A : Type ℓ} (l : List A) (i : ℕ) (line : ℕ → List ℕ) (text : ℕ → A → List ℕ)
    → ((k : ℕ) (a : A) → any.nth l k ≡ some a → (n : ℕ) → n ≡ i + k → line n ≡ text n a) → lines_from i (length l) line ≡ numbered text i l
unfolding lines_from
lines_numbered [] i line text e = refl
lines_numbered (a ∷ l) i line text e =
    rw (e 0 a refl i (omega arith), lines_numbered l (suc i) line text (λ k b h n d. e (suc k) b h n (omega (arith, d))))

pub lines_each_any {ℓ} : {A : Type ℓ} (l : List A) (line : ℕ → List ℕ) (text : ℕ → A → List ℕ)
    → ((k : ℕ) (a : A) → any.nth l k ≡ some a → line k ≡ text k a) → lines_from 0 (length l) line ≡ numbered text 0 l
lines_each_any l line text e = lines_numbered l 0 line text (λ k a h n d. let z : n ≡ k = omega (arith, d) in rw z (e k a h))

-- the same by std's option
pub lines_each : {A : Type 0} (l : List A) (line : ℕ → List ℕ) (text : ℕ → A → List ℕ)
    → ((k : ℕ) (a : A) → nth l k ≡ Some a → line k ≡ text k a) → lines_from 0 (length l) line ≡ numbered text 0 l
lines_each l line text e = lines_each_any l line text (λ k a h. e k a (at_std l k h))
