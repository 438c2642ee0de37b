-- Tests of the first n of a list, entry by entry: what a loop that goes up the list finds. Assumes nothing.
use Rattle.std.specs.Prelude.{◌≡◌, refl, Bool, true, false, not, ◌&&◌, ◌||◌, List, [], ◌∷◌, ◌++◌, ℕ, zero, suc, ◌≤◌, ◌<◌, length, take, get_or, eqb, ◌+◌}
use Rattle.std.proofs.Common.{sym, ap, zero-add, add-one, ◌∙◌, arith, take-suc, eqb-true, eq-eqb, ne_eqb}
use Rattle.std.proofs.lemmas.Bool.{eqb-false}
use Rattle.std.specs.List.{list_all, enumerate_from}
use Rattle.std.proofs.lemmas.List.Folds.{list_all_more}
use Rattle.std.proofs.lemmas.List.FromFn.{length-enumerate_from, get_or-enumerate_from}
use Rattle.terms.specs.Lists.{holds, distinct, all_of, all_below}
use Rattle.terms.specs.ListLaws.{split, holds-snoc}

-- ---- tests in another order

four : (a b c d : Bool) → ((a && b) && (c && d)) ≡ ((c && a) && (b && d))
four true b true d = refl
four true true false d = refl
four true false false d = refl
four false b true d = refl
four false b false d = refl

and_swap : (a b c : Bool) → (a && (b && c)) ≡ (b && (a && c))
and_swap true b c = refl
and_swap false true c = refl
and_swap false false c = refl

eqb_sym : (a b : ℕ) → eqb a b ≡ eqb b a
eqb_sym a b =
    split (eqb a b) (λ e. rw e (sym (eq-eqb b a (sym (eqb-true a b e)))))
    (λ e. rw e (sym (ne_eqb b a (λ q. eqb-false a b e (sym q)))))

-- two tests of every number below n, as one
pub all_below-and : (n : ℕ) (s t : ℕ → Bool) → (all_below n s && all_below n t) ≡ all_below n (λ i. t i && s i)
all_below-and zero s t = refl
all_below-and (suc n) s t = four (s n) (all_below n s) (t n) (all_below n t) ∙ ap (λ (b : Bool). (t n && s n) && b) (all_below-and n s t)

pub all_below-not : (n : ℕ) (t : ℕ → Bool) (i : ℕ) → i < n → t i ≡ false → all_below n t ≡ false
all_below-not zero t i h e = absurd (omega arith)
all_below-not (suc n) t i h e =
    split (eqb i n) (λ q. let z : t n ≡ false = rw (← eqb-true i n q) e in rw z)
    (λ q. rw (all_below-not n t i (omega (arith, eqb-false i n q)) e) (and_none (t n)))
  where
    and_none : (b : Bool) → (b && false) ≡ false
    and_none true = refl
    and_none false = refl

-- tests that agree where they are asked
pub all_below_ext : (n : ℕ) (s t : ℕ → Bool) → ((i : ℕ) → i < n → s i ≡ t i) → all_below n s ≡ all_below n t
all_below_ext zero s t e = refl
all_below_ext (suc n) s t e = rw (e n (omega arith), all_below_ext n s t (λ i h. e i (omega arith)))

-- ---- one entry more, at the end

pub taken_twice : (i j : ℕ) (l : List ℕ) → i ≤ j → take i (take j l) ≡ take i l
taken_twice zero j l h = refl
taken_twice (suc i) zero l h = absurd (omega arith)
taken_twice (suc i) (suc j) [] h = refl
taken_twice (suc i) (suc j) (x ∷ xs) h = ap (λ (m : List ℕ). x ∷ m) (taken_twice i j xs (omega arith))

all_of-snoc : (l : List ℕ) (a : ℕ) (t : ℕ → Bool) → all_of (l ++ (a ∷ [])) t ≡ (t a && all_of l t)
all_of-snoc [] a t = refl
all_of-snoc (x ∷ xs) a t = rw (all_of-snoc xs a t) (and_swap (t x) (t a) (all_of xs t))

distinct_snoc : (l : List ℕ) (a : ℕ) → distinct (l ++ (a ∷ [])) ≡ (not (holds a l) && distinct l)
distinct_snoc [] a = refl
distinct_snoc (x ∷ xs) a =
    rw (holds-snoc x xs a, distinct_snoc xs a, eqb_sym a x) (turn (holds x xs) (eqb x a) (holds a xs) (distinct xs))
  where
    turn : (p q s d : Bool) → (not (p || q) && (not s && d)) ≡ (not (q || s) && (not p && d))
    turn true true s d = refl
    turn true false true d = refl
    turn true false false d = refl
    turn false true s d = refl
    turn false false true d = refl
    turn false false false d = refl

-- ---- the first n entries

module _ (l : List ℕ) where
  pub all_of_entries : (t : ℕ → Bool) (n : ℕ) → n ≤ length l → all_of (take n l) t ≡ all_below n (λ i. t (get_or l i 0))
  all_of_entries t zero h = refl
  all_of_entries t (suc n) h =
      ap (λ (m : List ℕ). all_of m t) (take-suc l n 0 h) ∙ all_of-snoc (take n l) (get_or l n 0) t
      ∙ ap (λ (b : Bool). t (get_or l n 0) && b) (all_of_entries t n (omega arith))

  pub distinct_entries : (n : ℕ) → n ≤ length l → distinct (take n l) ≡ all_below n (λ i. not (holds (get_or l i 0) (take i l)))
  distinct_entries zero h = refl
  distinct_entries (suc n) h =
      ap distinct (take-suc l n 0 h) ∙ distinct_snoc (take n l) (get_or l n 0)
      ∙ ap (λ (b : Bool). not (holds (get_or l n 0) (take n l)) && b) (distinct_entries n (omega arith))

-- ---- a chain over the first n entries, each with its place

placed_entries : (n k : ℕ) (l : List ℕ) → take n (enumerate_from k l) ≡ enumerate_from k (take n l)
placed_entries zero k l = refl
placed_entries (suc n) k [] = refl
placed_entries (suc n) k (x ∷ xs) = ap (λ (m : List (ℕ × ℕ)). (k, x) ∷ m) (placed_entries n (k + 1) xs)

and_turn : (a b : Bool) → (a && b) ≡ (b && a)
and_turn true true = refl
and_turn true false = refl
and_turn false true = refl
and_turn false false = refl

module _ (l : List ℕ) (p : ℕ × ℕ → Bool) where
  taken_entries : (n : ℕ) → n ≤ length l → list_all p (take n (enumerate_from 0 l)) ≡ all_below n (λ i. p (i, get_or l i 0))
  taken_entries zero h = refl
  taken_entries (suc n) h =
      let last : get_or (enumerate_from 0 l) n (0, 0) ≡ (n, get_or l n 0) = rw (get_or-enumerate_from 0 l n (0, 0) h, zero-add n) in
      ap (λ (m : ℕ). list_all p (take m (enumerate_from 0 l))) (sym (add-one n))
      ∙ list_all_more p (enumerate_from 0 l) n (0, 0) (rw (length-enumerate_from 0 l) h)
      ∙ rw (last, taken_entries n (omega arith)) (and_turn (all_below n (λ i. p (i, get_or l i 0))) (p (n, get_or l n 0)))

  pub all_entries : (n : ℕ) → n ≤ length l → list_all p (enumerate_from 0 (take n l)) ≡ all_below n (λ i. p (i, get_or l i 0))
  all_entries n h = rw (← placed_entries n 0 l) (taken_entries n h)
