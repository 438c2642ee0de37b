-- Laws of Lists. In order: tests taken apart (`split`, `no_way`, `and_l`), elements by place and prefixes (`nth-…`, `sub_prefix`), tests below a bound,
-- the least (`least_over-…`), lists that hold a number, tests of every element, lists in which nothing stands twice (`once-…`). Assumes nothing.
use Rattle.std.specs.Prelude.{◌≡◌, ℕ, zero, suc, ◌+◌, ◌<◌, ◌≤◌, Bool, true, false, not, ◌&&◌, ◌||◌, ◌≢◌, ◌⊎◌, List, [], ◌∷◌, ◌++◌, length, get_or, take, drop, ◌==◌, nat_lt, refl, None, Some}
use Rattle.std.proofs.Common.{sym, ap, ◌∙◌, inl, inr, ⊎_elim, le_of_suc-le-suc, arith, length-append, ltb-true, ltb-false, eqb-true, eq-eqb}
use Rattle.std.proofs.Math.Bool.{or-true}
use Rattle.std.proofs.Math.Option as logic
use Rattle.std.proofs.Math.Option.{none, some}
use Rattle.std.proofs.lemmas.Bool.{eqb-false}
use Rattle.terms.specs.Lists.{pick, all_below, any_below, all_of, holds, distinct, least_over, nth, ◌⊑◌, Sub, Agree, Once}
use Rattle.terms.specs.AnyLevel as any
use Rattle.terms.specs.AnyLevelLaws as law

-- split a goal on a test: the goal's family, the two cases with their equation
pub pick_elim {ℓ ℓ'} : {A : Type ℓ} (P : A → Type ℓ') (t : Bool) {a b : A} → (t ≡ true → P a) → (t ≡ false → P b) → P (pick t a b)
pick_elim P true f g = f refl
pick_elim P false f g = g refl

-- go by cases on a test, with its equation
pub split {ℓ} : {C : Type ℓ} (t : Bool) → (t ≡ true → C) → (t ≡ false → C) → C
split true f g = f refl
split false f g = g refl

pub no_way {ℓ} : {A : Type ℓ} → ◌≡◌ {A = ℕ} 0 1 → A
no_way e = absurd (omega arith)

pub and_l : (a b : Bool) → (a && b) ≡ true → a ≡ true
and_l true b e = refl
and_l false b e = e

pub and_r : (a b : Bool) → (a && b) ≡ true → b ≡ true
and_r true b e = e
and_r false b e = cc

pub and_both : {a b : Bool} → a ≡ true → b ≡ true → (a && b) ≡ true
and_both e d = rw (e, d)

pub or_l : (a b : Bool) → (a || b) ≡ false → a ≡ false
or_l true b e = e
or_l false b e = refl

pub or_r : (a b : Bool) → (a || b) ≡ false → b ≡ false
or_r true b e = cc
or_r false b e = e

pub not_was_false : (a : Bool) → not a ≡ false → a ≡ true
not_was_false true e = refl
not_was_false false e = cc

pub not_was_true : (a : Bool) → not a ≡ true → a ≡ false
not_was_true true e = cc
not_was_true false e = refl

-- ---- elements by place and prefixes, as AnyLevel has them, by std's option

module _ {A : Type 0} where
  std_nth : (l : List A) (i : ℕ) → any.std_option (any.nth l i) ≡ nth l i
  std_nth [] i = refl
  std_nth (x ∷ xs) zero = refl
  std_nth (x ∷ xs) (suc i) = std_nth xs i

  std_some : (o : logic.Option A) {a : A} → any.std_option o ≡ Some a → o ≡ some a
  std_some none e = no_way (cc)
  std_some (some b) e = cc

  std_none : (o : logic.Option A) → any.std_option o ≡ None → o ≡ none
  std_none none e = refl
  std_none (some b) e = no_way (cc)

  -- the element at a place, by std's option, is the one by the logic's
  at_any : (l : List A) (i : ℕ) {a : A} → nth l i ≡ Some a → any.nth l i ≡ some a
  at_any l i e = std_some (any.nth l i) (std_nth l i ∙ e)

  pub at_std : (l : List A) (i : ℕ) {a : A} → any.nth l i ≡ some a → nth l i ≡ Some a
  at_std l i e = sym (std_nth l i) ∙ ap any.std_option e

  pub nth-append : (l m : List A) (i : ℕ) {a : A} → nth l i ≡ Some a → nth (l ++ m) i ≡ Some a
  nth-append l m i e = at_std (l ++ m) i (law.nth-append l m i (at_any l i e))

  pub nth-lt : (l : List A) (i : ℕ) {a : A} → nth l i ≡ Some a → i < length l
  nth-lt l i e = law.nth-lt l i (at_any l i e)

  pub nth_in : (l : List A) (i : ℕ) → i < length l → (a : A) × (nth l i ≡ Some a)
  nth_in l i h = let p = law.nth_in l i h in (p.0, at_std l i p.1)

  -- a list with something at each place below n has n elements, one with nothing at place i has no more than i
  pub nth_full : (l : List A) (n : ℕ) → ((i : ℕ) → i < n → (a : A) × (nth l i ≡ Some a)) → n ≤ length l
  nth_full l n f = law.nth_full l n (λ i h. let p = f i h in (p.0, at_any l i p.1))

  pub nth-none : (l : List A) (i : ℕ) → nth l i ≡ None → length l ≤ i
  nth-none l i e = law.nth-none l i (std_none (any.nth l i) (std_nth l i ∙ e))

  pub nth-snoc : (l : List A) (a : A) → nth (l ++ (a ∷ [])) (length l) ≡ Some a
  nth-snoc l a = at_std (l ++ (a ∷ [])) (length l) (law.nth-snoc l a)

  pub nth-snoc_inv : (l : List A) (a : A) (i : ℕ) {b : A} → nth (l ++ (a ∷ [])) i ≡ Some b → (nth l i ≡ Some b) ⊎ ((i ≡ length l) × (a ≡ b))
  nth-snoc_inv l a i e = ⊎_elim (λ p. inl (at_std l i p)) (λ p. inr p) (law.nth-snoc_inv l a i (at_any (l ++ (a ∷ [])) i e))

  pub nth_app_inv : (l m : List A) (i : ℕ) {b : A} → nth (l ++ m) i ≡ Some b → (nth l i ≡ Some b) ⊎ ((j : ℕ) × (i ≡ length l + j) × (nth m j ≡ Some b))
  nth_app_inv l m i e =
      ⊎_elim (λ p. inl (at_std l i p)) (λ p. inr (p.0, p.1, at_std m p.0 p.2)) (law.nth_app_inv l m i (at_any (l ++ m) i e))

  pub nth-take : (n : ℕ) (l : List A) (i : ℕ) {a : A} → nth (take n l) i ≡ Some a → (i < n) × (nth l i ≡ Some a)
  nth-take n l i e = let h = law.nth-take n l i (at_any (take n l) i e) in (h.0, at_std l i h.1)

  pub take_nth : (n : ℕ) (l : List A) (i : ℕ) {a : A} → i < n → nth l i ≡ Some a → nth (take n l) i ≡ Some a
  take_nth n l i h e = at_std (take n l) i (law.take_nth n l i h (at_any l i e))

  any_sub : (l m : List A) → Sub l m → any.Sub l m
  any_sub l m f i a e = at_any m i (f i a (at_std l i e))

  pub sub_prefix : (l m : List A) → Sub l m → l ⊑ m
  sub_prefix l m f = law.sub_prefix l m (any_sub l m f)

  pub agree_prefix : (l m : List A) → Agree l m → (l ⊑ m) ⊎ (m ⊑ l)
  agree_prefix l m f = law.agree_prefix l m (λ i a b e d. f i a b (at_std l i e) (at_std m i d))

  pub sub_length : (l m : List A) → Sub l m → length l ≤ length m
  sub_length l m f = law.sub_length l m (any_sub l m f)

  pub nth_drop : (k : ℕ) (l : List A) (i : ℕ) → nth (drop k l) i ≡ nth l (k + i)
  nth_drop k l i = sym (std_nth (drop k l) i) ∙ ap any.std_option (law.nth_drop k l i) ∙ std_nth l (k + i)

  pub nth_behind : (l m : List A) (i : ℕ) → nth (l ++ m) (length l + i) ≡ nth m i
  nth_behind l m i = sym (std_nth (l ++ m) (length l + i)) ∙ ap any.std_option (law.nth_behind l m i) ∙ std_nth m i

pub all_below_at : (n : ℕ) (t : ℕ → Bool) → all_below n t ≡ true → (i : ℕ) → i < n → t i ≡ true
all_below_at zero t e i h = absurd (omega arith)
all_below_at (suc n) t e i h =
    split (i == n) (λ q. cc (eqb-true i n q, and_l (t n) (all_below n t) e))
    (λ q. let ne : i ≢ n = eqb-false i n q in all_below_at n t (and_r (t n) (all_below n t) e) i (omega arith))

pub all_below_from : (n : ℕ) (t : ℕ → Bool) → ((i : ℕ) → i < n → t i ≡ true) → all_below n t ≡ true
all_below_from zero t f = refl
all_below_from (suc n) t f = and_both (f n (omega arith)) (all_below_from n t (λ i l. f i (omega arith)))

pub eqb_same : (a : ℕ) → (a == a) ≡ true
eqb_same a = eq-eqb a a refl

pub least_over-le : (ys : List ℕ) (g : ℕ → ℕ) (d : ℕ) (y : ℕ) → holds y ys ≡ true → least_over ys g d ≤ g y
least_over-le [] g d y e = no_way (cc)
least_over-le (x ∷ xs) g d y e =
    split (y == x) (λ q. rw (eqb-true y x q) (omega arith))
    (λ q. let m : holds y xs ≡ true = rw q at e in omega (arith, least_over-le xs g d y m))

pub least_over_glb : (ys : List ℕ) (g : ℕ → ℕ) (d m : ℕ) → ((y : ℕ) → holds y ys ≡ true → m ≤ g y) → m ≤ d → m ≤ least_over ys g d
least_over_glb [] g d m f h = h
least_over_glb (x ∷ xs) g d m f h =
    omega (arith, f x (rw (eqb_same x)), least_over_glb xs g d m (λ y e. f y (rw e (or-true (y == x)))) h)

pub least_over_seed : (ys : List ℕ) (g : ℕ → ℕ) (d : ℕ) → least_over ys g d ≤ d
least_over_seed [] g d = omega arith
least_over_seed (x ∷ xs) g d = omega (arith, least_over_seed xs g d)

pub least_over_mono : (ys : List ℕ) (g h : ℕ → ℕ) (d e : ℕ) → ((y : ℕ) → g y ≤ h y) → d ≤ e → least_over ys g d ≤ least_over ys h e
least_over_mono [] g h d e f l = l
least_over_mono (x ∷ xs) g h d e f l = omega (arith, f x, least_over_mono xs g h d e f l)

pub least_over_step : (ys : List ℕ) (g h : ℕ → ℕ) (d e : ℕ) → ((y : ℕ) → h y ≤ suc (g y)) → e ≤ suc d → least_over ys h e ≤ suc (least_over ys g d)
least_over_step [] g h d e f k = k
least_over_step (x ∷ xs) g h d e f k = omega (arith, f x, least_over_step xs g h d e f k)

pub holds-snoc : (r : ℕ) (l : List ℕ) (a : ℕ) → holds r (l ++ (a ∷ [])) ≡ (holds r l || r == a)
holds-snoc r [] a = or_none (r == a)
  where
    or_none : (t : Bool) → (t || false) ≡ t
    or_none true = refl
    or_none false = refl
holds-snoc r (x ∷ xs) a = rw (holds-snoc r xs a) (or_assoc (r == x))
  where
    or_assoc : (t : Bool) → (t || (holds r xs || r == a)) ≡ ((t || holds r xs) || r == a)
    or_assoc true = refl
    or_assoc false = refl

pub holds_at : (l : List ℕ) (i r : ℕ) → nth l i ≡ Some r → holds r l ≡ true
holds_at [] i r e = no_way (cc)
holds_at (x ∷ xs) zero r e = let q : x ≡ r = cc in rw (q, eqb_same r)
holds_at (x ∷ xs) (suc i) r e = rw (holds_at xs i r e) (or-true (r == x))

pub not_holds : (l : List ℕ) (r : ℕ) → holds r l ≡ false → (i : ℕ) → nth l i ≡ Some r → ⊥
not_holds l r e i h = no_way (cc (holds_at l i r h))

pub once-snoc : (l : List ℕ) (r : ℕ) → Once l → holds r l ≡ false → Once (l ++ (r ∷ []))
once-snoc l r o e i j a p q =
    ⊎_elim
    (λ p₁. ⊎_elim (λ q₁. o i j a p₁ q₁) (λ q₁. absurd (not_holds l r e i (rw q₁.1 p₁))) (nth-snoc_inv l r j q))
    (λ p₁. ⊎_elim (λ q₁. absurd (not_holds l r e j (rw p₁.1 q₁))) (λ q₁. cc) (nth-snoc_inv l r j q))
    (nth-snoc_inv l r i p)

pub tri : (a b : ℕ) → (a < b) ⊎ ((b < a) ⊎ (a ≡ b))
tri a b =
    split (nat_lt a b) (λ q. inl (ltb-true a b q))
    (λ q. split (nat_lt b a) (λ s. inr (inl (ltb-true b a s))) (λ s. inr (inr (omega (arith, ltb-false a b q, ltb-false b a s)))))

pub same? : (a b : ℕ) → (a ≡ b) ⊎ (a ≢ b)
same? a b = split (a == b) (λ q. inl (eqb-true a b q)) (λ q. inr (eqb-false a b q))

pub nth-get_or : (l : List ℕ) (i d : ℕ) → i < length l → nth l i ≡ Some (get_or l i d)
nth-get_or [] i d h = absurd (omega arith)
nth-get_or (x ∷ xs) zero d h = refl
nth-get_or (x ∷ xs) (suc i) d h = nth-get_or xs i d (le_of_suc-le-suc h)

pub length-snoc {ℓ} : {A : Type ℓ} (l : List A) (a : A) → length (l ++ (a ∷ [])) ≡ suc (length l)
length-snoc l a = omega (arith, length-append l (a ∷ []))

pub holds_nth : (l : List ℕ) (r : ℕ) → holds r l ≡ true → (i : ℕ) × (nth l i ≡ Some r)
holds_nth [] r e = no_way (cc)
holds_nth (x ∷ xs) r e =
    split (r == x) (λ t. (0, cc (eqb-true r x t)))
    (λ t. let h : holds r xs ≡ true = rw t at e in
    let n = holds_nth xs r h in
    (suc n.0, n.1))

pub not_true_false : (t : Bool) → (t ≢ true) → t ≡ false
not_true_false true f = absurd (f refl)
not_true_false false f = refl

pub all_of_at : (l : List ℕ) (t : ℕ → Bool) → all_of l t ≡ true → (i a : ℕ) → nth l i ≡ Some a → t a ≡ true
all_of_at [] t e i a h = no_way (cc)
all_of_at (x ∷ xs) t e zero a h = let z : x ≡ a = cc in rw z at (and_l (t x) (all_of xs t) e)
all_of_at (x ∷ xs) t e (suc i) a h = all_of_at xs t (and_r (t x) (all_of xs t) e) i a h

pub all_of_from : (l : List ℕ) (t : ℕ → Bool) → ((i a : ℕ) → nth l i ≡ Some a → t a ≡ true) → all_of l t ≡ true
all_of_from [] t f = refl
all_of_from (x ∷ xs) t f = and_both (f 0 x refl) (all_of_from xs t (λ i a h. f (suc i) a h))

pub once_head : (x : ℕ) (xs : List ℕ) → Once (x ∷ xs) → holds x xs ≡ false
once_head x xs o = not_true_false (holds x xs) (λ t. let h = holds_nth xs x t in absurd (omega (arith, o 0 (suc h.0) x refl h.1)))

pub once_tail : (x : ℕ) (xs : List ℕ) → Once (x ∷ xs) → Once xs
once_tail x xs o i j a p q = omega (arith, o (suc i) (suc j) a p q)

pub once-cons : (x : ℕ) (xs : List ℕ) → holds x xs ≡ false → Once xs → Once (x ∷ xs)
once-cons x xs e o zero zero a p q = refl
once-cons x xs e o zero (suc j) a p q = let z : x ≡ a = cc in absurd (not_holds xs x e j (rw z q))
once-cons x xs e o (suc i) zero a p q = let z : x ≡ a = cc in absurd (not_holds xs x e i (rw z p))
once-cons x xs e o (suc i) (suc j) a p q = ap suc (o i j a p q)

pub once-append : (l m : List ℕ) → Once l → Once m → ((i j a : ℕ) → nth l i ≡ Some a → nth m j ≡ Some a → ⊥) → Once (l ++ m)
once-append l m ol om d i j a p q =
    ⊎_elim
    (λ p₁. ⊎_elim (λ q₁. ol i j a p₁ q₁) (λ q₁. absurd (d i q₁.0 a p₁ q₁.2)) (nth_app_inv l m j q))
    (λ p₁. ⊎_elim (λ q₁. absurd (d j p₁.0 a q₁ p₁.2)) (λ q₁. omega (arith, om p₁.0 q₁.0 a p₁.2 q₁.2)) (nth_app_inv l m j q))
    (nth_app_inv l m i p)

pub distinct_once : (l : List ℕ) → distinct l ≡ true → Once l
distinct_once [] e = λ i j a p q. no_way (cc)
distinct_once (x ∷ xs) e =
    once-cons x xs (not_was_true (holds x xs) (and_l (not (holds x xs)) (distinct xs) e))
    (distinct_once xs (and_r (not (holds x xs)) (distinct xs) e))

pub once_distinct : (l : List ℕ) → Once l → distinct l ≡ true
once_distinct [] o = refl
once_distinct (x ∷ xs) o = rw (once_head x xs o) (once_distinct xs (once_tail x xs o))

pub any_below_past : (k n : ℕ) (t : ℕ → Bool) → n ≤ k → ((i : ℕ) → n ≤ i → t i ≡ false) → any_below k t ≡ any_below n t
any_below_past zero n t h e = let z : n ≡ 0 = omega arith in rw z
any_below_past (suc k) n t h e =
    split (n == suc k) (λ q. rw (eqb-true n (suc k) q))
    (λ q. let ne = eqb-false n (suc k) q in
    let below : n ≤ k = omega arith in
    rw (e k below) (any_below_past k n t below e))
