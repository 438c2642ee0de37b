-- Choosing by a test, and lists: what every definition of the project is written with. Laws: ListLaws. Assumes nothing.
use Rattle.std.specs.Prelude.{◌≡◌, ℕ, zero, suc, min, Bool, true, false, not, ◌&&◌, ◌||◌, List, [], ◌∷◌, ◌++◌, ◌==◌, nat_le, Option, None, Some}

-- the first where the test is true, else the second
abbrev pub pick {ℓ} : {A : Type ℓ} → Bool → A → A → A
pick true a b = a
pick false a b = b

-- whether n is lo to hi
abbrev pub within : ℕ → ℕ → ℕ → Bool
within lo hi n = nat_le lo n && nat_le n hi

-- ---- tests over numbers and lists

-- every number below n passes
abbrev pub all_below : ℕ → (ℕ → Bool) → Bool
all_below zero t = true
all_below (suc n) t = t n && all_below n t

-- some number below n passes
abbrev pub any_below : ℕ → (ℕ → Bool) → Bool
any_below zero t = false
any_below (suc n) t = t n || any_below n t

-- how many numbers below n pass
abbrev pub count_below : ℕ → (ℕ → Bool) → ℕ
count_below zero t = 0
count_below (suc n) t = pick (t n) (suc (count_below n t)) (count_below n t)

-- every element passes
abbrev pub all_of : List ℕ → (ℕ → Bool) → Bool
all_of [] t = true
all_of (x ∷ xs) t = t x && all_of xs t

-- how many elements pass
abbrev pub count_of : (ℕ → Bool) → List ℕ → ℕ
count_of t [] = 0
count_of t (x ∷ xs) = pick (t x) (suc (count_of t xs)) (count_of t xs)

-- whether a list holds a number
abbrev pub holds : ℕ → List ℕ → Bool
holds r [] = false
holds r (x ∷ xs) = r == x || holds r xs

-- whether no number stands twice
abbrev pub distinct : List ℕ → Bool
distinct [] = true
distinct (x ∷ xs) = not (holds x xs) && distinct xs

-- the least of g over a list and of d
abbrev pub least_over : List ℕ → (ℕ → ℕ) → ℕ → ℕ
least_over [] g d = d
least_over (y ∷ ys) g d = min (g y) (least_over ys g d)

-- ---- reading by place, prefixes

module _ {ℓ} {A : Type ℓ} where
  infix 40 ◌⊑◌
  -- the first stands at the front of the second
  abbrev pub ◌⊑◌ : List A → List A → Type ℓ
  ◌⊑◌ l m = (s : List A) × (l ++ s ≡ m)

-- of level 0, since std's option is; of every level in AnyLevel
module _ {A : Type 0} where
  -- the element at a place, counted from 0
  abbrev pub nth : List A → ℕ → Option A
  nth [] n = None
  nth (x ∷ xs) zero = Some x
  nth (x ∷ xs) (suc n) = nth xs n

  -- the same, place by place
  abbrev pub Sub : List A → List A → Type 0
  Sub l m = (i : ℕ) (a : A) → nth l i ≡ Some a → nth m i ≡ Some a

  -- wherever both have an element it is the same
  abbrev pub Agree : List A → List A → Type 0
  Agree l m = (i : ℕ) (a b : A) → nth l i ≡ Some a → nth m i ≡ Some b → a ≡ b

  -- no element stands at two places
  abbrev pub Once : List A → Type 0
  Once l = (i j : ℕ) (a : A) → nth l i ≡ Some a → nth l j ≡ Some a → i ≡ j

abbrev pub is_some : {A : Type 0} → Option A → Bool
is_some None = false
is_some (Some a) = true
