-- What Lists says of the elements of a list by their place, of lists of every level: over the logic's option, which has every level, where the rules
-- and the code have std's, which is of level 0. Laws: AnyLevelLaws, which ListLaws reads at level 0. Assumes nothing.
use Rattle.std.specs.Prelude.{◌≡◌, ℕ, zero, suc, Bool, true, false, List, [], ◌∷◌, None, Some}
use Rattle.std.specs.Prelude as std
use Rattle.std.proofs.Math.Option.{Option, none, some}

module _ {ℓ} {A : Type ℓ} where
  -- the element at a place, counted from 0
  abbrev pub nth : List A → ℕ → Option A
  nth [] n = none
  nth (x ∷ xs) zero = some x
  nth (x ∷ xs) (suc n) = nth xs n

  -- the first stands at the front of the second, place by place
  abbrev pub Sub : List A → List A → Type ℓ
  Sub l m = (i : ℕ) (a : A) → nth l i ≡ some a → nth m i ≡ some a

  -- wherever both have an element it is the same
  abbrev pub Agree : List A → List A → Type ℓ
  Agree l m = (i : ℕ) (a b : A) → nth l i ≡ some a → nth m i ≡ some b → a ≡ b

  -- no element stands at two places
  abbrev pub Once : List A → Type ℓ
  Once l = (i j : ℕ) (a : A) → nth l i ≡ some a → nth l j ≡ some a → i ≡ j

abbrev pub is_some {ℓ} : {A : Type ℓ} → Option A → Bool
is_some none = false
is_some (some a) = true

-- std's option for the logic's
abbrev pub std_option : {A : Type 0} → Option A → std.Option A
std_option none = None
std_option (some a) = Some a
