-- A kit's number: groups of seven bits, the lowest first, the top bit set on every group but the last; at most five groups, the value below
-- 2^32, the shortest form only. What bytes say at a place, how a number is spelled, and what writing one leaves of a lent slice.
-- Laws: `NumberLaws`. Assumes nothing.
use Rattle.std.specs.Prelude.{Option, Some, None, Result, Ok, Err, ℕ, zero, suc, ◌+◌, ◌*◌, ◌/◌, ◌%◌, ◌^◌, ◌<◌, ◌≤◌, List, [], ◌∷◌, ◌++◌, ◌≡◌, ◌⊎◌, Bool, ◌&&◌, length, take, drop, get_or, ltb, leb, eqb}
use Rattle.terms.specs.Lists.{pick}
use Rattle.number.specs.declared.Found.{Found}
use Rattle.number.specs.declared.Fault.{Fault}

-- every element is a byte, as in each slice of bytes
abbrev pub Bytes : List ℕ → Type 0
Bytes s = (i : ℕ) → get_or s i 0 < 256

-- ---- what bytes say

-- a number and the place after it, or why there is none
abbrev pub Reading : Type 0
Reading = Result Found Fault

abbrev pub Number : ℕ → ℕ → Reading
Number value next = Ok (record { value = value; next = next })

abbrev pub Cut : Reading
Cut = Err Fault.Cut

abbrev pub Bad : Reading
Bad = Err Fault.Bad

-- how many bytes go on, which is to say have the top bit set, before the first that does not
abbrev pub going_on : List ℕ → ℕ
going_on [] = 0
going_on (b ∷ s) = pick (ltb b 128) 0 (suc (going_on s))

-- the byte after those that go on: the last group
abbrev pub last_group : List ℕ → ℕ
last_group s = get_or s (going_on s) 0

-- what groups make: seven bits of each, the lowest first
abbrev pub value : List ℕ → ℕ
value [] = 0
value (b ∷ s) = value s * 128 + b % 128

-- what the groups at the head of the bytes make, the last one included
abbrev pub head_value : List ℕ → ℕ
head_value s = value (take (suc (going_on s)) s)

-- whether the last group is 0 and not the only one: then the form is not the shortest
abbrev pub ends_idle : List ℕ → Bool
ends_idle s = eqb (last_group s) 0 && ltb 0 (going_on s)

-- what the bytes s say, which stand from `at` on, where so many groups are the most and the value is below the limit; that there are more
-- groups is told as soon as the last that may be goes on, whatever follows
abbrev pub judged : ℕ → ℕ → ℕ → List ℕ → Reading
judged most limit at s =
    pick (leb most (going_on s)) Bad
    (pick (leb (length s) (going_on s)) Cut
    (pick (leb limit (head_value s)) Bad
    (pick (ends_idle s) Bad (Number (head_value s) (at + (going_on s + 1))))))

-- what some bytes say at a place: a number and the place after it, or that there is none
unfoldable pub number_at : List ℕ → ℕ → Reading
number_at s at = judged 5 (2 ^ 32) at (drop at s)

-- the kit's number for it: 1 where the bytes end too soon, 2 for a bad spelling, 0 where nothing is wrong
abbrev pub fault_number : Reading → ℕ
fault_number (Ok found) = 0
fault_number (Err Fault.Cut) = 1
fault_number (Err Fault.Bad) = 2

-- the same answer for bytes that stand so many places further on
abbrev pub moved : ℕ → Reading → Reading
moved far (Ok found) = Number found.value (far + found.next)
moved far (Err fault) = Err fault

-- ---- why there is a number or none; s are the bytes from the place on

-- the fifth byte goes on, so there are more than five groups
abbrev pub TooLong : List ℕ → Type 0
TooLong s = 5 ≤ going_on s

-- the bytes end too soon: fewer than five, and all go on
pub record EndsTooSoon (s : List ℕ) : Type 0 where
  pub few : going_on s < 5
  pub all : length s ≤ going_on s

-- there is a last group, the fifth at most
pub record Ends (s : List ℕ) : Type 0 where
  pub few : going_on s < 5
  pub there : going_on s < length s

-- the groups make 2^32 or more
pub record TooLarge (s : List ℕ) : Type 0 where
  pub ends : Ends s
  pub large : 2 ^ 32 ≤ head_value s

-- the last group is 0 and not the only one
pub record NotShortest (s : List ℕ) : Type 0 where
  pub ends : Ends s
  pub idle : last_group s ≡ 0
  pub longer : 0 < going_on s

-- more than five groups, 2^32 or more, or not the shortest form
abbrev pub Misspelled : List ℕ → Type 0
Misspelled s = TooLong s ⊎ TooLarge s ⊎ NotShortest s

-- none of these: the groups make the number v, and `next` is the place after them, where they stand from `at` on
pub record Whole (at : ℕ) (s : List ℕ) (v next : ℕ) : Type 0 where
  pub ends : Ends s
  pub is : v ≡ head_value s
  pub small : v < 2 ^ 32
  pub shortest : last_group s ≡ 0 → 0 < going_on s → ⊥
  pub counted : next ≡ at + (going_on s + 1)

-- ---- how a number is spelled

-- a number's groups, at most so many after the first
abbrev pub spelling_in : ℕ → ℕ → List ℕ
spelling_in zero n = n ∷ []
spelling_in (suc more) n = pick (ltb n 128) (n ∷ []) ((128 + n % 128) ∷ spelling_in more (n / 128))

-- a number's one spelling
unfoldable pub spelling : ℕ → List ℕ
spelling n = spelling_in 4 n

-- ---- what writing leaves of a lent slice

-- the bytes with some others in their place from `at` on
abbrev pub over : List ℕ → ℕ → List ℕ → List ℕ
over s at vs = take at s ++ vs ++ drop (at + length vs) s

-- whether a number's spelling has room from `at` on
abbrev pub has_room : List ℕ → ℕ → ℕ → Bool
has_room s at n = leb (at + length (spelling n)) (length s)

-- s' is what is left of s after n is written at a place, and r is the answer: with no room for it nothing is written
pub record Written (s s' : List ℕ) (at n : ℕ) (r : Option ℕ) : Type 0 where
  pub answer : r ≡ pick (has_room s at n) (Some (at + length (spelling n))) None
  pub bytes : s' ≡ pick (has_room s at n) (over s at (spelling n)) s
