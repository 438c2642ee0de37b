-- The served application's mark: a 32-bit number from 0. Assumes nothing.
use Rattle.std.specs.Prelude.{◌≡◌, ℕ, ◌+◌, ◌*◌, ◌%◌, ◌^◌, List, [], ◌∷◌, refl}

-- executing a request: twice the old mark plus the request, modulo 2^32
unfoldable pub next_mark : ℕ → ℕ → ℕ
next_mark mark request = (2 * mark + request) % 2 ^ 32

-- the mark of a list that is executed in order, from a mark on
abbrev pub mark_from : ℕ → List ℕ → ℕ
mark_from mark [] = mark
mark_from mark (request ∷ later) = mark_from (next_mark mark request) later

abbrev pub mark_of : List ℕ → ℕ
mark_of requests = mark_from 0 requests

-- P5
pub seven_five : mark_of (7 ∷ 5 ∷ []) ≡ 19
unfolding next_mark
seven_five = refl

-- P6
pub wraps : mark_of (2147483648 ∷ 1 ∷ []) ≡ 1
unfolding next_mark
wraps = refl
