-- Text in a lent buffer, and numbers as text. Laws: TextLaws. Assumes nothing.
use Rattle.std.specs.Prelude.{◌≡◌, List, [], ◌∷◌, ◌++◌, ℕ, zero, suc, ◌+◌, ◌/◌, ◌%◌, length, set, ltb}
use Rattle.terms.specs.Lists.{pick}

-- the place after a text that was put, and what the buffer then holds
pub record Put : Type 0 where
  pub next : ℕ
  pub bytes : List ℕ

abbrev pub put : ℕ → List ℕ → Put
put next bytes = record { next = next; bytes = bytes }

-- a byte at a place, where the buffer has one
abbrev pub put_byte : List ℕ → ℕ → ℕ → Put
put_byte s at byte = pick (ltb at (length s)) (put (at + 1) (set s at byte)) (put at s)

-- a text from a place on, byte by byte, as far as the buffer goes
unfoldable pub laid : List ℕ → ℕ → List ℕ → Put
laid s at [] = put at s
laid s at (byte ∷ text) = laid (put_byte s at byte).bytes (put_byte s at byte).next text

-- r is the place after the text t that was put at a place into s, which is then x
pub record Lays (s : List ℕ) (at : ℕ) (t : List ℕ) (r : ℕ) (x : List ℕ) : Type 0 where
  pub is : put r x ≡ laid s at t

-- a number's last digits, so many at the most, the highest first, with no zero in front
abbrev pub decimal_in : ℕ → ℕ → List ℕ
decimal_in zero n = []
decimal_in (suc most) n = pick (ltb n 10) ((48 + n % 10) ∷ []) (decimal_in most (n / 10) ++ ((48 + n % 10) ∷ []))

-- a number in decimal: 20 digits are enough below 2^64
unfoldable pub decimal : ℕ → List ℕ
decimal n = decimal_in 20 n
