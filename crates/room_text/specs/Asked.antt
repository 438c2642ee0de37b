-- A word that asks for a number of events: decimal digits, at least one. Laws: AskedLaws. Assumes nothing.
use Rattle.std.specs.Prelude.{Bool, ◌&&◌, List, [], ◌∷◌, ℕ, ◌+◌, ◌-◌, ◌*◌, length, ltb}
use Rattle.terms.specs.Lists.{within, all_of}

abbrev pub is_digit : ℕ → Bool
is_digit byte = within 48 57 byte

unfoldable pub is_number : List ℕ → Bool
is_number word = all_of word is_digit && ltb 0 (length word)

-- a number with one more digit
abbrev pub with_digit : ℕ → ℕ → ℕ
with_digit n byte = 10 * n + (byte - 48)

-- a number with all these digits behind it
abbrev pub with_digits : ℕ → List ℕ → ℕ
with_digits n [] = n
with_digits n (byte ∷ bytes) = with_digits (with_digit n byte) bytes

unfoldable pub number_asked : List ℕ → ℕ
number_asked word = with_digits 0 word

-- a number greater than this asks for more events than any kit has, whichever it is
abbrev pub asked_max : ℕ
asked_max = 65536
