-- Bytes as hexadecimal digits, two for each. Their laws are beside them. Assumes nothing.
use Rattle.std.specs.Prelude.{◌≡◌, Option, Some, None, List, [], ◌∷◌, ◌++◌, ℕ, ◌+◌, ◌*◌, ◌-◌, ◌<◌, length, get_or, drop, ltb, IfSome}
use Rattle.std.proofs.Common.{add-one, drop-cons, arith, lt-ltb, le-ltb}
use Rattle.std.proofs.Math.Decide.{dec_lt}
use Rattle.std.proofs.Math.Logic.{by_cases}
use Rattle.terms.specs.Lists.{pick}

-- 0 to 9 and A to F
unfoldable pub digit_of : ℕ → Option ℕ
digit_of c = pick (ltb c 48) None (pick (ltb c 58) (Some (c - 48)) (pick (ltb c 65) None (pick (ltb c 71) (Some (c - 55)) None)))

-- after a digit, where another waited before: one alone waits
unfoldable pub waiting : Option ℕ → Option ℕ → Option ℕ
waiting high None = high
waiting None (Some d) = Some d
waiting (Some high) (Some d) = None

-- the byte of two digits, where there are two
unfoldable pub pair_bytes : Option ℕ → Option ℕ → List ℕ
pair_bytes high None = []
pair_bytes None (Some d) = []
pair_bytes (Some high) (Some d) = (16 * high + d) ∷ []

-- the bytes that digits spell, where `high` waits
unfoldable pub hex_from : Option ℕ → List ℕ → List ℕ
hex_from high [] = []
hex_from high (c ∷ cs) = pair_bytes high (digit_of c) ++ hex_from (waiting high (digit_of c)) cs

pub hex_next : (l : List ℕ) (i : ℕ) (high : Option ℕ) → i < length l
    → hex_from high (drop i l) ≡ pair_bytes high (digit_of (get_or l i 0)) ++ hex_from (waiting high (digit_of (get_or l i 0))) (drop (i + 1) l)
unfolding hex_from
hex_next l i high h = rw (drop-cons l i 0 h, add-one i)

pub digit_below : (c : ℕ) → IfSome (digit_of c) (λ d. d < 16)
unfolding digit_of
digit_below c =
    by_cases (dec_lt c 48)
    (λ a. simp (lt-ltb c 48 a) tt)
    (λ a.
    by_cases (dec_lt c 58)
    (λ b. simp (le-ltb c 48 (omega arith), lt-ltb c 58 b) (omega arith))
    (λ b.
    by_cases (dec_lt c 65)
    (λ d. simp (le-ltb c 48 (omega arith), le-ltb c 58 (omega arith), lt-ltb c 65 d) tt)
    (λ d.
    by_cases (dec_lt c 71)
    (λ e. simp (le-ltb c 48 (omega arith), le-ltb c 58 (omega arith), le-ltb c 65 (omega arith), lt-ltb c 71 e) (omega arith))
    (λ e. simp (le-ltb c 48 (omega arith), le-ltb c 58 (omega arith), le-ltb c 65 (omega arith), le-ltb c 71 (omega arith)) tt))))
