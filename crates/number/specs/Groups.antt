-- The same number, read one group after the other as the reader does: `number_in`. That `number_at` says the same: `GroupLaws`.
-- Assumes nothing.
use Rattle.std.specs.Prelude.{Ok, Err, ℕ, zero, suc, ◌+◌, ◌*◌, ◌%◌, List, [], ◌∷◌, ltb, eqb}
use Rattle.terms.specs.Lists.{pick}
use Rattle.number.specs.Number.{Reading, Number, Cut, Bad}

-- low bits, below the weight, under what the later groups say: later groups that make 0 are not the shortest form
abbrev pub under : ℕ → ℕ → Reading → Reading
under weight low (Ok found) = pick (eqb found.value 0) Bad (Number (found.value * weight + low) found.next)
under weight low (Err fault) = Err fault

-- what the bytes s say, which stand from `at` on, where `more` groups may follow the first. The last that may be has the four bits that 2^32
-- leaves it.
abbrev pub number_in : ℕ → ℕ → List ℕ → Reading
number_in more at [] = Cut
number_in zero at (b ∷ s) = pick (ltb b 16) (Number b (at + 1)) Bad
number_in (suc more) at (b ∷ s) = pick (ltb b 128) (Number b (at + 1)) (under 128 (b % 128) (number_in more (at + 1) s))
