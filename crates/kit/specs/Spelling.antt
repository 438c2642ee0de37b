-- The bytes of a kit: the spellings of its numbers, one behind the other. Laws: SpellingLaws. Assumes nothing.
use Rattle.std.specs.Prelude.{◌≡◌, List, [], ◌∷◌, ◌++◌, ℕ, ◌<◌, ◌^◌, Some}
use Rattle.terms.specs.Lists.{nth}
use Rattle.terms.specs.Kit.{Kit, GoodKit, kit_numbers}
use Rattle.number.specs.Number.{spelling}

abbrev pub spellings : List ℕ → List ℕ
spellings [] = []
spellings (n ∷ ns) = spelling n ++ spellings ns

-- each number has a spelling: it is below 2^32
abbrev pub Words : List ℕ → Type 0
Words ns = (i n : ℕ) → nth ns i ≡ Some n → n < 2 ^ 32

-- the bytes are the spelling of a good kit
pub record Spells (bytes : List ℕ) (kit : Kit) : Type 0 where
  pub good : GoodKit kit
  pub words : Words (kit_numbers kit)
  pub same : bytes ≡ spellings (kit_numbers kit)
