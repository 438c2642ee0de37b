-- What the functions for C and Rust give back in one number, and what they leave of what is lent. Assumes nothing.
use Rattle.std.specs.Prelude.{◌≡◌, Ok, Err, List, ℕ, ◌*◌}
use Rattle.terms.specs.Numbers.{kit_refusal_number}
use Rattle.kit.specs.Spelling.{spellings}
use Rattle.kit.specs.Reader.{numbers_in}
use Rattle.kit.specs.Writer.{Outcome, write_of, read_of, filled_in}

-- 16 times the count, plus the kit number, of which one is 0; kit numbers are below 16, so that each of the two is found again
abbrev pub packed : Outcome → ℕ
packed (Ok count) = 16 * count
packed (Err refusal) = kit_refusal_number refusal

-- numbers written as bytes
pub record PackedWrite (numbers out out' : List ℕ) (r : ℕ) : Type 0 where
  pub answer : r ≡ packed (write_of numbers out)
  pub bytes : out' ≡ filled_in (write_of numbers out) out (spellings numbers)

-- bytes read as numbers
pub record PackedRead (bytes out out' : List ℕ) (r : ℕ) : Type 0 where
  pub answer : r ≡ packed (read_of bytes out)
  pub numbers : out' ≡ filled_in (read_of bytes out) out (numbers_in bytes).list
