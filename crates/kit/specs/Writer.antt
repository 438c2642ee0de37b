-- A kit given as its numbers: what writing its bytes gives back and leaves of the lent buffer, and what reading its numbers back does.
-- Assumes nothing.
use Rattle.std.specs.Prelude.{◌≡◌, Result, Ok, Err, List, ℕ, leb, length}
use Rattle.terms.specs.Lists.{pick}
use Rattle.terms.specs.Numbers.{KitAnswer}
use Rattle.terms.specs.declared.KitRefusal.{KitRefusal}
use Rattle.terms.specs.declared.KitRefusal.TheVariants.{NoRoom}
use Rattle.number.specs.Number.{over}
use Rattle.grammar.specs.Parser.{kit_answer}
use Rattle.kit.specs.Spelling.{spellings}
use Rattle.kit.specs.Reader.{check_of, numbers_in}

-- how many bytes or numbers were filled in, or why none were
abbrev pub Outcome : Type 0
Outcome = Result ℕ KitRefusal

-- the room is judged after everything else
abbrev pub outcome_of : KitAnswer → ℕ → ℕ → Outcome
outcome_of (Ok t) need room = pick (leb need room) (Ok need) (Err NoRoom)
outcome_of (Err refusal) need room = Err refusal

-- what is lent stays as it was, but for what is filled in where all is well
abbrev pub filled_in : Outcome → List ℕ → List ℕ → List ℕ
filled_in (Ok count) out vs = over out 0 vs
filled_in (Err refusal) out vs = out

-- numbers written as bytes
unfoldable pub write_of : List ℕ → List ℕ → Outcome
write_of numbers out = outcome_of (kit_answer numbers) (length (spellings numbers)) (length out)

pub record KitWritten (numbers out out' : List ℕ) (r : Outcome) : Type 0 where
  pub answer : r ≡ write_of numbers out
  pub bytes : out' ≡ filled_in (write_of numbers out) out (spellings numbers)

-- bytes read as numbers
unfoldable pub read_of : List ℕ → List ℕ → Outcome
read_of bytes out = outcome_of (check_of bytes) (length (numbers_in bytes).list) (length out)

pub record KitRead (bytes out out' : List ℕ) (r : Outcome) : Type 0 where
  pub answer : r ≡ read_of bytes out
  pub numbers : out' ≡ filled_in (read_of bytes out) out (numbers_in bytes).list

-- all spellings, written from the first byte on
pub record Put (numbers out out' : List ℕ) (r : ℕ) : Type 0 where
  pub next : r ≡ length (spellings numbers)
  pub bytes : out' ≡ over out 0 (spellings numbers)
