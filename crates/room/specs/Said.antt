-- Clocks and answers of a play, kept in a log, are those that the rules say. Assumes nothing.
use Rattle.std.specs.Prelude.{◌≡◌, ℕ, suc, ◌<◌, get_or, Option, None, Some}
use Rattle.terms.specs.Kit.{Kit}
use Rattle.terms.specs.Numbers.{Answer, answer_number}
use Rattle.rules.specs.Play.{after, answer}
use Rattle.room.specs.declared.Log.{Log}

-- the paper's number of an answer; past the last event there is none
abbrev pub number_said : Option Answer → ℕ
number_said None = 0
number_said (Some a) = answer_number a

-- clocks and answers of the first n events are those of the rules
pub record Says (kit : Kit) (n : ℕ) (log : Log) : Type 0 where
  pub clock : (k : ℕ) → k < n → get_or log.clocks k 0 ≡ (after kit (suc k)).clock
  pub answer : (k : ℕ) → k < n → get_or log.answers k 0 ≡ number_said (answer kit k)
