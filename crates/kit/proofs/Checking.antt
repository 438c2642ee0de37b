-- A turn of the checking loop, on plain values: the judge j has heard the numbers before the place `at`, and what it will say of those from
-- there on is what is said of the whole. Assumes nothing.
use Rattle.std.proofs.Common.{Ok, Err, ◌≡◌, refl, sym, ap, ◌∙◌, List, ◌∷◌, ⊎_elim, inr, ℕ, zero, suc, ◌+◌, ◌-◌, ◌<◌, ◌≤◌, arith, lt-ltb, le-ltb, le-leb, ltb, length}
use Rattle.std.proofs.Math.Decide.{dec_lt}
use Rattle.std.proofs.Math.Logic.{by_cases}
use Rattle.std.proofs.lemmas.Bool.{lt-leb}
use Rattle.terms.specs.Lists.{pick}
use Rattle.terms.specs.Numbers.{KitAnswer, Accepted}
use Rattle.terms.specs.declared.KitRefusal.{KitRefusal}
use Rattle.number.specs.Number.{Reading, Number, number_at}
use Rattle.number.proofs.NumberLaws.{moves_on_lem, past_end}
use Rattle.terms.specs.ListLaws.{no_way}
use Rattle.number.specs.declared.Found.{Found}
use Rattle.number.specs.declared.Fault.{Fault}
use Rattle.grammar.specs.Automaton.{feed_of, fresh}
use Rattle.grammar.specs.Judging.{run, ended, judge_parses, refuses_fault, IsFault}
use Rattle.grammar.specs.declared.Judge.{Judge}
use Rattle.grammar.specs.declared.Progress.{Progress}
use Rattle.kit.specs.Reader.{Numbers, Ending, Whole, Part, Wrong, gathered, numbers_from, numbers_in, closed, read_from, read_at, check_of}

-- what the judge says of numbers and of what stands behind them
abbrev said : Judge → Numbers → KitAnswer
said j r = closed r.ending (run r.list j)

pub record Checking (s : List ℕ) (j : Judge) (at : ℕ) : Type 0 where
  pub most : ℕ
  pub enough : length s ≤ at + most
  pub same : check_of s ≡ said j (numbers_from most s at)

pub checking_first : (s : List ℕ) → Checking s fresh 0
unfolding check_of numbers_in
checking_first s =
    record {
      most = length s;
      enough = omega arith;
      same = ap (closed (numbers_from (length s) s 0).ending) (sym (judge_parses (numbers_from (length s) s 0).list));
    }

-- a fault stands, whatever comes behind it
closed_fault : (e : Ending) (a : KitRefusal) → IsFault a → closed e (Err a) ≡ Err a
closed_fault Whole a f = refl
closed_fault Part a f = ⊎_elim (λ z. rw z) (λ g. ⊎_elim (λ z. rw z) (λ z. rw z) g) f
closed_fault Wrong a f = ⊎_elim (λ z. rw z) (λ g. ⊎_elim (λ z. rw z) (λ z. rw z) g) f

-- behind a whole kit
ended_closed : (found : Reading) (later : ℕ → Numbers) → closed (gathered later found).ending (ended (gathered later found).list) ≡ Err KitRefusal.Excess
ended_closed (Ok found) later = closed_fault (later found.next).ending KitRefusal.Excess (inr (inr refl))
ended_closed (Err Fault.Cut) later = refl
ended_closed (Err Fault.Bad) later = refl

ended_from : (m : ℕ) (s : List ℕ) (at : ℕ) → length s ≤ at + m
    → closed (numbers_from m s at).ending (ended (numbers_from m s at).list) ≡ pick (ltb at (length s)) (Err KitRefusal.Excess) Accepted
ended_from zero s at h = rw (le-ltb at (length s) (omega arith))
ended_from (suc m) s at h =
    by_cases (dec_lt at (length s))
    (λ lt. rw (lt-ltb at (length s) lt, lt-leb (length s) at lt) (ended_closed (number_at s at) (numbers_from m s)))
    (λ ge. rw (le-ltb at (length s) (omega arith), le-leb (length s) at (omega arith)))

-- with no byte left there is no number
from_found : (m : ℕ) (s : List ℕ) (at : ℕ) (j : Judge) → length s ≤ at + m
    → said j (numbers_from m s at) ≡ said j (gathered (numbers_from (m - 1) s) (number_at s at))
from_found zero s at j h = rw (past_end s at (omega arith))
from_found (suc m) s at j h =
    let same : suc m - 1 ≡ m = omega arith in
    by_cases (dec_lt at (length s))
    (λ lt. rw (lt-leb (length s) at lt, same))
    (λ ge. rw (le-leb (length s) at (omega arith), past_end s at (omega arith)))

module _ {s : List ℕ} {j : Judge} {at : ℕ} (c : Checking s j at) where
  step : check_of s ≡ said j (gathered (numbers_from (c.most - 1) s) (number_at s at))
  step = c.same ∙ from_found c.most s at j c.enough

  unread_from : (reading : Reading) → number_at s at ≡ reading → (a : KitRefusal) → read_from reading ≡ Err a → Err a ≡ check_of s
  unread_from (Ok found) e a h = no_way (cc)
  unread_from (Err Fault.Cut) e a h = let z : KitRefusal.Cut ≡ a = cc in rw (← z) (sym (step ∙ rw e))
  unread_from (Err Fault.Bad) e a h = let z : KitRefusal.Misspelled ≡ a = cc in rw (← z) (sym (step ∙ rw e))

  pub unread : (a : KitRefusal) → Err a ≡ read_at s at → Err a ≡ check_of s
  unread a h = unread_from (number_at s at) refl a (sym h)

  number_from : (reading : Reading) (found : Found) → read_from reading ≡ Ok found → reading ≡ Ok found
  number_from (Ok f) found h = let z : f ≡ found = cc in rw z
  number_from (Err fault) found h = no_way (cc)

  module _ {found : Found} (read : Ok found ≡ read_at s at) where
    abbrev v : ℕ
    v = found.value

    abbrev next : ℕ
    next = found.next

    e : number_at s at ≡ Number v next
    e = number_from (number_at s at) found (sym read)

    heard : check_of s ≡ said j (record { list = v ∷ (numbers_from (c.most - 1) s next).list; ending = (numbers_from (c.most - 1) s next).ending })
    heard = step ∙ rw e

    enough_left : length s ≤ next + (c.most - 1)
    enough_left = omega (arith, moves_on_lem s at v next e, c.enough)

    pub refused : (a : KitRefusal) → (feed_of j v).said ≡ Err a → Err a ≡ check_of s
    refused a h = sym (heard ∙ rw h (closed_fault (numbers_from (c.most - 1) s next).ending a (refuses_fault j v a h)))

    pub done : (feed_of j v).said ≡ Ok Progress.Done → pick (ltb next (length s)) (Err KitRefusal.Excess) Accepted ≡ check_of s
    done h = sym (heard ∙ rw h (ended_from (c.most - 1) s next enough_left))

    pub goes_on : (feed_of j v).said ≡ Ok Progress.More → Checking s (feed_of j v).judge next
    goes_on h = record { most = c.most - 1; enough = enough_left; same = heard ∙ rw h }

    pub less : length s - next < length s - at
    less = omega (arith, moves_on_lem s at v next e)
