-- What is written reads back, and what is read is written again as it was; every answer is one of the kit numbers. Assumes nothing.
use Rattle.std.specs.Prelude.{Ok, Err, ◌≡◌, refl, List, [], ◌∷◌, ℕ, ◌+◌, ◌≤◌, leb, length, take, drop}
use Rattle.std.proofs.Common.{sym, ◌∙◌, ⊎_elim, arith, leb-true, le-leb}
use Rattle.std.proofs.Math.Seq.{take-append_seam}
use Rattle.terms.specs.ListLaws.{split, no_way}
use Rattle.terms.specs.Kit.{Kit, kit_numbers}
use Rattle.terms.specs.Numbers.{kit_number_of, KitAnswer, Accepted}
use Rattle.terms.specs.declared.KitRefusal.{KitRefusal}
use Rattle.number.specs.Number.{over, Bytes}
use Rattle.grammar.specs.Parser.{kit_answer}
use Rattle.grammar.specs.ParserLaws.{accepted_good, accepted_numbers, answer_accepted, good_accepted}
use Rattle.grammar.specs.Automaton.{Said, feed_of, fresh}
use Rattle.grammar.specs.Judging.{run, ended, goes, judge_parses, refuses_fault, IsFault}
use Rattle.grammar.specs.declared.Judge.{Judge}
use Rattle.grammar.specs.declared.Progress.{Progress}
use Rattle.kit.specs.Spelling.{spellings, Words, Spells}
use Rattle.kit.specs.Reader.{Ending, Whole, Part, Wrong, numbers_in, instead, closed, check_of, kit_of}
use Rattle.kit.specs.Cursor.{spells_numbers, spells_accepted, accepted_spells}
use Rattle.kit.specs.Writer.{Outcome, outcome_of, filled_in}

-- ---- every answer is one of 0 to 5

abbrev Small : KitAnswer → Type 0
Small a = kit_number_of a ≤ 5

fault_small : (a : KitRefusal) → IsFault a → Small (Err a)
fault_small a f = ⊎_elim (λ z. rw z (omega arith)) (λ g. ⊎_elim (λ z. rw z (omega arith)) (λ z. rw z (omega arith)) g) f

ended_small : (ns : List ℕ) → Small (ended ns)
ended_small [] = omega arith
ended_small (n ∷ ns) = omega arith

said_small : (said : Said) (ns : List ℕ) (later : KitAnswer) → ((a : KitRefusal) → said ≡ Err a → IsFault a) → Small later → Small (goes said ns later)
said_small (Ok Progress.More) ns later f h = h
said_small (Ok Progress.Done) ns later f h = ended_small ns
said_small (Err a) ns later f h = fault_small a (f a refl)

run_small : (ns : List ℕ) (j : Judge) → Small (run ns j)
run_small [] j = omega arith
run_small (n ∷ ns) j = said_small (feed_of j n).said ns (run ns (feed_of j n).judge) (refuses_fault j n) (run_small ns (feed_of j n).judge)

instead_small : (short : KitRefusal) (a : KitAnswer) → Small (Err short) → Small a → Small (instead KitRefusal.Excess short a)
instead_small short (Ok t) c h = omega arith
instead_small short (Err KitRefusal.Cut) c h = c
instead_small short (Err KitRefusal.Misspelled) c h = h
instead_small short (Err KitRefusal.WrongSettings) c h = h
instead_small short (Err KitRefusal.WrongEvent) c h = h
instead_small short (Err KitRefusal.Excess) c h = h
instead_small short (Err KitRefusal.NoRoom) c h = h
instead_small short (Err KitRefusal.TooLong) c h = h

closed_small : (e : Ending) (a : KitAnswer) → Small a → Small (closed e a)
closed_small Whole a h = h
closed_small Part a h = instead_small KitRefusal.Cut a (omega arith) h
closed_small Wrong a h = instead_small KitRefusal.Misspelled a (omega arith) h

pub answer_small : (ns : List ℕ) → kit_number_of (kit_answer ns) ≤ 5
answer_small ns = rw (← judge_parses ns) (run_small ns fresh)

pub check_small : (bytes : List ℕ) → kit_number_of (check_of bytes) ≤ 5
unfolding check_of
check_small bytes = closed_small (numbers_in bytes).ending (kit_answer (numbers_in bytes).list) (answer_small (numbers_in bytes).list)

-- ---- outcomes

-- all is well only if the answer is, and there is room
pub outcome_accepted : (a : KitAnswer) (need room count : ℕ) → outcome_of a need room ≡ Ok count
    → (a ≡ Accepted) × (need ≤ room) × (need ≡ count)
outcome_accepted (Ok t) need room count e =
    split (leb need room) (λ u. let z : ◌≡◌ {A = Outcome} (Ok need) (Ok count) = rw u at e in (refl, leb-true need room u, cc z))
    (λ u. let z : ◌≡◌ {A = Outcome} (Err KitRefusal.NoRoom) (Ok count) = rw u at e in no_way (cc))
outcome_accepted (Err refusal) need room count e = no_way (cc)

pub outcome_all : (need room : ℕ) → need ≤ room → outcome_of Accepted need room ≡ Ok need
outcome_all need room h = rw (le-leb need room h)

-- what was filled in is found at the front
pub take_over : (out vs : List ℕ) → take (length vs) (over out 0 vs) ≡ vs
take_over out vs = take-append_seam vs (drop (0 + length vs) out)

-- ---- numbers that are a kit, spelled

pub numbers_spell : (ns : List ℕ) → Words ns → kit_answer ns ≡ Accepted → (kit : Kit) × (ns ≡ kit_numbers kit) × Spells (spellings ns) kit
numbers_spell ns w e =
    let k = answer_accepted ns e in
    let is = accepted_numbers ns k.0 k.1 in
    (k.0, is, record { good = accepted_good ns k.0 k.1; words = rw (← is) w; same = rw (← is) })

pub spelled_read : (ns : List ℕ) → Words ns → kit_answer ns ≡ Accepted
    → (check_of (spellings ns) ≡ Accepted) × ((numbers_in (spellings ns)).list ≡ ns)
spelled_read ns w e =
    let k = numbers_spell ns w e in
    (spells_accepted (spellings ns) k.0 k.2, rw (spells_numbers (spellings ns) k.0 k.2) (sym k.1))

-- bytes that are accepted, read and spelled again
pub read_spelled : (bytes : List ℕ) → Bytes bytes → check_of bytes ≡ Accepted
    → (kit_answer (numbers_in bytes).list ≡ Accepted) × (spellings (numbers_in bytes).list ≡ bytes)
unfolding kit_answer
read_spelled bytes are e =
    let s = accepted_spells bytes are e in
    let is : (numbers_in bytes).list ≡ kit_numbers (kit_of bytes) = rw (spells_numbers bytes (kit_of bytes) s) in
    (rw (is, good_accepted (kit_of bytes) s.good), rw is (sym s.same))

-- ---- what is filled in

module _ (a : KitAnswer) (vs out out' : List ℕ) (r : Outcome) (is : r ≡ outcome_of a (length vs) (length out)) where
  pub filled_from : (count : ℕ) → r ≡ Ok count → (a ≡ Accepted) × (length vs ≤ length out) × (length vs ≡ count)
  filled_from count ok = outcome_accepted a (length vs) (length out) count (sym is ∙ ok)

  pub filled_so : out' ≡ filled_in (outcome_of a (length vs) (length out)) out vs → a ≡ Accepted → length vs ≤ length out
      → (r ≡ Ok (length vs)) × (take (length vs) out' ≡ vs)
  filled_so bytes ok fits =
      let all : outcome_of a (length vs) (length out) ≡ Ok (length vs) = rw ok (outcome_all (length vs) (length out) fits) in
      let over-is : out' ≡ over out 0 vs = bytes ∙ rw all in
      (is ∙ all, rw over-is (take_over out vs))
