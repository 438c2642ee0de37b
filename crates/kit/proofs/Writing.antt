-- Turns of the writer's loops, on plain values. In order, each with what holds at the loop's head: judging the numbers (`Hearing`), measuring their
-- spellings (`Measuring`), writing them (`Putting`), counting the numbers of some bytes (`Counting`). Each says that what is still to come gives,
-- from here, what the whole gives from the start. Assumes nothing.
use Rattle.std.proofs.Common.{Option, Some, Ok, Err, ◌≡◌, refl, sym, ap, ◌∙◌, List, ◌∷◌, ◌++◌, ℕ, zero, suc, ◌+◌, ◌-◌, ◌<◌, ◌≤◌, add-one, zero-add, arith, le-leb, leb, length, take, drop, get_or, length-append, length-take, drop-cons}
use Rattle.std.proofs.Math.Decide.{dec_lt}
use Rattle.std.proofs.Math.Logic.{by_cases}
use Rattle.std.proofs.lemmas.Bool.{lt-leb}
use Rattle.terms.specs.Numbers.{Accepted}
use Rattle.number.specs.Number.{Reading, Number, number_at, spelling, over, Written}
use Rattle.number.proofs.NumberLaws.{moves_on_lem, past_end, over_over, length_over, written_next}
use Rattle.number.specs.declared.Fault.TheVariants as Fault
use Rattle.grammar.specs.Automaton.{fresh}
use Rattle.grammar.specs.Parser.{kit_answer}
use Rattle.grammar.specs.Judging.{run, judge_parses}
use Rattle.grammar.specs.declared.Judge.{Judge}
use Rattle.kit.specs.Spelling.{spellings}
use Rattle.kit.specs.Reader.{Numbers, gathered, numbers_from, numbers_in, check_of, taken_at, stretch_at, Stretched}
use Rattle.kit.specs.Writer.{read_of, KitRead}

-- ---- judging

pub record Hearing (ns : List ℕ) (j : Judge) (i : ℕ) : Type 0 where
  pub within : i ≤ length ns
  pub same : kit_answer ns ≡ run (drop i ns) j

pub hearing_first : (ns : List ℕ) → Hearing ns fresh 0
hearing_first ns = record { within = omega arith; same = sym (judge_parses ns) }

-- ---- measuring

pub record Measuring (ns : List ℕ) (room left i : ℕ) : Type 0 where
  pub within : i ≤ length ns
  pub same : leb (length (spellings ns)) room ≡ leb (length (spellings (drop i ns))) left

-- ---- writing

pub record Putting (ns out₀ out : List ℕ) (at i : ℕ) : Type 0 where
  pub within : i ≤ length ns
  pub long : length out ≡ length out₀
  pub ends : at + length (spellings (drop i ns)) ≡ length (spellings ns)
  pub same : over out at (spellings (drop i ns)) ≡ over out₀ 0 (spellings ns)

module _ {ns out₀ out : List ℕ} {at i : ℕ} (p : Putting ns out₀ out at i) where
  module _ (some : i < length ns) (fits : length (spellings ns) ≤ length out₀) where
    cons : spellings (drop i ns) ≡ spelling (get_or ns i 0) ++ spellings (drop (i + 1) ns)
    cons = rw (drop-cons ns i 0 some, add-one i)

    room : at + length (spelling (get_or ns i 0)) ≤ length out
    room =
        let e : at + length (spelling (get_or ns i 0) ++ spellings (drop (i + 1) ns)) ≡ length (spellings ns) = rw cons at p.ends in
        omega (arith, length-append (spelling (get_or ns i 0)) (spellings (drop (i + 1) ns)), p.long)

    module _ {out' : List ℕ} {r : Option ℕ} (w : Written out out' at (get_or ns i 0) r) where
      pub putting_next : (next : ℕ) → r ≡ Some next → Putting ns out₀ out' next (i + 1)
      putting_next next e =
          let n = spelling (get_or ns i 0) in
          let rest = spellings (drop (i + 1) ns) in
          let at' : at + length n ≡ next = cc (e, (written_next w room).0) in
          let ends : at + length (n ++ rest) ≡ length (spellings ns) = rw cons at p.ends in
          rw (← at', (written_next w room).1)
          (record {
            within = omega arith;
            long = length_over out at n room ∙ p.long;
            ends = omega (arith, length-append n rest);
            same = over_over out at n room rest ∙ (rw cons at p.same);
          })

-- ---- counting

pub record Counting (s : List ℕ) (count at : ℕ) : Type 0 where
  pub most : ℕ
  pub enough : length s ≤ at + most
  pub few : count ≤ at
  pub same : length (numbers_in s).list ≡ count + length (numbers_from most s at).list

pub counting_first : (s : List ℕ) → Counting s 0 0
unfolding numbers_in
counting_first s = record { most = length s; enough = omega arith; few = omega arith; same = omega arith }

list_found : (m : ℕ) (s : List ℕ) (at : ℕ) → length s ≤ at + m
    → (numbers_from m s at).list ≡ (gathered (numbers_from (m - 1) s) (number_at s at)).list
list_found zero s at h = rw (past_end s at (omega arith))
list_found (suc m) s at h =
    let same : suc m - 1 ≡ m = omega arith in
    by_cases (dec_lt at (length s))
    (λ lt. rw (lt-leb (length s) at lt, same))
    (λ ge. rw (le-leb (length s) at (omega arith), past_end s at (omega arith)))

module _ {s : List ℕ} {count at : ℕ} (c : Counting s count at) where
  from_here : length (numbers_in s).list ≡ count + length (gathered (numbers_from (c.most - 1) s) (number_at s at)).list
  from_here = c.same ∙ ap (λ (l : List ℕ). count + length l) (list_found c.most s at c.enough)

  module _ {v next : ℕ} (e : number_at s at ≡ Number v next) where
    pub counting_less : (count + 1 ≤ length s) × (length s - next < length s - at)
    counting_less = let m = moves_on_lem s at v next e in (omega (arith, c.few), omega arith)

    pub counting_next : Counting s (count + 1) next
    counting_next =
        let m = moves_on_lem s at v next e in
        record {
          most = c.most - 1;
          enough = omega (arith, c.enough);
          few = omega (arith, c.few);
          same = (rw e at from_here) ∙ omega arith;
        }

-- so many numbers, read one after another, are those that can be read
stretch_found : (s : List ℕ) (at : ℕ) (later : ℕ → Numbers) (f : Reading) → number_at s at ≡ f
    → ((next : ℕ) → (stretch_at (length (later next).list) s next).numbers ≡ (later next).list)
    → (stretch_at (length (gathered later f).list) s at).numbers ≡ (gathered later f).list
unfolding taken_at
stretch_found s at later (Ok found) e same = rw e (ap (λ (l : List ℕ). found.value ∷ l) (same found.next))
stretch_found s at later (Err Fault.Cut) e same = refl
stretch_found s at later (Err Fault.Bad) e same = refl

stretch_from : (m : ℕ) (s : List ℕ) (at : ℕ) → (stretch_at (length (numbers_from m s at).list) s at).numbers ≡ (numbers_from m s at).list
stretch_from zero s at = refl
stretch_from (suc m) s at =
    by_cases (dec_lt at (length s))
    (λ lt. rw (lt-leb (length s) at lt) (stretch_found s at (numbers_from m s) (number_at s at) refl (stretch_from m s)))
    (λ ge. rw (le-leb (length s) at (omega arith)))

pub stretch_numbers : (s : List ℕ) → (stretch_at (length (numbers_in s).list) s 0).numbers ≡ (numbers_in s).list
unfolding numbers_in
stretch_numbers s = stretch_from (length s) s 0

over_front : (out l : List ℕ) → l ++ drop (length l) out ≡ over out 0 l
over_front out l = rw (zero-add (length l))

-- all the numbers at the front of what is lent
pub read_all : (s out front : List ℕ) (count r : ℕ) → Accepted ≡ check_of s → count ≡ length (numbers_in s).list → count ≤ length out
    → Stretched (stretch_at (length (take count out)) s 0) front r → KitRead s out (front ++ drop count out) (Ok count)
unfolding read_of
read_all s out front count r ok is fits st =
    let long : length (take count out) ≡ length (numbers_in s).list = omega (arith, length-take count out) in
    let st₁ : Stretched (stretch_at (length (numbers_in s).list) s 0) front r = rw long at st in
    let same : front ≡ (numbers_in s).list = st₁.filled ∙ stretch_numbers s in
    let all : length (numbers_in s).list ≤ length out = omega arith in
    record {
      answer = rw (← ok, le-leb (length (numbers_in s).list) (length out) all, is);
      numbers = rw (← ok, le-leb (length (numbers_in s).list) (length out) all, is, same) (over_front out (numbers_in s).list);
    }
