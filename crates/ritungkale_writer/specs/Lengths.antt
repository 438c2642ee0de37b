-- How many numbers and bytes a kit has at the most: a count of them goes into a number of 64 bits beside the kit number. Assumes nothing.
use Rattle.std.specs.Prelude.{Ok, Err, IfOk, ◌≡◌, refl, List, [], ◌∷◌, ℕ, suc, ◌*◌, ◌≤◌, ◌<◌, ◌^◌, length, leb}
use Rattle.std.proofs.Common.{arith, length-append}
use Rattle.terms.specs.ListLaws.{split}
use Rattle.terms.specs.Limits.{replicas}
use Rattle.terms.specs.Kit.{Kit, Entry, GoodEntries, GoodEvent, GoodKit, event_numbers, entry_numbers, entries_numbers, kit_numbers}
use Rattle.terms.specs.Numbers.{content_numbers}
use Rattle.terms.specs.declared.Content.{Content}
use Rattle.terms.specs.declared.Content.TheVariants.{Prepare, Commit, Update, History, Switch}
use Rattle.terms.specs.declared.Event.{Event}
use Rattle.terms.specs.declared.Event.TheVariants.{Submit, Issue, Deliver, Hand, Panic, Idle, Build, File}
use Rattle.terms.specs.Numbers.{KitAnswer, Accepted}
use Rattle.number.specs.Number.{Bytes, spelling}
use Rattle.number.proofs.NumberLaws.{spelling_length_lem}
use Rattle.grammar.specs.Parser.{kit_answer}
use Rattle.grammar.specs.ParserLaws.{answer_accepted, accepted_good, accepted_numbers}
use Rattle.kit.specs.Spelling.{spellings}
use Rattle.kit.specs.Reader.{numbers_in, check_of}
use Rattle.kit.specs.Writer.{Outcome, outcome_of, write_of, read_of}
use Rattle.kit.specs.WriterLaws.{read_spelled}

content_few : (c : Content) → length (content_numbers c) ≡ 3
content_few (Prepare request) = refl
content_few (Commit request value) = refl
content_few (Update request mark) = refl
content_few (History number) = refl
content_few (Switch number) = refl

-- an event 8 with 64 requests has the most
event_few : (size : ℕ) (e : Event) (l : List ℕ) → GoodEvent size e l → length (event_numbers e l) ≤ 68
event_few size (Submit request) l g = omega arith
event_few size (Issue replica name content) l g = omega (arith, content_few content)
event_few size (Deliver sender name value to) l g = omega arith
event_few size (Hand ag up to) l g = omega arith
event_few size (Panic to) l g = omega arith
event_few size Idle l g = omega arith
event_few size Build l g = omega arith
event_few size (File j k) l g = omega (arith, g.2)

entries_few : (size : ℕ) (es : List Entry) → GoodEntries size es → length (entries_numbers es) ≤ 69 * length es
entries_few size [] g = omega arith
entries_few size (e ∷ es) g =
    let here = event_few size e.event e.requests (g 0 e refl).event in
    let rest = entries_few size es (λ i f h. g (suc i) f h) in
    let both = length-append (entry_numbers e) (entries_numbers es) in
    omega (arith, here, rest, both)

kit_few : (k : Kit) → GoodKit k → length (kit_numbers k) ≤ 282635
unfolding kit_numbers
kit_few k g =
    let all = entries_few (replicas k.f) k.events g.events_good in
    let both = length-append k.table (length k.events ∷ entries_numbers k.events) in
    omega (arith, all, both, g.event_count, g.table_length, g.f_high)

spellings_few : (ns : List ℕ) → length (spellings ns) ≤ 5 * length ns
spellings_few [] = omega arith
spellings_few (n ∷ ns) =
    omega (arith, (spelling_length_lem n).1, spellings_few ns, length-append (spelling n) (spellings ns))

numbers_few : (ns : List ℕ) → kit_answer ns ≡ Accepted → length ns ≤ 282635
numbers_few ns e =
    let k = answer_accepted ns e in
    rw (accepted_numbers ns k.0 k.1) (kit_few k.0 (accepted_good ns k.0 k.1))

-- what is filled in is a kit, so it is few
abbrev pub Few : Outcome → Type 0
Few outcome = IfOk outcome (λ count. count < 2 ^ 32)

outcome_few : (a : KitAnswer) (need room : ℕ) → (a ≡ Accepted → need < 2 ^ 32) → Few (outcome_of a need room)
outcome_few (Ok t) need room few =
    split (leb need room) (λ u. rw u (few refl)) (λ u. rw u (tt))
outcome_few (Err refusal) need room few = tt

pub write_few : (numbers out : List ℕ) → Few (write_of numbers out)
unfolding write_of
write_few numbers out =
    outcome_few (kit_answer numbers) (length (spellings numbers)) (length out)
    (λ e. omega (arith, spellings_few numbers, numbers_few numbers e))

pub read_few : (bytes out : List ℕ) → Bytes bytes → Few (read_of bytes out)
unfolding read_of
read_few bytes out are =
    outcome_few (check_of bytes) (length (numbers_in bytes).list) (length out)
    (λ e. omega (arith, numbers_few (numbers_in bytes).list (read_spelled bytes are e).0))
