-- The printed play, and the cases that are easy to get wrong: each row plays a kit of its own, under one theorem. In order: the kits, the rows, their
-- proof. Assumes nothing.
use Rattle.std.specs.Prelude.{◌≡◌, refl, List, [], ◌∷◌, ◌++◌, ℕ, zero, suc, Option, None, Some, Err}
use Rattle.terms.specs.Limits.{ag, up, sw}
use Rattle.terms.specs.Lists.{nth}
use Rattle.terms.specs.Kit.{Kit, Entry}
use Rattle.terms.specs.Numbers.{answer_number, kind_of}
use Rattle.terms.specs.declared.Content.TheVariants.{Prepare, Update, History, Switch}
use Rattle.terms.specs.declared.Condition.TheVariants.{Running, Halted, Closed}
use Rattle.terms.specs.declared.Event.TheVariants.{Submit, Issue, Deliver, Hand, Panic, Idle, Build, File}
use Rattle.terms.specs.Numbers.{Answer}
use Rattle.terms.specs.Numbers.{Taken}
use Rattle.terms.specs.declared.Refusal.TheVariants.{SubmissionsFull, CounterFull}
use Rattle.grammar.specs.Parser.{Read, parse}
use Rattle.rules.specs.Reading.{settled}
use Rattle.rules.specs.Play.{after, answer}
use Rattle.rules.proofs.Examples.Computing.{computing}
use Rattle.rules.proofs.Examples.PaperTable.{at, kit_of, printed, filing}

abbrev pub said : Option Answer → List ℕ
said None = []
said (Some a) = answer_number a ∷ []

-- the numbers of the first n answers
abbrev pub answers : Kit → ℕ → List ℕ
answers kit zero = []
answers kit (suc n) = answers kit n ++ said (answer kit n)

-- the clocks after each of the first n events
abbrev pub clocks : Kit → ℕ → List ℕ
clocks kit zero = []
clocks kit (suc n) = clocks kit n ++ ((after kit (suc n)).clock ∷ [])

-- ---- the kits

-- the numbers of the printed kit, each of one byte
abbrev pub printed_numbers : List ℕ
printed_numbers =
    0x01 ∷ 0x00 ∷ 0x0a ∷ 0x01 ∷ 0x01 ∷ 0x00 ∷ 0x05
    ∷ 0x00 ∷ 0x01 ∷ 0x07
    ∷ 0x03 ∷ 0x03 ∷ 0x00 ∷ 0x00 ∷ 0x01 ∷ 0x01
    ∷ 0x02 ∷ 0x03 ∷ 0x01 ∷ 0x00 ∷ 0x01 ∷ 0x00
    ∷ 0x14 ∷ 0x03 ∷ 0x00 ∷ 0x01 ∷ 0x01 ∷ 0x02
    ∷ 0x00 ∷ 0x03 ∷ 0x01 ∷ 0x01 ∷ 0x01 ∷ 0x02 ∷ []

-- request 7 is submitted twice, the second time after this gap
abbrev pub twice : ℕ → Kit
twice gap = kit_of 1 (1 ∷ 1 ∷ 0 ∷ []) (at 0 (Submit 7) ∷ at gap (Submit 7) ∷ [])

-- request 7 waits too long before request 5 is submitted; PREPARE and COMMIT of 7 come; the switch leader is to build before a PANIC reaches it,
-- and after
abbrev pub late_room : Kit
late_room =
    kit_of 1 (1 ∷ 1 ∷ 0 ∷ [])
    (at 0 (Submit 7)
    ∷ at 99 (Submit 5)
    ∷ at 0 (Deliver 0 ag 1 1)
    ∷ at 0 (Deliver 1 ag 1 0)
    ∷ at 0 Build
    ∷ at 0 (Panic 1)
    ∷ at 0 (Deliver 0 ag 2 1)
    ∷ at 0 Build
    ∷ [])

-- f = 2: replica 4 is faulty and passive, and issues SWITCH of the built history twice; replica 2 is handed it and gets both, then replica 1's
abbrev pub one_sender : Kit
one_sender =
    kit_of 2 (1 ∷ 1 ∷ 1 ∷ 0 ∷ 2 ∷ [])
    (at 0 (Submit 7)
    ∷ at 0 (Deliver 0 ag 1 1)
    ∷ at 0 (Panic 1)
    ∷ at 0 Build
    ∷ at 0 (Panic 2)
    ∷ at 0 (Hand 2 1 2)
    ∷ at 0 (Issue 4 sw (Switch 0))
    ∷ at 0 (Issue 4 sw (Switch 0))
    ∷ at 0 (Deliver 4 sw 1 2)
    ∷ at 0 (Deliver 4 sw 2 2)
    ∷ at 0 (Deliver 1 sw 1 2)
    ∷ [])

-- a faulty leader's PREPARE comes before its request is submitted, and again after that
abbrev pub too_soon : Kit
too_soon =
    kit_of 1 (3 ∷ 1 ∷ 0 ∷ []) (at 0 (Issue 0 ag (Prepare 7)) ∷ at 0 (Deliver 0 ag 1 1) ∷ at 0 (Submit 7) ∷ at 0 (Deliver 0 ag 1 1) ∷ [])

-- a faulty leader's UPDATE of request 7 has this mark and comes first to replica 2; replica 1's, which has mark 7, comes after it
abbrev pub other_mark : ℕ → Kit
other_mark mark =
    kit_of 1 (3 ∷ 1 ∷ 0 ∷ [])
    (at 0 (Submit 7)
    ∷ at 0 (Issue 0 ag (Prepare 7))
    ∷ at 0 (Deliver 0 ag 1 1)
    ∷ at 0 (Issue 0 up (Update 7 mark))
    ∷ at 0 (Deliver 0 up 1 2)
    ∷ at 0 (Deliver 1 up 1 2)
    ∷ at 10 Idle
    ∷ [])

-- two things are wrong with most of these events
abbrev pub orders : Kit
orders =
    kit_of 1 (1 ∷ 1 ∷ 0 ∷ [])
    (at 0 (Submit 7)
    ∷ at 0 (Submit 8)
    ∷ at 0 (Deliver 0 ag 2 2)
    ∷ at 0 (Deliver 0 ag 2 1)
    ∷ at 0 (Deliver 0 ag 1 1)
    ∷ at 0 (Hand 1 1 1)
    ∷ at 0 (Panic 1)
    ∷ at 0 (Hand 1 1 1)
    ∷ at 0 (Deliver 0 ag 3 1)
    ∷ at 0 (Deliver 0 ag 2 1)
    ∷ at 0 Build
    ∷ at 0 (Hand 2 2 1)
    ∷ at 0 (Hand 2 2 2)
    ∷ at 0 (Panic 2)
    ∷ at 0 (Deliver 1 sw 1 2)
    ∷ at 0 (Hand 2 1 2)
    ∷ at 0 (Hand 2 2 2)
    ∷ at 0 (Hand 2 3 2)
    ∷ at 0 (Hand 2 2 2)
    ∷ at 0 (Deliver 1 sw 1 2)
    ∷ at 0 (Deliver 1 sw 1 2)
    ∷ [])

-- a faulty leader and a correct replica try to issue; then deliveries to the faulty one
abbrev pub issuing : Kit
issuing =
    kit_of 1 (3 ∷ 1 ∷ 0 ∷ [])
    (at 0 (Issue 1 ag (Prepare 7))
    ∷ at 0 (Issue 0 up (History 0))
    ∷ at 0 (Issue 0 sw (Switch 0))
    ∷ at 0 (Issue 0 sw (Prepare 7))
    ∷ at 0 (Deliver 1 ag 9 0)
    ∷ at 0 (Hand 9 9 0)
    ∷ at 0 (Panic 0)
    ∷ [])

-- this many events of one faulty replica that issues on one counter
abbrev pub issues : ℕ → List Entry
issues zero = []
issues (suc n) = at 0 (Issue 0 ag (Prepare 7)) ∷ issues n

-- this many requests are submitted
abbrev pub submits : ℕ → List Entry
submits zero = []
submits (suc n) = at 0 (Submit (suc n)) ∷ submits n

-- eight histories are filed, then the switch leader builds twice
abbrev pub files : Kit
files =
    kit_of 1 (1 ∷ 1 ∷ 0 ∷ [])
    (at 0 (File 0 0)
    ∷ at 0 (File 0 0)
    ∷ at 0 (File 0 0)
    ∷ at 0 (File 0 0)
    ∷ at 0 (File 0 0)
    ∷ at 0 (File 0 0)
    ∷ at 0 (File 0 0)
    ∷ at 0 (File 0 0)
    ∷ at 0 Build
    ∷ at 0 (Panic 1)
    ∷ at 0 Build
    ∷ at 0 Build
    ∷ [])

-- ---- the rows

pub record EasyToGetWrong : Type 0 where
  -- the printed kit, its clocks, its answers, and what its replicas have in the end
  pub play_kit_lem : parse printed_numbers ≡ Read (printed 2) []
  pub play_clocks : clocks (printed 2) 5 ≡ 0 ∷ 3 ∷ 5 ∷ 25 ∷ 25 ∷ []
  pub play_answers : answers (printed 2) 5 ≡ 0 ∷ 0 ∷ 0 ∷ 0 ∷ 0 ∷ []
  pub play_settled
      : (settled (printed 2) (after (printed 2) 5) 0 ≡ 7 ∷ [])
      × (settled (printed 2) (after (printed 2) 5) 1 ≡ 7 ∷ [])
      × (settled (printed 2) (after (printed 2) 5) 2 ≡ 7 ∷ [])
  pub play_marks
      : (((after (printed 2) 5).replica 0).mark ≡ 7) × (((after (printed 2) 5).replica 1).mark ≡ 7) × (((after (printed 2) 5).replica 2).mark ≡ 7)
  pub play_late : (after (printed 2) 5).late ≡ None
  -- the gap of a refused event counts, for the clock and for lateness
  pub refused_gap : (answers (twice 9) 2 ≡ 0 ∷ 11 ∷ []) × ((after (twice 9) 2).clock ≡ 9) × ((after (twice 9) 2).late ≡ None)
  pub refused_late : (answers (twice 10) 2 ≡ 0 ∷ 11 ∷ []) × ((after (twice 10) 2).clock ≡ 10) × ((after (twice 10) 2).late ≡ Some 10)
  -- the late tick is the submission plus the patience, not the clock
  pub late_tick : (after (twice 99) 2).late ≡ Some 10
  -- nobody halts by it: the leader prepares what comes later, PREPARE and COMMIT are taken, the switch leader cannot build
  pub late_goes_on
      : (answers late_room 8 ≡ 0 ∷ 0 ∷ 0 ∷ 0 ∷ 24 ∷ 0 ∷ 17 ∷ 0 ∷ [])
      × ((after late_room 2).late ≡ Some 10)
      × ((after late_room 2).counter 0 ag ≡ Prepare 7 ∷ Prepare 5 ∷ [])
      × (settled late_room (after late_room 4) 0 ≡ 7 ∷ [])
  -- and the PANIC halts the one that it reaches
  pub panic_halts_one
      : (((after late_room 8).replica 0).condition ≡ Running)
      × (((after late_room 8).replica 1).condition ≡ Halted)
      × (((after late_room 8).replica 2).condition ≡ Running)
  -- the last COMMIT left out of a filed history: 22; all else alike and the COMMIT in it: taken
  pub last_commit : (answers (filing 0) 7 ≡ 0 ∷ 0 ∷ 0 ∷ 0 ∷ 0 ∷ 0 ∷ 22 ∷ []) × (answers (filing 1) 7 ≡ 0 ∷ 0 ∷ 0 ∷ 0 ∷ 0 ∷ 0 ∷ 0 ∷ [])
  -- two SWITCHes of one sender are taken and are one; another sender's makes two
  pub one_sender_lem
      : (answers one_sender 11 ≡ 0 ∷ 0 ∷ 0 ∷ 0 ∷ 0 ∷ 0 ∷ 0 ∷ 0 ∷ 0 ∷ 0 ∷ 0 ∷ [])
      × (((after one_sender 10).replica 2).condition ≡ Halted)
      × (((after one_sender 11).replica 2).condition ≡ Closed)
  -- a refusal leaves the expected value as it was
  pub expected_stays : answers too_soon 4 ≡ 0 ∷ 21 ∷ 0 ∷ 0 ∷ []
  -- a pair is compared with its mark, and an answer is one UPDATE with its mark
  pub mark_compared : (answers (other_mark 9) 7 ≡ 0 ∷ 0 ∷ 0 ∷ 0 ∷ 0 ∷ 21 ∷ 0 ∷ []) × ((after (other_mark 9) 7).late ≡ Some 10)
  pub mark_agrees : (answers (other_mark 7) 7 ≡ 0 ∷ 0 ∷ 0 ∷ 0 ∷ 0 ∷ 0 ∷ 0 ∷ []) × ((after (other_mark 7) 7).late ≡ None)
  -- the first row of the table that applies gives the answer
  pub in_order
      : answers orders 21
      ≡ 0 ∷ 0 ∷ 20 ∷ 19 ∷ 0 ∷ 18 ∷ 0 ∷ 20 ∷ 15 ∷ 17 ∷ 0 ∷ 17 ∷ 18 ∷ 0 ∷ 18 ∷ 22 ∷ 0 ∷ 15 ∷ 17 ∷ 0 ∷ 17 ∷ []
  -- a built list ends with what was submitted and not noted; who closes on it has all of it, and its mark
  pub built_tail : nth (after orders 11).histories 0 ≡ Some (record { j = 1; k = 1; list = 7 ∷ 8 ∷ [] })
  pub closed_on : (settled orders (after orders 20) 2 ≡ 7 ∷ 8 ∷ []) × (((after orders 20).replica 2).mark ≡ 22)
  -- what only faulty replicas may do, and what never reaches them
  pub faulty_only : answers issuing 7 ≡ 13 ∷ 21 ∷ 21 ∷ 0 ∷ 16 ∷ 16 ∷ 16 ∷ []
  -- 96 places, 64 submissions, seven histories by events 8 and one more by event 7
  pub places_full
      : (answer (kit_of 1 (3 ∷ 1 ∷ 0 ∷ []) (issues 97)) 95 ≡ Some Taken) × (answer (kit_of 1 (3 ∷ 1 ∷ 0 ∷ []) (issues 97)) 96 ≡ Some (Err CounterFull))
  pub submissions_full
      : (answer (kit_of 1 (1 ∷ 1 ∷ 0 ∷ []) (submits 65)) 63 ≡ Some Taken) × (answer (kit_of 1 (1 ∷ 1 ∷ 0 ∷ []) (submits 65)) 64 ≡ Some (Err SubmissionsFull))
  pub files_full : answers files 12 ≡ 0 ∷ 0 ∷ 0 ∷ 0 ∷ 0 ∷ 0 ∷ 0 ∷ 23 ∷ 24 ∷ 0 ∷ 0 ∷ 24 ∷ []

pub easy_to_get_wrong : EasyToGetWrong
unfolding computing parse kind_of
easy_to_get_wrong =
    record {
      play_kit_lem = refl;
      play_clocks = refl;
      play_answers = refl;
      play_settled = (refl, refl, refl);
      play_marks = (refl, refl, refl);
      play_late = refl;
      refused_gap = (refl, refl, refl);
      refused_late = (refl, refl, refl);
      late_tick = refl;
      late_goes_on = (refl, refl, refl, refl);
      panic_halts_one = (refl, refl, refl);
      last_commit = (refl, refl);
      one_sender_lem = (refl, refl, refl);
      expected_stays = refl;
      mark_compared = (refl, refl);
      mark_agrees = (refl, refl);
      in_order = refl;
      built_tail = refl;
      closed_on = (refl, refl);
      faulty_only = refl;
      places_full = (refl, refl);
      submissions_full = (refl, refl);
      files_full = refl;
    }
