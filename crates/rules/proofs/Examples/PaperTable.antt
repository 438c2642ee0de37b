-- Document 01, "Both sides of the line": P1 to P12 and its two lines about f = 2, each an equation over the definitions, under one theorem. P8 is
-- as request L3 has it. Assumes nothing.
use Rattle.std.specs.Prelude.{◌≡◌, refl, List, [], ◌∷◌, ◌++◌, ℕ, ◌-◌, ◌^◌, Some, Err}
use Rattle.number.specs.Number.{Number, number_at, fault_number}
use Rattle.grammar.specs.Parser.{parse, kit_answer}
use Rattle.kit.specs.Reader.{numbers_in, check_of}
use Rattle.terms.specs.Limits.{ag, up, sw}
use Rattle.terms.specs.Lists.{nth}
use Rattle.terms.specs.Mark.{mark_of}
use Rattle.terms.specs.Kit.{Kit, Entry}
use Rattle.terms.specs.Numbers.{kind_of, kit_number_of}
use Rattle.terms.specs.declared.Content.TheVariants.{Commit, History}
use Rattle.terms.specs.declared.Condition.TheVariants.{Closed}
use Rattle.terms.specs.declared.Event.{Event}
use Rattle.terms.specs.declared.Event.TheVariants.{Submit, Issue, Deliver, Hand, Panic, Build, File}
use Rattle.terms.specs.Numbers.{Taken}
use Rattle.terms.specs.declared.Refusal.TheVariants.{NotNext, NotValid}
use Rattle.rules.specs.Reading.{content_at, settled}
use Rattle.rules.specs.Play.{after, answer}
use Rattle.rules.proofs.Examples.Computing.{computing}

-- ---- the kits

-- an event after a gap
abbrev pub at : ℕ → Event → Entry
at gap event = record { gap = gap; event = event; requests = [] }

-- a kit whose leader is replica 0 and whose patience is 10
abbrev pub kit_of : ℕ → List ℕ → List Entry → Kit
kit_of f table events = record { f = f; leader = 0; patience = 10; table = table; events = events }

-- the bytes of a kit with this patience, one idle event, and this gap, both spelled out
abbrev pub waiting : List ℕ → List ℕ → List ℕ
waiting patience gap = (1 ∷ 0 ∷ []) ++ (patience ++ ((1 ∷ 1 ∷ 0 ∷ 1 ∷ []) ++ (gap ++ (6 ∷ []))))

-- the printed kit, with this third gap
abbrev pub printed : ℕ → Kit
printed gap =
    kit_of 1 (1 ∷ 1 ∷ 0 ∷ [])
    (at 0 (Submit 7) ∷ at 3 (Deliver 0 ag 1 1) ∷ at gap (Deliver 1 ag 1 0) ∷ at 20 (Deliver 0 up 1 2) ∷ at 0 (Deliver 1 up 1 2) ∷ [])

-- its event 2 again after itself
abbrev pub repeated : Kit
repeated = kit_of 1 (1 ∷ 1 ∷ 0 ∷ []) (at 0 (Submit 7) ∷ at 3 (Deliver 0 ag 1 1) ∷ at 3 (Deliver 0 ag 1 1) ∷ [])

-- after its event 2, with all gaps 0, the way to a closed replica 2
abbrev pub switching : Kit
switching =
    kit_of 1 (1 ∷ 1 ∷ 0 ∷ [])
    (at 0 (Submit 7)
    ∷ at 0 (Deliver 0 ag 1 1)
    ∷ at 0 (Panic 1)
    ∷ at 0 Build
    ∷ at 0 (Panic 2)
    ∷ at 0 (Hand 2 2 2)
    ∷ at 0 (Deliver 1 sw 1 2)
    ∷ [])

-- f = 2: the switch leader, replica 1, has committed but settled nothing, and builds
abbrev pub unsettled : Kit
unsettled = kit_of 2 (1 ∷ 1 ∷ 1 ∷ 0 ∷ 0 ∷ []) (at 0 (Submit 7) ∷ at 0 (Deliver 0 ag 1 1) ∷ at 0 (Panic 1) ∷ at 0 Build ∷ [])

-- the same with a faulty switch leader, which issues HISTORY of a filed history with this k at ag value 2 and up value 1
abbrev pub filing : ℕ → Kit
filing k =
    kit_of 2 (1 ∷ 3 ∷ 1 ∷ 0 ∷ 0 ∷ [])
    (at 0 (Submit 7)
    ∷ at 0 (Issue 1 ag (Commit 7 1))
    ∷ record { gap = 0; event = File 0 k; requests = 7 ∷ [] }
    ∷ at 0 (Issue 1 ag (History 0))
    ∷ at 0 (Issue 1 up (History 0))
    ∷ at 0 (Panic 2)
    ∷ at 0 (Hand 2 1 2)
    ∷ [])

-- ---- the rows

pub record PaperTable : Type 0 where
  -- 80 00 is 2
  pub p1 : fault_number (number_at (0x80 ∷ 0x00 ∷ []) 0) ≡ 2
  -- FF FF FF FF 10 is 2
  pub p2 : fault_number (number_at (0xff ∷ 0xff ∷ 0xff ∷ 0xff ∷ 0x10 ∷ []) 0) ≡ 2
  -- FF FF FF 7F is 2^28-1, a good patience
  pub p3
      : (number_at (0xff ∷ 0xff ∷ 0xff ∷ 0x7f ∷ []) 0 ≡ Number (2 ^ 28 - 1) 4)
      × (kit_number_of (check_of (waiting (0xff ∷ 0xff ∷ 0xff ∷ 0x7f ∷ []) (0 ∷ []))) ≡ 0)
  -- 80 80 80 80 01 as patience is 3, as gap 4
  pub p4
      : (number_at (0x80 ∷ 0x80 ∷ 0x80 ∷ 0x80 ∷ 0x01 ∷ []) 0 ≡ Number (2 ^ 28) 5)
      × (kit_number_of (check_of (waiting (0x80 ∷ 0x80 ∷ 0x80 ∷ 0x80 ∷ 0x01 ∷ []) (0 ∷ []))) ≡ 3)
      × (kit_number_of (check_of (waiting (10 ∷ []) (0x80 ∷ 0x80 ∷ 0x80 ∷ 0x80 ∷ 0x01 ∷ []))) ≡ 4)
  -- requests 7, 5 give mark 19
  pub p5 : mark_of (7 ∷ 5 ∷ []) ≡ 19
  -- 2147483648, 1 give mark 1
  pub p6 : mark_of (2147483648 ∷ 1 ∷ []) ≡ 1
  -- third gap 6: clock 9, taken
  pub p7 : ((after (printed 6) 3).clock ≡ 9) × (answer (printed 6) 2 ≡ Some Taken)
  -- third gap 7: clock 10, late 10, answer 0
  pub p8 : ((after (printed 7) 3).clock ≡ 10) × ((after (printed 7) 3).late ≡ Some 10) × (answer (printed 7) 2 ≡ Some Taken)
  -- event 2 again after itself: 19
  pub p9 : answer repeated 2 ≡ Some (Err NotNext)
  -- j = k = 1, HISTORY at ag value 2 and up value 2
  pub p10
      : (nth (after switching 4).histories 0 ≡ Some (record { j = 1; k = 1; list = 7 ∷ [] }))
      × (content_at ((after switching 4).counter 1 ag) 2 ≡ Some (History 0))
      × (content_at ((after switching 4).counter 1 up) 2 ≡ Some (History 0))
  -- the hand is taken
  pub p11 : answer switching 5 ≡ Some Taken
  -- closed on 7
  pub p12
      : (answer switching 6 ≡ Some Taken)
      × (((after switching 7).replica 2).condition ≡ Closed)
      × (settled switching (after switching 7) 2 ≡ 7 ∷ [])
  -- f = 2: k = 1, j = 0, ag 2, up 1
  pub f2_built
      : (nth (after unsettled 4).histories 0 ≡ Some (record { j = 0; k = 1; list = 7 ∷ [] }))
      × (content_at ((after unsettled 4).counter 1 ag) 2 ≡ Some (History 0))
      × (content_at ((after unsettled 4).counter 1 up) 1 ≡ Some (History 0))
  -- the same with a filed k = 0 handed at ag 2: 22
  pub f2_filed : answer (filing 0) 6 ≡ Some (Err NotValid)

pub paper_table : PaperTable
unfolding computing number_at check_of numbers_in kit_answer parse kind_of
paper_table =
    record {
      p1 = refl;
      p2 = refl;
      p3 = (refl, refl);
      p4 = (refl, refl, refl);
      p5 = refl;
      p6 = refl;
      p7 = (refl, refl);
      p8 = (refl, refl, refl);
      p9 = refl;
      p10 = (refl, refl, refl);
      p11 = refl;
      p12 = (refl, refl, refl);
      f2_built = (refl, refl, refl);
      f2_filed = refl;
    }
