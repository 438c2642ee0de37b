-- That the theorem is no empty statement: plays of good kits, computed from the rules, in which correct replicas have settled lists of different
-- lengths. Assumes nothing.
use Rattle.std.specs.Prelude.{◌≡◌, refl, List, [], ◌∷◌, Some, Err}
use Rattle.grammar.specs.Parser.{parse}
use Rattle.grammar.specs.ParserLaws.{accepted_good}
use Rattle.terms.specs.Limits.{ag, up, sw}
use Rattle.terms.specs.Numbers.{content_of, kind_of}
use Rattle.terms.specs.Kit.{Kit, Entry, GoodKit, kit_numbers}
use Rattle.terms.specs.declared.Content.TheVariants.{Prepare}
use Rattle.terms.specs.declared.Condition.TheVariants.{Closed}
use Rattle.terms.specs.declared.Event.{Event}
use Rattle.terms.specs.declared.Event.TheVariants.{Submit, Issue, Deliver, Hand, Panic, Build}
use Rattle.terms.specs.declared.Refusal.TheVariants.{Unexpected, NotNext}
use Rattle.rules.specs.Play.{after, answer}
use Rattle.rules.proofs.Examples.Computing.{computing}
use Rattle.rules.proofs.Agreement.Theorem.{settled_at, Correct}

-- events with no gap between them
abbrev pub at_once : List Event → List Entry
at_once [] = []
at_once (e ∷ es) = record { gap = 0; event = e; requests = [] } ∷ at_once es

-- ---- f = 1: leader 0, switch leader 1, and 2 passive; none is faulty

abbrev busy_events : List Event
busy_events =
    Submit 7 ∷ Submit 5
    ∷ Deliver 0 ag 1 1 ∷ Deliver 0 ag 2 1
    ∷ Deliver 1 ag 1 0
    ∷ Deliver 0 up 1 2 ∷ Deliver 1 up 1 2
    ∷ Submit 9
    ∷ Panic 1 ∷ Build
    ∷ Panic 2 ∷ Hand 3 3 2 ∷ Deliver 1 sw 1 2 ∷ []

abbrev pub busy : Kit
busy = record { f = 1; leader = 0; patience = 10; table = 1 ∷ 1 ∷ 0 ∷ []; events = at_once busy_events }

-- ---- f = 2: leader 0, which is faulty and prepares request 7 twice; 1 and 2 active, 3 and 4 passive

abbrev twice_events : List Event
twice_events =
    Submit 7 ∷ Submit 5
    ∷ Issue 0 ag (Prepare 7) ∷ Issue 0 ag (Prepare 7) ∷ Issue 0 ag (Prepare 5)
    ∷ Deliver 0 ag 1 1 ∷ Deliver 0 ag 1 2
    ∷ Deliver 1 ag 1 2 ∷ Deliver 2 ag 1 1
    ∷ Deliver 0 ag 2 1 ∷ Deliver 0 ag 2 2 ∷ Deliver 0 ag 3 1 ∷ []

abbrev pub twice : Kit
twice = record { f = 2; leader = 0; patience = 10; table = 3 ∷ 1 ∷ 1 ∷ 0 ∷ 0 ∷ []; events = at_once twice_events }

-- ---- both are kits of document 01: their numbers are read as a kit

busy_good : GoodKit busy
unfolding parse kit_numbers kind_of content_of
busy_good = accepted_good (kit_numbers busy) busy refl

twice_good : GoodKit twice
unfolding parse kit_numbers kind_of content_of
twice_good = accepted_good (kit_numbers twice) twice refl

pub record AgreementRows : Type 0 where
  -- after 5 events two correct active replicas have settled one and two requests
  pub one : settled_at busy 5 0 ≡ 7 ∷ []
  pub two : settled_at busy 5 1 ≡ 7 ∷ 5 ∷ []
  -- after 7 the passive one has settled, and lags
  pub lags : settled_at busy 7 2 ≡ 7 ∷ []
  pub ahead : settled_at busy 7 1 ≡ 7 ∷ 5 ∷ []
  -- after 13 it has closed on a history that is longer than what the others settled
  pub closed : ((after busy 13).replica 2).condition ≡ Closed
  pub closed_list : settled_at busy 13 2 ≡ 7 ∷ 5 ∷ 9 ∷ []
  pub open_leader : settled_at busy 13 0 ≡ 7 ∷ []
  pub open_switch_leader : settled_at busy 13 1 ≡ 7 ∷ 5 ∷ []
  -- a faulty leader's second PREPARE of a request is refused by both, and what comes after it too: their lists stay short, and are equal
  pub second_refused : answer twice 9 ≡ Some (Err Unexpected)
  pub second_refused_too : answer twice 10 ≡ Some (Err Unexpected)
  pub third_refused : answer twice 11 ≡ Some (Err NotNext)
  pub short : settled_at twice 12 1 ≡ 7 ∷ []
  pub short_too : settled_at twice 12 2 ≡ 7 ∷ []
  -- all of it in plays that the theorem speaks of, of replicas that are not faulty
  pub busy_kit : GoodKit busy
  pub twice_kit : GoodKit twice
  pub busy_correct : (Correct busy 0) × (Correct busy 1) × (Correct busy 2)
  pub twice_correct : (Correct twice 1) × (Correct twice 2)

pub agreement_rows : AgreementRows
unfolding computing
agreement_rows =
    record {
      one = refl;
      two = refl;
      lags = refl;
      ahead = refl;
      closed = refl;
      closed_list = refl;
      open_leader = refl;
      open_switch_leader = refl;
      second_refused = refl;
      second_refused_too = refl;
      third_refused = refl;
      short = refl;
      short_too = refl;
      busy_kit = busy_good;
      twice_kit = twice_good;
      busy_correct = (refl, refl, refl);
      twice_correct = (refl, refl);
    }
