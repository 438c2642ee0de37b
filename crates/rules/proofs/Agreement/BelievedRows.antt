-- That nothing in Believed is empty: plays of good kits, computed from the rules. In `small` event 7 builds with j below k, and its history is handed at
-- once, and later to one that halts later; another value is answered 22. In `lying` the switch leader is faulty, and a correct replica holds what event 8
-- filed: the second half says "where the switch leader is correct" for a reason. Assumes nothing.
use Rattle.std.specs.Prelude.{◌≡◌, refl, true, List, [], ◌∷◌, Some, Err}
use Rattle.std.proofs.Common.{arith}
use Rattle.grammar.specs.Operands.{filed_of}
use Rattle.grammar.specs.Parser.{parse}
use Rattle.grammar.specs.ParserLaws.{accepted_good}
use Rattle.terms.specs.Limits.{ag, up}
use Rattle.terms.specs.Numbers.{content_of, kind_of}
use Rattle.terms.specs.Kit.{Kit, GoodKit, kit_numbers}
use Rattle.terms.specs.declared.Content.TheVariants.{History}
use Rattle.terms.specs.declared.Condition.TheVariants.{Running}
use Rattle.terms.specs.declared.Event.{Event}
use Rattle.terms.specs.declared.Event.TheVariants.{Submit, Issue, Deliver, Hand, Panic, Build, File}
use Rattle.terms.specs.Numbers.{Taken}
use Rattle.terms.specs.declared.Refusal.TheVariants.{NotValid, CannotBuild}
use Rattle.rules.specs.Table.{is_marked_faulty, switch_leader}
use Rattle.rules.specs.Room.{Filing}
use Rattle.rules.specs.Play.{after, answer}
use Rattle.rules.proofs.Examples.Computing.{computing}
use Rattle.rules.proofs.Agreement.Theorem.{Correct}
use Rattle.rules.proofs.Agreement.Rows.{at_once}
use Rattle.rules.proofs.Agreement.Built.{BuiltAt}
use Rattle.rules.proofs.Agreement.Believed.{OwnValues, Receiver}

-- ---- f = 2: leader 0, switch leader 1, 2 active, 3 and 4 passive, 4 faulty. 1 has settled request 7 and only committed 5; 9 has reached the leader alone

abbrev small_events : List Event
small_events =
    Submit 7 ∷ Submit 5 ∷ Submit 9
    ∷ Deliver 0 ag 1 1 ∷ Deliver 0 ag 2 1 ∷ Deliver 0 ag 1 2
    ∷ Deliver 2 ag 1 1
    ∷ Panic 1 ∷ Panic 2
    ∷ Build ∷ Hand 3 2 2
    ∷ Submit 8 ∷ Panic 3
    ∷ Hand 3 1 3 ∷ Hand 3 2 3 ∷ []

abbrev pub small : Kit
small = record { f = 2; leader = 0; patience = 10; table = 1 ∷ 1 ∷ 1 ∷ 0 ∷ 2 ∷ []; events = at_once small_events }

abbrev pub filing : Filing
filing = record { j = 1; k = 2; list = 7 ∷ 5 ∷ 9 ∷ [] }

-- ---- f = 1: leader 0, switch leader 1, which is faulty, and 2 passive. The empty history of event 8 is valid

abbrev lying_events : List Event
lying_events = File 0 0 ∷ Issue 1 ag (History 0) ∷ Issue 1 up (History 0) ∷ Panic 2 ∷ Hand 1 1 2 ∷ Build ∷ []

abbrev pub lying : Kit
lying = record { f = 1; leader = 0; patience = 10; table = 1 ∷ 3 ∷ 0 ∷ []; events = at_once lying_events }

-- ---- both are kits of document 01

small_good : GoodKit small
unfolding parse kit_numbers kind_of content_of
small_good = accepted_good (kit_numbers small) small refl

lying_good : GoodKit lying
unfolding parse kit_numbers kind_of content_of filed_of
lying_good = accepted_good (kit_numbers lying) lying refl

pub record BelievedRows : Type 0 where
  pub small_kit : GoodKit small
  pub leads : switch_leader small ≡ 1
  -- event 7 built (1, 2, [7, 5, 9]) under number 0; its own two values are 3 and 2
  pub built : BuiltAt small 9 0 filing
  pub values : OwnValues small (after small 10) 0 3 2
  -- 2 could be handed it at once, and was: 0
  pub at_once_lem : Receiver small (after small 10) 2
  pub taken_at_once : answer small 10 ≡ Some Taken
  -- 3 still ran then; one request more was submitted, 3 halted: 22 with up value 1, which is an UPDATE, 0 with its own two, and it holds it
  pub runs_then : ((after small 10).replica 3).condition ≡ Running
  pub halts_later : Receiver small (after small 13) 3
  pub submitted_later : (after small 13).submitted ≡ 7 ∷ 5 ∷ 9 ∷ 8 ∷ []
  pub other_value : answer small 13 ≡ Some (Err NotValid)
  pub taken_later : answer small 14 ≡ Some Taken
  pub holds_it : ((after small 15).replica 3).held ≡ Some 0
  -- the second half's premise is met there
  pub small_correct : (Correct small 1) × (Correct small 3)
  -- and is needed: by a faulty switch leader, which cannot build, a correct replica is made to hold another history
  pub lying_kit : GoodKit lying
  pub lying_leads : (switch_leader lying ≡ 1) × (is_marked_faulty lying 1 ≡ true)
  pub holds_another : (Correct lying 2) × (((after lying 6).replica 2).held ≡ Some 0)
  pub cannot_build : answer lying 5 ≡ Some (Err CannotBuild)

pub believed_rows : BelievedRows
unfolding computing
believed_rows =
    record {
      small_kit = small_good;
      leads = refl;
      built = record { gap = 0; list = []; is_event = refl; was_taken = refl; numbered = refl; is_filed_lem = refl };
      values = (refl, refl);
      at_once_lem = record { not_builder = λ e. omega arith; is_halted = refl; holds-none = refl };
      taken_at_once = refl;
      runs_then = refl;
      halts_later = record { not_builder = λ e. omega arith; is_halted = refl; holds-none = refl };
      submitted_later = refl;
      other_value = refl;
      taken_later = refl;
      holds_it = refl;
      small_correct = (refl, refl);
      lying_kit = lying_good;
      lying_leads = (refl, refl);
      holds_another = (refl, refl);
      cannot_build = refl;
    }
