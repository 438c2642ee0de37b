-- Idle time, by computation: seven ways to spend twelve ticks; the four edits of a kit; and rooms that no kit reaches, where the laws of Idle do not
-- hold: two whose ticks fall, and one where somebody is overdue and there is no late tick. Assumes nothing.
use Rattle.std.specs.Prelude.{◌≡◌, refl, List, [], ◌∷◌, ◌++◌, map, ℕ, ◌+◌, length, Option, None, Some}
use Rattle.std.proofs.Common.{arith}
use Rattle.terms.specs.Limits.{ag}
use Rattle.terms.specs.Kit.{Kit}
use Rattle.terms.specs.declared.Event.TheVariants.{Submit, Deliver}
use Rattle.rules.specs.Room.{Room, fresh_room}
use Rattle.rules.specs.Play.{play, after}
use Rattle.rules.proofs.Examples.Computing.{computing}
use Rattle.rules.proofs.Examples.PaperTable.{at, kit_of}
use Rattle.rules.proofs.Examples.EasyToGetWrong.{answers}
use Rattle.rules.proofs.Laws.Time.{NeverFall}
use Rattle.rules.proofs.Laws.Settings.{same_table}
use Rattle.rules.proofs.Laws.Idle.{idle}
use Rattle.rules.proofs.Laws.Instead.{with_events, replace}

-- ---- a kit of patience 10

-- request 7 is submitted at tick 1 and request 5 at tick 3; idles of these gaps come; 5 is submitted again, and PREPARE of 7 is delivered
abbrev pub pauses : List ℕ → Kit
pauses gaps =
    kit_of 1 (1 ∷ 1 ∷ 0 ∷ [])
    (at 1 (Submit 7) ∷ at 2 (Submit 5) ∷ (map idle gaps ++ (at 0 (Submit 5) ∷ at 0 (Deliver 0 ag 1 1) ∷ [])))

-- clock and late tick after the idles
abbrev pub after_idles : List ℕ → ℕ × Option ℕ
after_idles gaps = let r = after (pauses gaps) (2 + length gaps) in (r.clock, r.late)

-- ---- rooms that no kit reaches

abbrev pub of_patience : ℕ → Kit
of_patience patience = record { f = 1; leader = 0; patience = patience; table = 1 ∷ 1 ∷ 0 ∷ []; events = [] }

-- at this clock: these requests were submitted at these ticks, nothing else has happened, and there is no late tick
abbrev pub submitted_at : ℕ → List ℕ → List ℕ → Room
submitted_at clock requests ticks =
    let r = fresh_room (of_patience 1) in
    record {
      clock = clock;
      late = None;
      submitted = requests;
      ticks = ticks;
      histories = r.histories;
      filed = r.filed;
      counter = r.counter;
      replica = r.replica;
    }

-- the ticks fall, and one is past the clock
abbrev pub fallen : Room
fallen = submitted_at 0 (7 ∷ 5 ∷ []) (10 ∷ 0 ∷ [])

-- the ticks fall, and none is past the clock
abbrev pub fallen_within : Room
fallen_within = submitted_at 10 (7 ∷ 5 ∷ []) (10 ∷ 0 ∷ [])

-- request 7 has waited 20 ticks
abbrev pub overdue_unknown : Room
overdue_unknown = submitted_at 20 (7 ∷ []) (0 ∷ [])

-- the late tick after some idles, at this patience
abbrev pub late_after : ℕ → Room → List ℕ → Option ℕ
late_after patience r gaps = (play (of_patience patience) r (map idle gaps)).late

-- ---- the rows

pub record IdleRows : Type 0 where
  -- twelve ticks in one idle, in two of six, cut where the patience is over, one tick and two after that, with an idle of 0 before them, in three
  pub one : after_idles (12 ∷ []) ≡ (15, Some 11)
  pub halves : after_idles (6 ∷ 6 ∷ []) ≡ (15, Some 11)
  pub cut_at_eight : after_idles (8 ∷ 4 ∷ []) ≡ (15, Some 11)
  pub cut_at_nine : after_idles (9 ∷ 3 ∷ []) ≡ (15, Some 11)
  pub cut_at_ten : after_idles (10 ∷ 2 ∷ []) ≡ (15, Some 11)
  pub zero_first : after_idles (0 ∷ 12 ∷ []) ≡ (15, Some 11)
  pub in_three : after_idles (4 ∷ 0 ∷ 8 ∷ []) ≡ (15, Some 11)
  -- one tick before the patience is over an idle of 0 makes nobody late, and one of 1 does
  pub zero_early : after_idles (7 ∷ 0 ∷ []) ≡ (10, None)
  pub one_more : after_idles (7 ∷ 0 ∷ 1 ∷ []) ≡ (11, Some 11)
  -- the answers behind them are the same, numbered one higher
  pub answers_one : answers (pauses (12 ∷ [])) 5 ≡ 0 ∷ 0 ∷ 0 ∷ 11 ∷ 0 ∷ []
  pub answers_two : answers (pauses (6 ∷ 6 ∷ [])) 6 ≡ 0 ∷ 0 ∷ 0 ∷ 0 ∷ 11 ∷ 0 ∷ []
  -- the four edits at place 2
  pub joining : replace 2 2 (idle 12 ∷ []) (pauses (6 ∷ 6 ∷ [])) ≡ pauses (12 ∷ [])
  pub cutting : replace 2 1 (idle 6 ∷ idle 6 ∷ []) (pauses (12 ∷ [])) ≡ pauses (6 ∷ 6 ∷ [])
  pub putting_in : replace 2 0 (idle 0 ∷ []) (pauses (12 ∷ [])) ≡ pauses (0 ∷ 12 ∷ [])
  pub taking_out : replace 2 1 [] (pauses (0 ∷ 12 ∷ [])) ≡ pauses (12 ∷ [])
  -- where ticks fall two idles are not one: at a patience of 5; and at one of 15, where the room is quiet and no tick is past the clock
  pub falls : NeverFall fallen.ticks → ⊥
  pub fallen_cut : late_after 5 fallen (5 ∷ 10 ∷ []) ≡ Some 5
  pub fallen_whole : late_after 5 fallen (15 ∷ []) ≡ Some 15
  pub within_cut : late_after 15 fallen_within (5 ∷ 10 ∷ []) ≡ Some 15
  pub within_whole : late_after 15 fallen_within (15 ∷ []) ≡ Some 25
  -- where somebody is overdue and there is no late tick, an idle of 0 finds it
  pub overdue_found : (overdue_unknown.late ≡ None) × (late_after 5 overdue_unknown (0 ∷ []) ≡ Some 5)

pub idle_rows : IdleRows
unfolding computing with_events same_table replace
idle_rows =
    record {
      one = refl;
      halves = refl;
      cut_at_eight = refl;
      cut_at_nine = refl;
      cut_at_ten = refl;
      zero_first = refl;
      in_three = refl;
      zero_early = refl;
      one_more = refl;
      answers_one = refl;
      answers_two = refl;
      joining = refl;
      cutting = refl;
      putting_in = refl;
      taking_out = refl;
      falls = λ never. absurd (omega (arith, never 0 1 10 0 (omega arith) refl refl));
      fallen_cut = refl;
      fallen_whole = refl;
      within_cut = refl;
      within_whole = refl;
      overdue_found = (refl, refl);
    }
