-- The judge, one number at a time: what it says in each phase and what it knows afterwards. In order: what it knows, part by part, and in the
-- code's one flat record; a step; the phases of the settings, of the table and of the events; the judge (`feed_of`, `fresh`). That it is the plain
-- parser of Parser is proved in Judging. Assumes nothing.
use Rattle.std.specs.Prelude.{◌≡◌, Option, Some, None, Result, Ok, Err, Bool, false, ◌||◌, ◌&&◌, List, [], ◌∷◌, ℕ, ◌+◌, ◌-◌, ◌/◌, ltb, leb, eqb, length, get_or, set}
use Rattle.terms.specs.Limits.{replicas, faults_max, ticks_max, events_max}
use Rattle.terms.specs.Lists.{pick, within}
use Rattle.terms.specs.Kit.{marks_active, marks_faulty, is_table_number, is_request}
use Rattle.terms.specs.Numbers.{kind_of}
use Rattle.terms.specs.declared.Kind.{Kind}
use Rattle.terms.specs.declared.KitRefusal.{KitRefusal}
use Rattle.terms.specs.declared.KitRefusal.TheVariants.{WrongSettings, WrongEvent, Excess}
use Rattle.grammar.specs.Operands.{operands_of, operand_of, fits, filed_by}
use Rattle.grammar.specs.declared.Phase.{Phase}
use Rattle.grammar.specs.declared.Progress.{Progress}
use Rattle.grammar.specs.declared.Judge.{Judge}

-- ---- what the judge knows, part by part

-- the table so far: how many replicas are still to come, how many were active and faulty, whether the leader was active
pub record Tally : Type 0 where
  pub coming : ℕ
  pub active : ℕ
  pub faulty : ℕ
  pub leads : Bool

-- the event so far: its kind, how many operands were read, and the first three of them
pub record Pending : Type 0 where
  pub kind : Kind
  pub at : ℕ
  pub ops : List ℕ

-- 2f+1; how many replicas of the table are left at the leader's; the table; how many events are left, the one at hand counted; that
-- event; how many requests of kind 8 are left
pub record State : Type 0 where
  pub size : ℕ
  pub turn : ℕ
  pub tally : Tally
  pub left : ℕ
  pub pending : Pending
  pub requests : ℕ

-- what is said of a number: more has to come, the kit is complete, or it is refused
abbrev pub Said : Type 0
Said = Result Progress KitRefusal

-- what is said, and what is known afterwards
pub record Move : Type 0 where
  pub said : Said
  pub phase : Phase
  pub state : State

-- ---- the parts in one flat record, as the code has them

abbrev pub judge_of : Phase → State → Judge
judge_of phase s =
    record {
      phase = phase;
      kind = s.pending.kind;
      at = s.pending.at;
      leads = s.tally.leads;
      size = s.size;
      turn = s.turn;
      coming = s.tally.coming;
      active = s.tally.active;
      faulty = s.tally.faulty;
      left = s.left;
      ops = s.pending.ops;
      requests = s.requests;
    }

-- what is said, and the judge afterwards
pub record Step : Type 0 where
  pub said : Said
  pub judge : Judge

abbrev pub step_of : Move → Step
step_of m = record { said = m.said; judge = judge_of m.phase m.state }

abbrev pub tally_of : Judge → Tally
tally_of j = record { coming = j.coming; active = j.active; faulty = j.faulty; leads = j.leads }

abbrev pub pending_of : Judge → Pending
pending_of j = record { kind = j.kind; at = j.at; ops = j.ops }

abbrev pub state_of : Judge → State
state_of j =
    record {
      size = j.size;
      turn = j.turn;
      tally = tally_of j;
      left = j.left;
      pending = pending_of j;
      requests = j.requests;
    }

-- ---- a step

abbrev pub more_of : Phase → State → Move
more_of phase s = record { said = Ok Progress.More; phase = phase; state = s }

abbrev pub done_of : State → Move
done_of s = record { said = Ok Progress.Done; phase = Phase.Over; state = s }

abbrev pub refused_of : KitRefusal → Phase → State → Move
refused_of refusal phase s = record { said = Err refusal; phase = phase; state = s }

-- a move that was made: what was said, and the judge afterwards
pub record Made (m : Move) (j : Judge) (r : Said) : Type 0 where
  pub said : r ≡ m.said
  pub judge : j ≡ judge_of m.phase m.state

-- a state with one of its parts anew
abbrev pub with_size : State → ℕ → State
with_size s n = record { size = n; turn = s.turn; tally = s.tally; left = s.left; pending = s.pending; requests = s.requests }

abbrev pub with_turn : State → ℕ → State
with_turn s n = record { size = s.size; turn = n; tally = s.tally; left = s.left; pending = s.pending; requests = s.requests }

abbrev pub with_tally : State → Tally → State
with_tally s t = record { size = s.size; turn = s.turn; tally = t; left = s.left; pending = s.pending; requests = s.requests }

abbrev pub with_left : State → ℕ → State
with_left s n = record { size = s.size; turn = s.turn; tally = s.tally; left = n; pending = s.pending; requests = s.requests }

abbrev pub with_pending : State → Pending → State
with_pending s p = record { size = s.size; turn = s.turn; tally = s.tally; left = s.left; pending = p; requests = s.requests }

abbrev pub with_requests : State → ℕ → State
with_requests s n = record { size = s.size; turn = s.turn; tally = s.tally; left = s.left; pending = s.pending; requests = n }

-- ---- the settings

unfoldable pub at_f : State → ℕ → Move
at_f s n = pick (within 1 faults_max n) (more_of Phase.Leader (with_size s (replicas n))) (refused_of WrongSettings Phase.F s)

unfoldable pub at_leader : State → ℕ → Move
at_leader s n = pick (ltb n s.size) (more_of Phase.Patience (with_turn s (s.size - n))) (refused_of WrongSettings Phase.Leader s)

abbrev pub empty_tally : ℕ → Tally
empty_tally size = record { coming = size; active = 0; faulty = 0; leads = false }

unfoldable pub at_patience : State → ℕ → Move
at_patience s n =
    pick (within 1 ticks_max n) (more_of Phase.Table (with_tally s (empty_tally s.size))) (refused_of WrongSettings Phase.Patience s)

-- ---- the table

-- one more where the test holds, as far as 32 bits go
unfoldable pub plus_one : Bool → ℕ → ℕ
plus_one holds x = pick holds (pick (ltb x 0xffff_ffff) (x + 1) x) x

-- one more replica
unfoldable pub tallied : Tally → ℕ → ℕ → Tally
tallied t turn n =
    record {
      coming = t.coming - 1;
      active = plus_one (marks_active n) t.active;
      faulty = plus_one (marks_faulty n) t.faulty;
      leads = t.leads || (marks_active n && eqb t.coming turn);
    }

-- the leader is active, f+1 are active, at most f are faulty
abbrev pub tally_right : ℕ → Tally → Bool
tally_right size t = t.leads && (eqb t.active (size / 2 + 1) && leb t.faulty (size / 2))

unfoldable pub table_done : State → Move
table_done s = pick (tally_right s.size s.tally) (more_of Phase.Count s) (refused_of WrongSettings Phase.Table s)

abbrev pub table_goes : State → Move
table_goes s = pick (ltb 0 s.tally.coming) (more_of Phase.Table s) (table_done s)

unfoldable pub at_table : State → ℕ → Move
at_table s n =
    pick (is_table_number n) (table_goes (with_tally s (tallied s.tally s.turn n))) (refused_of WrongSettings Phase.Table s)

-- ---- the events

unfoldable pub at_count : State → ℕ → Move
at_count s n =
    pick (leb n events_max) (pick (eqb n 0) (done_of s) (more_of Phase.Gap (with_left s n))) (refused_of WrongEvent Phase.Count s)

unfoldable pub at_gap : State → ℕ → Move
at_gap s n = pick (leb n ticks_max) (more_of Phase.Kind s) (refused_of WrongEvent Phase.Gap s)

-- an event is complete: the end, or the next gap
unfoldable pub completed : State → Move
completed s = pick (leb s.left 1) (done_of s) (more_of Phase.Gap (with_left s (s.left - 1)))

abbrev pub files_goes : State → ℕ → Move
files_goes s requests = pick (eqb requests 0) (completed s) (more_of Phase.Request (with_requests s requests))

-- the operands are complete
unfoldable pub filing : State → Move
filing s = files_goes s (filed_by s.pending.kind (get_or s.pending.ops 1 0) (get_or s.pending.ops 2 0))

-- the next operand, if there is one
unfoldable pub operand_goes : State → Move
operand_goes s = pick (ltb s.pending.at (length (operands_of s.pending.kind))) (more_of Phase.Operand s) (filing s)

-- an event of a kind, with no operand yet
abbrev pub begun : Kind → Pending
begun kind = record { kind = kind; at = 0; ops = 0 ∷ 0 ∷ 0 ∷ [] }

abbrev pub kind_goes : State → Option Kind → Move
kind_goes s None = refused_of WrongEvent Phase.Kind s
kind_goes s (Some kind) = operand_goes (with_pending s (begun kind))

unfoldable pub at_kind : State → ℕ → Move
at_kind s n = kind_goes s (kind_of n)

-- one more operand; the first three are kept
abbrev pub kept : Pending → ℕ → Pending
kept p n = record { kind = p.kind; at = p.at + 1; ops = set p.ops p.at n }

-- whether the next number is what the table has at its place
abbrev pub operand_right : State → ℕ → Bool
operand_right s n =
    ltb s.pending.at (length (operands_of s.pending.kind))
    && fits (operand_of s.pending.kind s.pending.at) s.size s.pending.ops n

unfoldable pub at_operand : State → ℕ → Move
at_operand s n =
    pick (operand_right s n) (operand_goes (with_pending s (kept s.pending n))) (refused_of WrongEvent Phase.Operand s)

unfoldable pub at_request : State → ℕ → Move
at_request s n =
    pick (is_request n)
    (pick (leb s.requests 1) (completed s) (more_of Phase.Request (with_requests s (s.requests - 1))))
    (refused_of WrongEvent Phase.Request s)

-- ---- the judge

abbrev pub in_phase : Phase → State → ℕ → Move
in_phase Phase.F s n = at_f s n
in_phase Phase.Leader s n = at_leader s n
in_phase Phase.Patience s n = at_patience s n
in_phase Phase.Table s n = at_table s n
in_phase Phase.Count s n = at_count s n
in_phase Phase.Gap s n = at_gap s n
in_phase Phase.Kind s n = at_kind s n
in_phase Phase.Operand s n = at_operand s n
in_phase Phase.Request s n = at_request s n
in_phase Phase.Over s n = refused_of Excess Phase.Over s

unfoldable pub feed_of : Judge → ℕ → Step
feed_of j n = step_of (in_phase j.phase (state_of j) n)

-- before the first number
abbrev pub fresh_state : State
fresh_state =
    record {
      size = 0;
      turn = 0;
      tally = empty_tally 0;
      left = 0;
      pending = begun Kind.Idle;
      requests = 0;
    }

unfoldable pub fresh : Judge
fresh = judge_of Phase.F fresh_state
