-- The room: what is remembered between two events, and the ways in which one part of it changes. Laws: RoomLaws. Assumes nothing.
use Rattle.std.specs.Prelude.{Bool, ◌&&◌, List, [], ◌∷◌, ◌++◌, ℕ, eqb, Option, None, Some}
use Rattle.terms.specs.Lists.{pick}
use Rattle.terms.specs.Kit.{Kit}
use Rattle.terms.specs.declared.Content.{Content}
use Rattle.terms.specs.declared.Condition.{Condition}
use Rattle.terms.specs.declared.Condition.TheVariants.{Running, Faulty}
use Rattle.rules.specs.Table.{is_marked_faulty}

-- a filed history: j, k and its requests in order
pub record Filing : Type 0 where
  pub j : ℕ
  pub k : ℕ
  pub list : List ℕ

-- a replica's record. A passive one notes pairs: `noted` has their requests and `pair_marks` their marks. `accepted` gives the last
-- accepted value for a sender and a name, `held` the number of the history that it holds
pub record Replica : Type 0 where
  pub condition : Condition
  pub noted : List ℕ
  pub pair_marks : List ℕ
  pub mark : ℕ
  pub accepted : ℕ → ℕ → ℕ
  pub held : Option ℕ

-- `counter x n` lists what replica x issued on its counter of name n: value i is the i-th, from 1. `filed` counts the histories that
-- came by event 8
pub record Room : Type 0 where
  pub clock : ℕ
  pub late : Option ℕ
  pub submitted : List ℕ
  pub ticks : List ℕ
  pub histories : List Filing
  pub filed : ℕ
  pub counter : ℕ → ℕ → List Content
  pub replica : ℕ → Replica

-- ---- the room before the first event

unfoldable pub fresh_replica : Bool → Replica
fresh_replica faulty =
    record { condition = pick faulty Faulty Running; noted = []; pair_marks = []; mark = 0; accepted = λ sender name. 0; held = None }

unfoldable pub fresh_room : Kit → Room
fresh_room kit =
    record {
      clock = 0;
      late = None;
      submitted = [];
      ticks = [];
      histories = [];
      filed = 0;
      counter = λ x name. [];
      replica = λ x. fresh_replica (is_marked_faulty kit x);
    }

-- ---- one value of a function anew

abbrev pub put1 {ℓ} : {A : Type ℓ} → (ℕ → A) → ℕ → A → ℕ → A
put1 g x v y = pick (eqb y x) v (g y)

-- the second key first, since it is mostly a counter's name
abbrev pub put2 {ℓ} : {A : Type ℓ} → (ℕ → ℕ → A) → ℕ → ℕ → A → ℕ → ℕ → A
put2 g x m v y n = pick (eqb n m && eqb y x) v (g y n)

-- ---- one part of the room anew: each changes what its name says, and no other field

unfoldable pub with_clock : Room → ℕ → Room
with_clock r n =
    record {
      clock = n;
      late = r.late;
      submitted = r.submitted;
      ticks = r.ticks;
      histories = r.histories;
      filed = r.filed;
      counter = r.counter;
      replica = r.replica;
    }

unfoldable pub with_late : Room → Option ℕ → Room
with_late r late =
    record {
      clock = r.clock;
      late = late;
      submitted = r.submitted;
      ticks = r.ticks;
      histories = r.histories;
      filed = r.filed;
      counter = r.counter;
      replica = r.replica;
    }

unfoldable pub with_replica : Room → ℕ → Replica → Room
with_replica r x p =
    record {
      clock = r.clock;
      late = r.late;
      submitted = r.submitted;
      ticks = r.ticks;
      histories = r.histories;
      filed = r.filed;
      counter = r.counter;
      replica = put1 r.replica x p;
    }

-- replica x issues a content on its counter of this name: the new value is bound to it for ever
unfoldable pub issue : Room → ℕ → ℕ → Content → Room
issue r x name content =
    record {
      clock = r.clock;
      late = r.late;
      submitted = r.submitted;
      ticks = r.ticks;
      histories = r.histories;
      filed = r.filed;
      counter = put2 r.counter x name (r.counter x name ++ (content ∷ []));
      replica = r.replica;
    }

-- one more history, and how many came by event 8
unfoldable pub with_history : Room → Filing → ℕ → Room
with_history r h n =
    record {
      clock = r.clock;
      late = r.late;
      submitted = r.submitted;
      ticks = r.ticks;
      histories = r.histories ++ (h ∷ []);
      filed = n;
      counter = r.counter;
      replica = r.replica;
    }

-- a request and its tick are remembered
unfoldable pub remember : Room → ℕ → Room
remember r request =
    record {
      clock = r.clock;
      late = r.late;
      submitted = r.submitted ++ (request ∷ []);
      ticks = r.ticks ++ (r.clock ∷ []);
      histories = r.histories;
      filed = r.filed;
      counter = r.counter;
      replica = r.replica;
    }

-- ---- one part of a replica's record anew, in the same way

unfoldable pub with_condition : Replica → Condition → Replica
with_condition p c = record { condition = c; noted = p.noted; pair_marks = p.pair_marks; mark = p.mark; accepted = p.accepted; held = p.held }

unfoldable pub with_mark : Replica → ℕ → Replica
with_mark p m = record { condition = p.condition; noted = p.noted; pair_marks = p.pair_marks; mark = m; accepted = p.accepted; held = p.held }

unfoldable pub note : Replica → ℕ → Replica
note p request =
    record { condition = p.condition; noted = p.noted ++ (request ∷ []); pair_marks = p.pair_marks; mark = p.mark; accepted = p.accepted; held = p.held }

unfoldable pub note_pair : Replica → ℕ → ℕ → Replica
note_pair p request m =
    record {
      condition = p.condition;
      noted = p.noted ++ (request ∷ []);
      pair_marks = p.pair_marks ++ (m ∷ []);
      mark = p.mark;
      accepted = p.accepted;
      held = p.held;
    }

-- the last accepted value of a sender's counter
unfoldable pub accept : Replica → ℕ → ℕ → ℕ → Replica
accept p sender name value =
    record {
      condition = p.condition;
      noted = p.noted;
      pair_marks = p.pair_marks;
      mark = p.mark;
      accepted = put2 p.accepted sender name value;
      held = p.held;
    }

unfoldable pub hold : Replica → ℕ → Replica
hold p h = record { condition = p.condition; noted = p.noted; pair_marks = p.pair_marks; mark = p.mark; accepted = p.accepted; held = Some h }
