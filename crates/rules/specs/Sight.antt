-- What an event is decided by: what is asked of the kit and of the room, for the replica concerned. The player's arrays are asked the same, and
-- that they answer the same is a law of crate decide. Assumes nothing.
use Rattle.std.specs.Prelude.{Bool, ◌&&◌, not, ℕ, length, Option}
use Rattle.terms.specs.Lists.{holds}
use Rattle.terms.specs.Kit.{Kit}
use Rattle.terms.specs.declared.Condition.{Condition}
use Rattle.rules.specs.Room.{Room}
use Rattle.rules.specs.Reading.{entry_at}

-- the leader; whether a request is submitted; of the replica concerned its condition, how many requests it has noted, request i of them, whether a
-- request is one of them, pair i's mark, and the history that it holds
pub record Sight : Type 0 where
  pub leader : ℕ
  pub is_submitted : ℕ → Bool
  pub condition : Condition
  pub noted_count : ℕ
  pub noted_at : ℕ → ℕ
  pub has_noted : ℕ → Bool
  pub pair_mark_at : ℕ → ℕ
  pub held : Option ℕ

-- a request that is submitted and that the replica has not noted yet
abbrev pub is_new : Sight → ℕ → Bool
is_new s request = s.is_submitted request && not (s.has_noted request)

-- in a room, for replica x
abbrev pub sight_of : Kit → Room → ℕ → Sight
sight_of kit r x =
    let p = r.replica x in
    record {
      leader = kit.leader;
      is_submitted = λ request. holds request r.submitted;
      condition = p.condition;
      noted_count = length p.noted;
      noted_at = entry_at p.noted;
      has_noted = λ request. holds request p.noted;
      pair_mark_at = entry_at p.pair_marks;
      held = p.held;
    }
