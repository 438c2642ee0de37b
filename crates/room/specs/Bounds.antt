-- What holds in every room that a good kit reaches, as far as the player's fixed sizes ask for it. That it does hold: Reached. Assumes nothing.
use Rattle.std.specs.Prelude.{◌≡◌, true, false, List, ℕ, suc, ◌*◌, ◌≤◌, length, None, Some}
use Rattle.terms.specs.Limits.{requests_max, filed_max, places_max, events_max, ticks_max}
use Rattle.terms.specs.Lists.{nth, holds, Once}
use Rattle.terms.specs.Kit.{Kit, GoodKit}
use Rattle.rules.specs.Table.{switch_leader}
use Rattle.rules.specs.Room.{Room, Replica, Filing}
use Rattle.rules.specs.Reading.{is_faulty}
use Rattle.rules.proofs.Agreement.Invariant.{FilingBounds}

-- a replica's record: it notes a request only where that is submitted and not noted, and a pair's mark only with its request
pub record ReplicaBounds (submitted : List ℕ) (p : Replica) : Type 0 where
  pub noted_once : Once p.noted
  pub noted_submitted : (i a : ℕ) → nth p.noted i ≡ Some a → holds a submitted ≡ true
  pub noted_max : length p.noted ≤ requests_max
  pub pairs_noted : length p.pair_marks ≤ length p.noted

pub record Bounds (kit : Kit) (r : Room) : Type 0 where
  pub good : GoodKit kit
  -- every event adds a gap
  pub clock_max : r.clock ≤ events_max * ticks_max
  pub submitted_max : length r.submitted ≤ requests_max
  -- a request and its tick are remembered together, and the clock never falls
  pub ticks_length : length r.ticks ≡ length r.submitted
  pub ticks_ascend : (i j a b : ℕ) → i ≤ j → nth r.ticks i ≡ Some a → nth r.ticks j ≡ Some b → a ≤ b
  pub ticks_past : (i a : ℕ) → nth r.ticks i ≡ Some a → a ≤ r.clock
  -- events 8 file seven; event 7 files one more and leaves the switch leader holding it
  pub filed_max_lem : r.filed ≤ filed_max
  pub histories_filed : length r.histories ≤ suc r.filed
  pub built_held : (r.replica (switch_leader kit)).held ≡ None → length r.histories ≡ r.filed
  pub filings : (i : ℕ) (h : Filing) → nth r.histories i ≡ Some h → FilingBounds h
  pub replicas : (x : ℕ) → ReplicaBounds r.submitted (r.replica x)
  pub counter_max : (x name : ℕ) → length (r.counter x name) ≤ places_max
  -- a correct replica issues on ag once for each request that it notes, on up once for each that it settles, and once more on each where
  -- it builds; on sw once
  pub own_max : (x name : ℕ) → is_faulty (r.replica x).condition ≡ false → length (r.counter x name) ≤ suc requests_max
