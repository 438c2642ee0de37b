-- A sound history: one that has all that a hand asks for. Growth keeps it sound. Passes has what follows for a hand. Assumes nothing.
use Rattle.std.specs.Prelude.{◌≡◌, true, ◌≢◌, ℕ, suc, ◌≤◌, ◌<◌, length, take, get_or, Some}
use Rattle.terms.specs.Limits.{ag, up}
use Rattle.terms.specs.Lists.{nth, holds, Once}
use Rattle.terms.specs.ListLaws.{nth-lt, nth-get_or}
use Rattle.terms.specs.Mark.{mark_of}
use Rattle.terms.specs.Kit.{Kit}
use Rattle.terms.specs.declared.Content.TheVariants.{Prepare, Commit, Update, History}
use Rattle.rules.specs.Table.{actives, switch_leader}
use Rattle.rules.specs.Room.{Room, Filing}
use Rattle.rules.proofs.Laws.Growth.{Grows, still_submitted}
use Rattle.rules.proofs.Agreement.Invariant.{Backed}

-- request i of a list, counted from 0
abbrev pub request : Filing → ℕ → ℕ
request filing i = get_or filing.list i 0

-- of history `number` in the room
pub record Sound (kit : Kit) (r : Room) (number : ℕ) (filing : Filing) : Type 0 where
  -- HISTORY of it stands at k+1 of the switch leader's ag and at j+1 of its up
  pub on_ag : nth (r.counter (switch_leader kit) ag) filing.k ≡ Some (History number)
  pub on_up : nth (r.counter (switch_leader kit) up) filing.j ≡ Some (History number)
  -- up to k the switch leader committed its requests and the leader prepared them
  pub committed : (i : ℕ) → i < filing.k → nth (r.counter (switch_leader kit) ag) i ≡ Some (Commit (request filing i) (suc i))
  pub prepared : (i : ℕ) → i < filing.k → nth (r.counter kit.leader ag) i ≡ Some (Prepare (request filing i))
  -- up to j every other active replica committed them too, and the switch leader's UPDATEs have their marks
  pub committed_by_all : (i y : ℕ) → i < filing.j → holds y (actives kit) ≡ true → y ≢ kit.leader → y ≢ switch_leader kit
      → nth (r.counter y ag) i ≡ Some (Commit (request filing i) (suc i))
  pub updated : (i : ℕ) → i < filing.j
      → nth (r.counter (switch_leader kit) up) i ≡ Some (Update (request filing i) (mark_of (take (suc i) filing.list)))
  -- each of its requests was submitted, and none stands twice
  pub submitted : (i q : ℕ) → nth filing.list i ≡ Some q → holds q r.submitted ≡ true
  pub once : Once filing.list

pub sound_grows : (kit : Kit) {r r₁ : Room} → Grows r r₁ → {number : ℕ} {filing : Filing} → Sound kit r number filing → Sound kit r₁ number filing
sound_grows kit g v =
    record {
      on_ag = g.counters _ _ _ _ v.on_ag;
      on_up = g.counters _ _ _ _ v.on_up;
      committed = λ i l. g.counters _ _ _ _ (v.committed i l);
      prepared = λ i l. g.counters _ _ _ _ (v.prepared i l);
      committed_by_all = λ i y l m d e. g.counters _ _ _ _ (v.committed_by_all i y l m d e);
      updated = λ i l. g.counters _ _ _ _ (v.updated i l);
      submitted = λ i q e. still_submitted g q (v.submitted i q e);
      once = v.once;
    }

-- and it is backed: the agreement of settled lists needs no more
pub sound_backed
    : (kit : Kit) {r : Room} {number : ℕ} {filing : Filing} → nth r.histories number ≡ Some filing → filing.k ≤ length filing.list
    → Sound kit r number filing → Backed kit r number
sound_backed kit {filing} filed long v =
    record {
      filing = filing;
      is_filed_lem = filed;
      announced = v.on_ag;
      commits_below = λ i l. (request filing i, suc i, v.committed i l);
      prepared = λ i q l n.
          let d = nth-get_or filing.list i 0 (nth-lt filing.list i n) in
          let y : request filing i ≡ q = cc in
          rw y at (v.prepared i l);
      long = long;
      once = v.once;
      submitted = v.submitted;
    }
