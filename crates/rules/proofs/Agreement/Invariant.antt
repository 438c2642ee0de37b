-- The invariant of every room that a kit's play reaches, replica by replica, and that growth keeps it. A replica's own record and its own ag
-- and up lists are arguments; the rest of the room is read only through what grows. Assumes nothing.
use Rattle.std.specs.Prelude.{◌≡◌, true, false, ◌≢◌, List, ℕ, suc, ◌≤◌, ◌<◌, length, take, Option, None, Some}
use Rattle.terms.specs.Limits.{ag, up, requests_max}
use Rattle.terms.specs.Lists.{nth, holds, Once}
use Rattle.terms.specs.Mark.{mark_of}
use Rattle.terms.specs.Kit.{Kit}
use Rattle.terms.specs.declared.Content.{Content}
use Rattle.terms.specs.declared.Content.TheVariants.{Prepare, Commit, Update, History}
use Rattle.rules.specs.Table.{is_active, is_marked_faulty, switch_leader}
use Rattle.rules.specs.Room.{Room, Replica, Filing}
use Rattle.rules.specs.Reading.{is_running, is_closed, is_faulty, settled_count, settled_noted}
use Rattle.rules.proofs.Laws.Growth.{Grows, still_submitted}

-- how long a filed history is: the reader sees to it for event 8; event 7 files the switch leader's own ag total as k, which counts requests
-- that it noted, and a settled count that is at most that
pub record FilingBounds (h : Filing) : Type 0 where
  pub j_k : h.j ≤ h.k
  pub k_list : h.k ≤ length h.list
  pub list_max : length h.list ≤ requests_max

-- no request is submitted twice, each has its tick, and there are at most 64
pub record Submissions (requests ticks : List ℕ) : Type 0 where
  pub once : Once requests
  pub timed : length ticks ≡ length requests
  pub few : length requests ≤ requests_max

-- what history h of a correct replica has for it in the room: HISTORY of it stands at ag value k+1 of the switch leader and COMMITs stand below;
-- the leader's ag values prepare its first k requests; its list is at least k long, without repeats and submitted
pub record Backed (kit : Kit) (r : Room) (h : ℕ) : Type 0 where
  pub filing : Filing
  pub is_filed_lem : nth r.histories h ≡ Some filing
  pub announced : nth (r.counter (switch_leader kit) ag) filing.k ≡ Some (History h)
  pub commits_below : (i : ℕ) → i < filing.k → (q : ℕ) × (b : ℕ) × (nth (r.counter (switch_leader kit) ag) i ≡ Some (Commit q b))
  pub prepared : (i q : ℕ) → i < filing.k → nth filing.list i ≡ Some q → nth (r.counter kit.leader ag) i ≡ Some (Prepare q)
  pub long : filing.k ≤ length filing.list
  pub once : Once filing.list
  pub submitted : (i q : ℕ) → nth filing.list i ≡ Some q → holds q r.submitted ≡ true

-- of every correct replica with record p
pub record Common (kit : Kit) (r : Room) (p : Replica) : Type 0 where
  pub once : Once p.noted
  pub submitted : (i q : ℕ) → nth p.noted i ≡ Some q → holds q r.submitted ≡ true
  pub held_backed : (h : ℕ) → p.held ≡ Some h → Backed kit r h
  pub running_holds-none : is_running p.condition ≡ true → p.held ≡ None
  pub closed_holds : is_closed p.condition ≡ true → (h : ℕ) × (p.held ≡ Some h)
  pub pairs_few : length p.pair_marks ≤ length p.noted

-- a HISTORY that a replica issued is the last on its counter, and is of the history that it holds
abbrev pub HistoryLast : Option ℕ → List Content → Type 0
HistoryLast held issued = (i h : ℕ) → nth issued i ≡ Some (History h) → (suc i ≡ length issued) × (held ≡ Some h)

-- of an active one, x, that issued `ags` on ag and `ups` on up and has settled c but for a closing
pub record Active (kit : Kit) (r : Room) (x : ℕ) (p : Replica) (ags ups : List Content) (c : ℕ) : Type 0 where
  pub prepared : (i q : ℕ) → nth p.noted i ≡ Some q → nth (r.counter kit.leader ag) i ≡ Some (Prepare q)
  pub committed : x ≢ kit.leader → (i q : ℕ) → nth p.noted i ≡ Some q → nth ags i ≡ Some (Commit q (suc i))
  pub ag_total_lem : p.held ≡ None → length ags ≡ length p.noted
  pub leader_accepted : x ≢ kit.leader → p.held ≡ None → p.accepted kit.leader ag ≡ length p.noted
  pub commits_seen : (y : ℕ) → y ≢ kit.leader → (i : ℕ) → i < p.accepted y ag
      → (q : ℕ) × (nth p.noted i ≡ Some q) × (nth (r.counter y ag) i ≡ Some (Commit q (suc i)))
  pub updates_settled : (i q m : ℕ) → nth ups i ≡ Some (Update q m) → nth (settled_noted kit x p (length ags)) i ≡ Some q
  pub up_total : p.held ≡ None → length ups ≡ c
  pub mark_settled : is_closed p.condition ≡ false → p.mark ≡ mark_of (take c p.noted)
  pub updates_marked : (i : ℕ) → i < c
      → (q : ℕ) × (nth p.noted i ≡ Some q) × (nth ups i ≡ Some (Update q (mark_of (take (suc i) p.noted))))
  pub ag_history : HistoryLast p.held ags
  pub up_history : HistoryLast p.held ups

-- of a passive one: below an accepted up value stand UPDATEs of its noted requests
pub record Passive (kit : Kit) (r : Room) (p : Replica) : Type 0 where
  pub updated : (y i : ℕ) → i < p.accepted y up → (q : ℕ) × (m : ℕ) × (nth p.noted i ≡ Some q) × (nth (r.counter y up) i ≡ Some (Update q m))
  pub paired : length p.pair_marks ≡ length p.noted

-- one replica's part; its counters ag and up are at most one longer than its noted requests
pub record Part (kit : Kit) (r : Room) (x : ℕ) (p : Replica) (ags ups : List Content) : Type 0 where
  pub common : Common kit r p
  pub active : is_active kit x ≡ true → Active kit r x p ags ups (settled_count kit x p (length ags))
  pub passive : is_active kit x ≡ false → Passive kit r p
  pub ag_few : length ags ≤ suc (length p.noted)
  pub up_few : length ups ≤ suc (length p.noted)

-- the parts of the correct replicas; how long every filed history is; which replicas are faulty never changes
pub record Invariant (kit : Kit) (r : Room) : Type 0 where
  pub part : (x : ℕ) → is_marked_faulty kit x ≡ false → Part kit r x (r.replica x) (r.counter x ag) (r.counter x up)
  pub histories_fit : (i : ℕ) (h : Filing) → nth r.histories i ≡ Some h → FilingBounds h
  pub submissions : Submissions r.submitted r.ticks
  pub faulty_marked : (x : ℕ) → is_faulty (r.replica x).condition ≡ is_marked_faulty kit x

-- ---- growth keeps a replica's part

module _ (kit : Kit) {r r₁ : Room} (g : Grows r r₁) where
  pub backed_grows : {h : ℕ} → Backed kit r h → Backed kit r₁ h
  backed_grows {h} w =
      record {
        filing = w.filing;
        is_filed_lem = g.filings _ _ w.is_filed_lem;
        announced = g.counters _ _ _ _ w.announced;
        commits_below = λ i l. let t = w.commits_below i l in (t.0, t.1, g.counters _ _ _ _ t.2);
        prepared = λ i q l n. g.counters _ _ _ _ (w.prepared i q l n);
        long = w.long;
        once = w.once;
        submitted = λ i q n. still_submitted g q (w.submitted i q n);
      }

  pub common_grows : {p : Replica} → Common kit r p → Common kit r₁ p
  common_grows c =
      record {
        once = c.once;
        submitted = λ i q n. still_submitted g q (c.submitted i q n);
        held_backed = λ h e. backed_grows (c.held_backed h e);
        running_holds-none = c.running_holds-none;
        closed_holds = c.closed_holds;
        pairs_few = c.pairs_few;
      }

  pub active_grows : {x : ℕ} {p : Replica} {ags ups : List Content} {c : ℕ} → Active kit r x p ags ups c → Active kit r₁ x p ags ups c
  active_grows a =
      record {
        prepared = λ i q n. g.counters _ _ _ _ (a.prepared i q n);
        committed = a.committed;
        ag_total_lem = a.ag_total_lem;
        leader_accepted = a.leader_accepted;
        commits_seen = λ y d i l. let t = a.commits_seen y d i l in (t.0, t.1, g.counters _ _ _ _ t.2);
        updates_settled = a.updates_settled;
        up_total = a.up_total;
        mark_settled = a.mark_settled;
        updates_marked = a.updates_marked;
        ag_history = a.ag_history;
        up_history = a.up_history;
      }

  pub passive_grows : {p : Replica} → Passive kit r p → Passive kit r₁ p
  passive_grows a = record { updated = λ y i l. let t = a.updated y i l in (t.0, t.1, t.2, g.counters _ _ _ _ t.3); paired = a.paired }

  pub part_grows : {x : ℕ} {p : Replica} {ags ups : List Content} → Part kit r x p ags ups → Part kit r₁ x p ags ups
  part_grows l =
      record {
        common = common_grows l.common;
        active = λ e. active_grows (l.active e);
        passive = λ e. passive_grows (l.passive e);
        ag_few = l.ag_few;
        up_few = l.up_few;
      }
