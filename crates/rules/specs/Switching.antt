-- The way to the fall-back: PANIC reaches a replica (kind 5), the switch leader builds its history (kind 7), which is handed to the others
-- (kind 4). Of each, what is decided and what is then done. Assumes nothing.
use Rattle.std.specs.Prelude.{Bool, false, not, ◌&&◌, ◌||◌, List, [], ◌∷◌, ◌++◌, ℕ, suc, length, take, eqb, Option, None, Some, Ok}
use Rattle.terms.specs.Limits.{ag, up, sw}
use Rattle.terms.specs.Lists.{pick, holds, distinct, all_of, all_below, is_some}
use Rattle.terms.specs.Mark.{mark_of}
use Rattle.terms.specs.Kit.{Kit}
use Rattle.terms.specs.declared.Content.{Content}
use Rattle.terms.specs.declared.Content.TheVariants.{Prepare, Commit, Update, History, Switch}
use Rattle.terms.specs.declared.Condition.{Condition}
use Rattle.terms.specs.declared.Condition.TheVariants.{Halted}
use Rattle.terms.specs.declared.Refusal.TheVariants.{NotIssued, ReceiverFaulty, TooLate, TooEarly, WrongRoles, NotValid, CannotBuild}
use Rattle.terms.specs.declared.Act.TheVariants as Act
use Rattle.terms.specs.Numbers.{Decision}
use Rattle.terms.specs.declared.Deed.{Deed}
use Rattle.rules.specs.Table.{actives, switch_leader}
use Rattle.rules.specs.Room.{Filing, Room, with_replica, with_condition, with_history, hold, issue}
use Rattle.rules.specs.Reading.{is_running, is_closed, is_faulty, entry_at, content_at, is_content, first_of, ag_total, settled_count}
use Rattle.rules.specs.Outcome.{refuse_if}

-- ---- kind 5: a running correct replica halts

-- by the receiver's condition
unfoldable pub decide_panic : Condition → Decision
decide_panic condition =
    refuse_if (is_faulty condition) ReceiverFaulty
    (refuse_if (not (is_running condition)) TooLate
    (Ok (Deed.Act Act.Panic)))

unfoldable pub after_panic : Room → ℕ → Room
after_panic r to = with_replica r to (with_condition (r.replica to) Halted)

-- ---- kind 7: build

-- the submitted requests that are not noted, in order of submission
abbrev pub missing : List ℕ → List ℕ → List ℕ
missing noted [] = []
missing noted (q ∷ qs) = pick (holds q noted) (missing noted qs) (q ∷ missing noted qs)

-- the noted requests of switch leader s, then the submitted ones not noted
unfoldable pub built_list : Room → ℕ → List ℕ
built_list r s = (r.replica s).noted ++ missing (r.replica s).noted r.submitted

-- k is its ag total, j its settled count
unfoldable pub built : Kit → Room → Filing
built kit r =
    let s = switch_leader kit in
    record { j = settled_count kit s (r.replica s) (ag_total r s); k = ag_total r s; list = built_list r s }

-- by its condition and the history that it holds
unfoldable pub decide_build : Condition → Option ℕ → ℕ → ℕ → Decision
decide_build condition held j k = refuse_if (is_faulty condition || (is_running condition || is_some held)) CannotBuild (Ok (Deed.Build j k))

-- the history is filed, HISTORY issued on ag and up, held, SWITCH issued on sw
unfoldable pub after_build : Room → ℕ → Filing → Room
after_build r s filing =
    let h = length r.histories in
    let p = r.replica s in
    issue (issue (issue (with_replica (with_history r filing r.filed) s (hold p h)) s ag (History h)) s up (History h)) s sw (Switch h)

-- ---- kind 4: hand

-- for i to k: the switch leader's ag value i is COMMIT of request i and i, the leader's is PREPARE of it
unfoldable pub is_committed : Kit → Room → List ℕ → ℕ → Bool
is_committed kit r list i =
    let request = entry_at list i in
    is_content (content_at (r.counter (switch_leader kit) ag) i) (Commit request i)
    && is_content (content_at (r.counter kit.leader ag) i) (Prepare request)

-- for i to j: every other active replica's ag value i is that COMMIT too, leader excepted, and the switch leader's up value i is UPDATE of
-- request i with the mark of the first i
unfoldable pub is_settled_by : Kit → Room → List ℕ → ℕ → Bool
is_settled_by kit r list i =
    let request = entry_at list i in
    all_of (actives kit)
    (λ y. eqb y kit.leader || (eqb y (switch_leader kit) || is_content (content_at (r.counter y ag) i) (Commit request i)))
    && is_content (content_at (r.counter (switch_leader kit) up) i) (Update request (mark_of (take i list)))

-- history h = (j, k, list) at the switch leader's ag value p and up value q
unfoldable pub is_valid : Kit → Room → ℕ → ℕ → ℕ → Filing → Bool
is_valid kit r p q h filing =
    is_content (content_at (r.counter (switch_leader kit) ag) p) (History h)
    && (is_content (content_at (r.counter (switch_leader kit) up) q) (History h)
    && (eqb p (suc filing.k)
    && (eqb q (suc filing.j)
    && (all_below filing.k (λ i. is_committed kit r filing.list (suc i))
    && (all_below filing.j (λ i. is_settled_by kit r filing.list (suc i))
    && (all_of filing.list (λ request. holds request r.submitted) && distinct filing.list))))))

abbrev pub is_valid_filing : Kit → Room → ℕ → ℕ → ℕ → Option Filing → Bool
is_valid_filing kit r p q h None = false
is_valid_filing kit r p q h (Some filing) = is_valid kit r p q h filing

-- once both certificates are known to be issued, the one on ag of history h: by the receiver's condition, the history that it holds, and whether h
-- is valid
unfoldable pub decide_hold : Condition → Option ℕ → Bool → ℕ → ℕ → ℕ → Decision
decide_hold condition held valid switcher to h =
    refuse_if (is_some held || is_closed condition) TooLate
    (refuse_if (is_running condition) TooEarly
    (refuse_if (eqb to switcher) WrongRoles
    (refuse_if (not valid) NotValid
    (Ok (Deed.Act (Act.Hand h))))))

-- the switch leader, the receiver, what the switch leader's ag value and up value are bound to, if they were issued, and which histories are valid at them
pub record Handing : Type 0 where
  pub switcher : ℕ
  pub to : ℕ
  pub first : Option Content
  pub second : Option Content
  pub valid : ℕ → Bool

-- by the receiver's condition and the history that it holds
unfoldable pub decide_hand : Condition → Option ℕ → Handing → Decision
decide_hand condition held d =
    let h = first_of d.first in
    refuse_if (is_faulty condition) ReceiverFaulty
    (refuse_if (not (is_some d.first && is_some d.second)) NotIssued
    (decide_hold condition held (d.valid h) d.switcher d.to h))

-- the receiver holds h and issues SWITCH of it on sw
unfoldable pub after_hand : Room → ℕ → ℕ → Room
after_hand r to h = issue (with_replica r to (hold (r.replica to) h)) to sw (Switch h)
