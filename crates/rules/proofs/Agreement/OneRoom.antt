-- What the invariant says of the settled lists of one room: they agree, have no repeats and were submitted. The steps: (A) two backed histories
-- are the same one; (B) a correct replica that is not closed has settled at most k of a backed history, as the front of its list; (C) what a
-- passive one settled is the front of what a correct active one settled, and there is one; (D) so closing only lengthens a list.
-- Assumes nothing.
use Rattle.std.specs.Prelude.{◌≡◌, true, false, ◌≢◌, List, ℕ, ◌<◌, ltb, Some}
use Rattle.std.proofs.Common.{sym, ◌∙◌, ⊎_elim, arith, ltb-true, ltb-false}
use Rattle.terms.specs.Limits.{ag, up}
use Rattle.terms.specs.Lists.{nth, holds, Once, Sub, Agree}
use Rattle.terms.specs.ListLaws.{split, no_way, nth-lt, nth_in, tri, same?}
use Rattle.terms.specs.Kit.{Kit}
use Rattle.terms.specs.declared.Content.TheVariants.{Prepare}
use Rattle.rules.specs.Table.{is_active, is_marked_faulty, switch_leader}
use Rattle.rules.proofs.Laws.TableLaws.{Roles}
use Rattle.rules.specs.Room.{Room}
use Rattle.rules.specs.Reading.{is_closed, is_faulty, settled_count, settled_noted, settled, held_list, ag_total}
use Rattle.rules.proofs.Laws.ReadingLaws.{settled_count_active, settled_count_passive, settled_noted_at, closed_correct}
use Rattle.rules.proofs.Agreement.Invariant.{Backed, Common, Active, Invariant}

-- (A) two backed histories are one: at the smaller k+1 stands a HISTORY where the other has a COMMIT
pub backed_one : (kit : Kit) (r : Room) (h h₁ : ℕ) → Backed kit r h → Backed kit r h₁ → h ≡ h₁
backed_one kit r h h₁ w v =
    ⊎_elim (λ l. absurd (clash w v l)) (λ s. ⊎_elim (λ l. absurd (clash v w l)) (λ e. same e) s) (tri w.filing.k v.filing.k)
  where
    clash : {a b : ℕ} (w : Backed kit r a) (v : Backed kit r b) → w.filing.k < v.filing.k → ⊥
    clash w v l = let t = v.commits_below _ l in no_way (cc (w.announced, t.2))

    same : w.filing.k ≡ v.filing.k → h ≡ h₁
    same e = cc (w.announced, v.announced)

-- what x has settled as long as it is not closed
abbrev pub open_list : Kit → Room → ℕ → List ℕ
open_list kit r x = settled_noted kit x (r.replica x) (ag_total r x)

-- the list of a closed replica is that of the history that it holds; that of another correct one is its open list
pub settled_closed : (kit : Kit) (r : Room) (x : ℕ) → is_closed (r.replica x).condition ≡ true → (c : Common kit r (r.replica x))
    → (h : ℕ) × (w : Backed kit r h) × ((r.replica x).held ≡ Some h) × (settled kit r x ≡ w.filing.list)
unfolding settled held_list
settled_closed kit r x e c =
    let h = c.closed_holds e in
    let w = c.held_backed h.0 h.1 in
    (h.0, w, h.1, rw (closed_correct (r.replica x).condition e, e, h.1, w.is_filed_lem))

pub settled_open : (kit : Kit) (r : Room) (x : ℕ) → is_faulty (r.replica x).condition ≡ false → is_closed (r.replica x).condition ≡ false
    → settled kit r x ≡ open_list kit r x
unfolding settled
settled_open kit r x z e = rw (z, e)

module _ (kit : Kit) (roles : Roles kit) (r : Room) (all : Invariant kit r) where
  -- (C) a passive replica's list is the front of each correct active one's
  passive_in_active : (x y : ℕ) → is_marked_faulty kit x ≡ false → is_active kit x ≡ false → is_marked_faulty kit y ≡ false → is_active kit y ≡ true
      → Sub (open_list kit r x) (open_list kit r y)
  passive_in_active x y fx ax fy ay i q e =
      let c = settled_noted_at kit x (r.replica x) _ i q e in
      let b = settled_count_passive kit x (r.replica x) (ag_total r x) y ax (roles.active_listed y ay) in
      let t = ((all.part x fx).passive ax).updated y i (omega arith) in
      let s = ((all.part y fy).active ay).updates_settled i t.0 t.1 t.3 in
      let z : t.0 ≡ q = cc in
      rw z at s

  -- every open list follows the leader's PREPAREs
  pub open_prepared : (x : ℕ) → is_marked_faulty kit x ≡ false → (i q : ℕ) → nth (open_list kit r x) i ≡ Some q
      → nth (r.counter kit.leader ag) i ≡ Some (Prepare q)
  open_prepared x fx i q e =
      split (is_active kit x) (λ a. ((all.part x fx).active a).prepared i q (settled_noted_at kit x (r.replica x) _ i q e).1)
      (λ a. let h = roles.some_correct in
      ((all.part h.0 h.2).active h.1).prepared i q (settled_noted_at kit h.0 (r.replica h.0) _ i q
      (passive_in_active x h.0 fx a h.2 h.1 i q e)).1)

  -- (B) x has seen fewer than k of the switch leader's values: value k+1 is no COMMIT
  active_below : (x : ℕ) → is_marked_faulty kit x ≡ false → is_active kit x ≡ true → {h : ℕ} (w : Backed kit r h) (i q : ℕ)
      → nth (open_list kit r x) i ≡ Some q → i < w.filing.k
  active_below x fx a w i q e = ⊎_elim own other (same? x (switch_leader kit))
    where
      l : Active kit r x (r.replica x) (r.counter x ag) (r.counter x up) (settled_count kit x (r.replica x) (ag_total r x))
      l = (all.part x fx).active a

      c : (i < settled_count kit x (r.replica x) (ag_total r x)) × (nth (r.replica x).noted i ≡ Some q)
      c = settled_noted_at kit x (r.replica x) _ i q e

      own : x ≡ switch_leader kit → i < w.filing.k
      own d =
          split (ltb i w.filing.k) (λ b. ltb-true i w.filing.k b) λ b.
          let n = nth_in (r.replica x).noted w.filing.k (omega (arith, ltb-false i w.filing.k b, nth-lt (r.replica x).noted i c.1)) in
          let s = l.committed (λ z. roles.switch_not_leader (sym d ∙ z)) w.filing.k n.0 n.1 in
          no_way (cc w.announced)

      other : x ≢ switch_leader kit → i < w.filing.k
      other d =
          split (ltb i w.filing.k) (λ b. ltb-true i w.filing.k b) λ b.
          let n = settled_count_active kit x (r.replica x) (ag_total r x) (switch_leader kit) a
          (roles.active_listed (switch_leader kit) roles.switch_active) (λ z. d (sym z)) in
          let s = l.commits_seen (switch_leader kit) roles.switch_not_leader w.filing.k (omega (arith, ltb-false i w.filing.k b, c.0)) in
          no_way (cc (w.announced, s.2))

  pub open_below : (x : ℕ) → is_marked_faulty kit x ≡ false → {h : ℕ} (w : Backed kit r h) (i q : ℕ) → nth (open_list kit r x) i ≡ Some q
      → i < w.filing.k
  open_below x fx w i q e =
      split (is_active kit x) (λ a. active_below x fx a w i q e)
      (λ a. let h = roles.some_correct in active_below h.0 h.2 h.1 w i q (passive_in_active x h.0 fx a h.2 h.1 i q e))

  -- so it agrees with a backed history
  pub open_agrees : (x : ℕ) → is_marked_faulty kit x ≡ false → {h : ℕ} (w : Backed kit r h) → Agree (open_list kit r x) w.filing.list
  open_agrees x fx w i a b e d =
      let l = w.prepared i b (open_below x fx w i a e) d in
      cc (open_prepared x fx i a e)

  pub closed_list : (x : ℕ) → is_marked_faulty kit x ≡ false → is_closed (r.replica x).condition ≡ true
      → (h : ℕ) × (w : Backed kit r h) × (settled kit r x ≡ w.filing.list)
  closed_list x fx c = let s = settled_closed kit r x c (all.part x fx).common in (s.0, s.1, s.3)

  open_list_lem : (x : ℕ) → is_marked_faulty kit x ≡ false → is_closed (r.replica x).condition ≡ false → settled kit r x ≡ open_list kit r x
  open_list_lem x fx c = settled_open kit r x (all.faulty_marked x ∙ fx) c

  pub settled_agree : (x y : ℕ) → is_marked_faulty kit x ≡ false → is_marked_faulty kit y ≡ false → Agree (settled kit r x) (settled kit r y)
  settled_agree x y fx fy =
      split (is_closed (r.replica x).condition)
      (λ cx. let s = closed_list x fx cx in
      split (is_closed (r.replica y).condition)
      (λ cy. let t = closed_list y fy cy in
      let z : s.1.filing ≡ t.1.filing = cc (backed_one kit r s.0 t.0 s.1 t.1, s.1.is_filed_lem, t.1.is_filed_lem) in
      rw (s.2, t.2, z) λ i a b e d. cc)
      (λ cy. rw (s.2, open_list_lem y fy cy) λ i a b e d. sym (open_agrees y fy s.1 i b a d e)))
      (λ cx. split (is_closed (r.replica y).condition)
      (λ cy. let t = closed_list y fy cy in rw (t.2, open_list_lem x fx cx) (open_agrees x fx t.1))
      (λ cy. rw (open_list_lem x fx cx, open_list_lem y fy cy) λ i a b e d. cc (open_prepared x fx i a e, open_prepared y fy i b d)))

  pub settled_once : (x : ℕ) → is_marked_faulty kit x ≡ false → Once (settled kit r x)
  settled_once x fx =
      split (is_closed (r.replica x).condition) (λ cx. let s = closed_list x fx cx in rw s.2 s.1.once)
      (λ cx. rw (open_list_lem x fx cx) λ i j a e d.
      (all.part x fx).common.once i j a (settled_noted_at kit x (r.replica x) _ i a e).1 (settled_noted_at kit x (r.replica x) _ j a d).1)

  pub settled_submitted : (x : ℕ) → is_marked_faulty kit x ≡ false → (i q : ℕ) → nth (settled kit r x) i ≡ Some q → holds q r.submitted ≡ true
  settled_submitted x fx =
      split (is_closed (r.replica x).condition) (λ cx. let s = closed_list x fx cx in rw s.2 s.1.submitted)
      (λ cx. rw (open_list_lem x fx cx) λ i q e. (all.part x fx).common.submitted i q (settled_noted_at kit x (r.replica x) _ i q e).1)

  -- (D) an open list is the front of every backed history's
  pub open_in_backed : (x : ℕ) → is_marked_faulty kit x ≡ false → {h : ℕ} (w : Backed kit r h) → Sub (open_list kit r x) w.filing.list
  open_in_backed x fx w i q e =
      let l = open_below x fx w i q e in
      let n = nth_in w.filing.list i (omega (arith, w.long)) in
      rw (open_agrees x fx w i q n.0 e n.1) n.1

  -- and so the list of every correct replica is the front of the list of one that is closed
  pub settled_in_closed : (x y : ℕ) → is_marked_faulty kit x ≡ false → is_marked_faulty kit y ≡ false → is_closed (r.replica y).condition ≡ true
      → Sub (settled kit r x) (settled kit r y)
  settled_in_closed x y fx fy cy =
      let t = closed_list y fy cy in
      split (is_closed (r.replica x).condition)
      (λ cx. let s = closed_list x fx cx in
      let z : s.1.filing ≡ t.1.filing = cc (backed_one kit r s.0 t.0 s.1 t.1, s.1.is_filed_lem, t.1.is_filed_lem) in
      rw (s.2, t.2, z) λ i q e. e)
      (λ cx. rw (open_list_lem x fx cx, t.2) (open_in_backed x fx t.1))
