-- One replica's part of the invariant through each change of its record and of its own ag and up lists. In order: an active replica notes, prepares,
-- commits, submits, settles, holds, builds (`active-…`); the part that all have, as a replica halts, holds and closes (`common-…`); a passive replica
-- (`passive-…`). Assumes nothing.
use Rattle.std.specs.Prelude.{◌≡◌, refl, true, false, ◌≢◌, List, [], ◌∷◌, ◌++◌, ℕ, suc, ◌≤◌, ◌<◌, length, take, get_or, eqb, ltb, Option, None, Some}
use Rattle.std.proofs.Common.{sym, ap, ◌∙◌, ⊎_elim, arith, ltb-true, ltb-false, eqb-true}
use Rattle.std.proofs.lemmas.List.{take-append-le}
use Rattle.terms.specs.Limits.{ag, up}
use Rattle.terms.specs.Lists.{nth, holds, Sub}
use Rattle.terms.specs.ListLaws.{split, no_way, same?, nth-append, nth_full, nth-snoc, nth-snoc_inv, take_nth, nth-get_or}
use Rattle.terms.specs.ListLaws.{length-snoc, once-snoc}
use Rattle.terms.specs.Mark.{next_mark, mark_of}
use Rattle.terms.specs.MarkLaws.{mark_next}
use Rattle.terms.specs.Kit.{Kit}
use Rattle.terms.specs.declared.Content.{Content}
use Rattle.terms.specs.declared.Content.TheVariants.{Prepare, Commit, Update, History}
use Rattle.terms.specs.declared.Condition.TheVariants.{Halted, Closed}
use Rattle.rules.specs.Table.{is_active, switch_leader}
use Rattle.rules.specs.Room.{Room, Replica, put2, note, accept, with_mark, with_condition, hold}
use Rattle.rules.proofs.Laws.RoomLaws.{accepted_at, accepted_other}
use Rattle.rules.specs.Reading.{is_running, is_closed, settled_count, settled_noted}
use Rattle.rules.proofs.Laws.ReadingLaws.{settled_count_rises, settled_count_own, settled_noted_rises}
use Rattle.rules.proofs.Laws.Growth.{Grows, still_submitted}
use Rattle.rules.proofs.Agreement.Invariant.{Backed, Common, HistoryLast, Active, Passive, backed_grows}

-- ---- a request is noted

pub common_note : (kit : Kit) {r r₁ : Room} → Grows r r₁ → {p p₁ : Replica} (q : ℕ) → p₁.noted ≡ p.noted ++ (q ∷ []) → p₁.condition ≡ p.condition
    → p₁.held ≡ p.held → length p₁.pair_marks ≤ suc (length p.pair_marks)
    → holds q r₁.submitted ≡ true → holds q p.noted ≡ false → Common kit r p → Common kit r₁ p₁
common_note kit {r} {r₁} g {p} {p₁} q en ec eh lp ms mn c =
    record {
      once = rw en (once-snoc p.noted q c.once mn);
      submitted = λ i a e.
          let z : nth (p.noted ++ (q ∷ [])) i ≡ Some a = rw en at e in
          ⊎_elim (λ h. still_submitted g a (c.submitted i a h)) (λ h. rw (← h.1) ms) (nth-snoc_inv p.noted q i z);
      held_backed = λ h e. backed_grows kit g (c.held_backed h (cc));
      running_holds-none = λ e. eh ∙ c.running_holds-none (rw ec at e);
      closed_holds = λ e. let h = c.closed_holds (rw ec at e) in (h.0, eh ∙ h.1);
      pairs_few = rw en (omega (arith, length-snoc p.noted q, c.pairs_few));
    }

-- a content other than HISTORY is issued by one that holds nothing
history_none : (held : Option ℕ) (issued : List Content) (c : Content) → held ≡ None → ((h : ℕ) → c ≢ History h) → HistoryLast held issued
    → HistoryLast held (issued ++ (c ∷ []))
history_none held issued c free other w i h e = ⊎_elim (λ t. no_way (cc ((w i h t).1, free))) (λ t. absurd (other h t.1)) (nth-snoc_inv issued c i e)

-- HISTORY of what it now holds
history_now : (held : Option ℕ) (issued : List Content) (n : ℕ) → held ≡ None → HistoryLast held issued
    → HistoryLast (Some n) (issued ++ (History n ∷ []))
history_now held issued n free w i h e =
    ⊎_elim (λ t. no_way (cc ((w i h t).1, free))) (λ t. (omega (arith, t.0, length-snoc issued (History n)), cc t.1))
    (nth-snoc_inv issued (History n) i e)

module _ {kit : Kit} {r : Room} {x : ℕ} {p : Replica} {ags ups : List Content} {c : ℕ} (a : Active kit r x p ags ups c) where
  -- what it has accepted of another than the leader, and what it has settled, it has noted
  pub seen_within : (y : ℕ) → y ≢ kit.leader → p.accepted y ag ≤ length p.noted
  seen_within y d = nth_full p.noted (p.accepted y ag) (λ i l. let t = a.commits_seen y d i l in (t.0, t.1))

  pub settled_within : c ≤ length p.noted
  settled_within = nth_full p.noted c (λ i l. let t = a.updates_marked i l in (t.0, t.1))

  -- a request more is noted: the mark and the UPDATEs are of those before it
  module _ (q : ℕ) where
    mark_noted : is_closed p.condition ≡ false → p.mark ≡ mark_of (take c (p.noted ++ (q ∷ [])))
    mark_noted op = a.mark_settled op ∙ ap mark_of (sym (take-append-le c p.noted (q ∷ []) settled_within))

    updates_noted : (i : ℕ) → i < c
        → (b : ℕ) × (nth (p.noted ++ (q ∷ [])) i ≡ Some b) × (nth ups i ≡ Some (Update b (mark_of (take (suc i) (p.noted ++ (q ∷ []))))))
    updates_noted i l =
        let t = a.updates_marked i l in
        (t.0, nth-append p.noted (q ∷ []) i t.1, rw (take-append-le (suc i) p.noted (q ∷ []) (omega (arith, settled_within))) t.2)

-- PREPARE of q as the leader's next value
pub active_prepare : (kit : Kit) {r r₁ : Room} → Grows r r₁ → (x : ℕ) (p : Replica) (ags ups : List Content) (c q v : ℕ)
    → x ≢ kit.leader → p.held ≡ None
    → v ≡ suc (length p.noted) → nth (r.counter kit.leader ag) (length p.noted) ≡ Some (Prepare q)
    → Sub (settled_noted kit x p (length ags)) (settled_noted kit x (accept (note p q) kit.leader ag v) (length (ags ++ (Commit q v ∷ []))))
    → Active kit r x p ags ups c → Active kit r₁ x (accept (note p q) kit.leader ag v) (ags ++ (Commit q v ∷ [])) ups c
unfolding accept note
active_prepare kit {r} {r₁} g x p ags ups c q v xl free ev ep sub a =
    record {
      prepared = λ i b e.
          ⊎_elim (λ h. g.counters _ _ _ _ (a.prepared i b h)) (λ h. g.counters _ _ _ _ (rw (h.0, ← h.1) ep)) (nth-snoc_inv p.noted q i e);
      committed = λ d i b e.
          ⊎_elim (λ h. nth-append ags (Commit q v ∷ []) i (a.committed d i b h))
          (λ h. let z = nth-snoc ags (Commit q v) in rw (h.0, ← h.1, ← ev, ← (a.ag_total_lem free)) z) (nth-snoc_inv p.noted q i e);
      ag_total_lem = λ d. omega (arith, length-snoc ags (Commit q v), length-snoc p.noted q, a.ag_total_lem free);
      leader_accepted = λ d e. rw (accepted_at p.accepted kit.leader ag v kit.leader refl, length-snoc p.noted q) ev;
      commits_seen = λ y d i l.
          let t = a.commits_seen y d i (rw (accepted_other p.accepted kit.leader ag v y ag d) at l) in
          (t.0, nth-append p.noted (q ∷ []) i t.1, g.counters _ _ _ _ t.2);
      updates_settled = λ i b m e. sub i b (a.updates_settled i b m e);
      up_total = a.up_total;
      mark_settled = mark_noted a q;
      updates_marked = updates_noted a q;
      ag_history = history_none p.held ags (Commit q v) free (λ h z. no_way (cc z)) a.ag_history;
      up_history = a.up_history;
    }

-- a COMMIT accepted from s, neither x nor the leader
pub active_commit : (kit : Kit) {r : Room} (x : ℕ) (p : Replica) (ags ups : List Content) (c s b v : ℕ) → s ≢ kit.leader → v ≡ suc (p.accepted s ag)
    → nth p.noted (p.accepted s ag) ≡ Some b
    → nth (r.counter s ag) (p.accepted s ag) ≡ Some (Commit b v)
    → Sub (settled_noted kit x p (length ags)) (settled_noted kit x (accept p s ag v) (length ags))
    → Active kit r x p ags ups c → Active kit r x (accept p s ag v) ags ups c
unfolding accept
active_commit kit {r} x p ags ups c s b v sl ev en es sub a =
    record {
      prepared = a.prepared;
      committed = a.committed;
      ag_total_lem = a.ag_total_lem;
      leader_accepted = λ d e. accepted_other p.accepted s ag v kit.leader ag (λ z. sl (sym z)) ∙ a.leader_accepted d e;
      commits_seen = λ y d i l.
          ⊎_elim (λ z. split (ltb i (p.accepted s ag)) (λ t. a.commits_seen y d i (rw z (ltb-true i (p.accepted s ag) t)))
          (λ t. let w : i < v = rw (accepted_at p.accepted s ag v y z) at l in
          let u : i ≡ p.accepted s ag = omega (arith, ltb-false i (p.accepted s ag) t) in
          (b, rw u en, rw (z, u) (rw ev at es))))
          (λ z. a.commits_seen y d i (rw (accepted_other p.accepted s ag v y ag z) at l)) (same? y s);
      updates_settled = λ i q m e. sub i q (a.updates_settled i q m e);
      up_total = a.up_total;
      mark_settled = a.mark_settled;
      updates_marked = a.updates_marked;
      ag_history = a.ag_history;
      up_history = a.up_history;
    }

-- the leader notes q and issues PREPARE
pub active_submit : (kit : Kit) {r r₁ : Room} → Grows r r₁ → (p : Replica) (ags ups : List Content) (c q : ℕ) → p.held ≡ None
    → r₁.counter kit.leader ag ≡ ags ++ (Prepare q ∷ [])
    → Sub (settled_noted kit kit.leader p (length ags)) (settled_noted kit kit.leader (note p q) (length (ags ++ (Prepare q ∷ []))))
    → Active kit r kit.leader p ags ups c → Active kit r₁ kit.leader (note p q) (ags ++ (Prepare q ∷ [])) ups c
unfolding note
active_submit kit {r} {r₁} g p ags ups c q free er sub a =
    record {
      prepared = λ i b e.
          ⊎_elim (λ h. g.counters _ _ _ _ (a.prepared i b h))
          (λ h. rw (er, h.0, ← h.1, ← (a.ag_total_lem free)) (nth-snoc ags (Prepare q))) (nth-snoc_inv p.noted q i e);
      committed = λ d. absurd (d refl);
      ag_total_lem = λ d. omega (arith, length-snoc ags (Prepare q), length-snoc p.noted q, a.ag_total_lem free);
      leader_accepted = λ d. absurd (d refl);
      commits_seen = λ y d i l. let t = a.commits_seen y d i l in (t.0, nth-append p.noted (q ∷ []) i t.1, g.counters _ _ _ _ t.2);
      updates_settled = λ i b m e. sub i b (a.updates_settled i b m e);
      up_total = a.up_total;
      mark_settled = mark_noted a q;
      updates_marked = updates_noted a q;
      ag_history = history_none p.held ags (Prepare q) free (λ h z. no_way (cc z)) a.ag_history;
      up_history = a.up_history;
    }

-- c rises to d: x executes request c, its mark is m then, and its UPDATE says mark w, which is the same
pub active_rise : (kit : Kit) {r : Room} (x : ℕ) (p : Replica) (ags ups : List Content) (c d m w : ℕ) → is_active kit x ≡ true → p.held ≡ None
    → m ≡ next_mark p.mark (get_or p.noted c 0) → w ≡ m → is_closed p.condition ≡ false
    → d ≡ settled_count kit x p (length ags) → d ≡ suc c
    → Active kit r x p ags ups c
    → Active kit r x (with_mark p m) ags (ups ++ (Update (get_or p.noted c 0) w ∷ [])) (settled_count kit x (with_mark p m) (length ags))
unfolding with_mark settled_noted settled_count
active_rise kit {r} x p ags ups c d m w ax free em ew op ed eo a =
    record {
      prepared = a.prepared;
      committed = a.committed;
      ag_total_lem = a.ag_total_lem;
      leader_accepted = a.leader_accepted;
      commits_seen = a.commits_seen;
      updates_settled = λ i q k e.
          ⊎_elim (λ h. a.updates_settled i q k h)
          (λ h. let u = a.up_total free in
          let b : i ≡ c = cc in
          let z : get_or p.noted c 0 ≡ q = cc in
          take_nth (settled_count kit x p (length ags)) p.noted i (omega arith) (rw (b, ← z) (nth-get_or p.noted c 0 within)))
          (nth-snoc_inv ups _ i e);
      up_total = λ h. omega (arith, length-snoc ups (Update (get_or p.noted c 0) w), a.up_total free);
      mark_settled = λ h. rw (← ed, eo) marked;
      updates_marked = λ i l.
          split (ltb i c)
          (λ t. let u = a.updates_marked i (ltb-true i c t) in (u.0, u.1, nth-append ups _ i u.2))
          (λ t. let z : i ≡ c = omega (arith, ltb-false i c t, ed, eo) in
          (get_or p.noted c 0, rw z (nth-get_or p.noted c 0 within), rw (z, ← marked, ← ew, ← (a.up_total free)) (nth-snoc ups _)));
      ag_history = a.ag_history;
      up_history = history_none p.held ups _ free (λ h z. no_way (cc z)) a.up_history;
    }
  where
    within : c < length p.noted
    within = omega (arith, settled_count_own kit x p (length ags) ax, a.ag_total_lem free, ed, eo)

    marked : m ≡ mark_of (take (suc c) p.noted)
    marked = em ∙ ap (λ (k : ℕ). next_mark k (get_or p.noted c 0)) (a.mark_settled op) ∙ sym (mark_next p.noted c within)

-- where nothing changes that is read here
pub active_same : (kit : Kit) {r : Room} (x : ℕ) (p p₁ : Replica) (ags ups : List Content) → p₁.noted ≡ p.noted → p₁.held ≡ p.held
    → ((y : ℕ) → p₁.accepted y ag ≡ p.accepted y ag)
    → (is_closed p₁.condition ≡ false → (is_closed p.condition ≡ false) × (p₁.mark ≡ p.mark))
    → settled_count kit x p₁ (length ags) ≡ settled_count kit x p (length ags)
    → Active kit r x p ags ups (settled_count kit x p (length ags)) → Active kit r x p₁ ags ups (settled_count kit x p₁ (length ags))
unfolding settled_noted
active_same kit x p p₁ ags ups en eh ea em es a =
    record {
      prepared = rw en a.prepared;
      committed = rw en a.committed;
      ag_total_lem = λ e. rw en (a.ag_total_lem (sym eh ∙ e));
      leader_accepted = λ d e. rw (ea kit.leader, en) (a.leader_accepted d (sym eh ∙ e));
      commits_seen = λ y d i l. rw en (a.commits_seen y d i (rw (ea y) at l));
      updates_settled = λ i q m e. rw (es, en) (a.updates_settled i q m e);
      up_total = λ e. a.up_total (sym eh ∙ e) ∙ sym es;
      mark_settled = λ e. let t = em e in t.1 ∙ rw (es, en) (a.mark_settled t.0);
      updates_marked = λ i l. rw en (a.updates_marked i (rw es at l));
      ag_history = rw eh a.ag_history;
      up_history = rw eh a.up_history;
    }

-- a history is held
pub active_hold : (kit : Kit) {r : Room} (x : ℕ) (p : Replica) (ags ups : List Content) (c h : ℕ) → p.held ≡ None → Active kit r x p ags ups c
    → Active kit r x (hold p h) ags ups c
unfolding hold settled_noted settled_count
active_hold kit {r} x p ags ups c h free a =
    record {
      prepared = a.prepared;
      committed = a.committed;
      ag_total_lem = λ e. no_way (cc);
      leader_accepted = λ z e. no_way (cc);
      commits_seen = a.commits_seen;
      updates_settled = a.updates_settled;
      up_total = λ e. no_way (cc);
      mark_settled = a.mark_settled;
      updates_marked = a.updates_marked;
      ag_history = λ i g e. no_way (cc ((a.ag_history i g e).1, free));
      up_history = λ i g e. no_way (cc ((a.up_history i g e).1, free));
    }

-- the switch leader issues HISTORY on ag and up
pub active_build : (kit : Kit) {r : Room} (p : Replica) (ags ups : List Content) (c h : ℕ) → p.held ≡ None
    → Active kit r (switch_leader kit) p ags ups c → Active kit r (switch_leader kit) (hold p h) (ags ++ (History h ∷ [])) (ups ++ (History h ∷ [])) c
unfolding hold
active_build kit {r} p ags ups c h free a =
    record {
      prepared = a.prepared;
      committed = λ z i q e. nth-append ags (History h ∷ []) i (a.committed z i q e);
      ag_total_lem = λ e. no_way (cc);
      leader_accepted = λ z e. no_way (cc);
      commits_seen = a.commits_seen;
      updates_settled = λ i q m e.
          ⊎_elim (λ t. settled_noted_rises kit (switch_leader kit) p (hold p h) (length ags) (length (ags ++ (History h ∷ []))) (λ j b f. f)
          (settled_count_rises kit (switch_leader kit) p (hold p h) (length ags) (length (ags ++ (History h ∷ [])))
          (omega (arith, length-snoc ags (History h))) (λ y n. omega arith)) i q (a.updates_settled i q m t))
          (λ t. no_way (cc t.1)) (nth-snoc_inv ups (History h) i e);
      up_total = λ e. no_way (cc);
      mark_settled = a.mark_settled;
      updates_marked = λ i l. let t = a.updates_marked i l in (t.0, t.1, nth-append ups (History h ∷ []) i t.2);
      ag_history = history_now p.held ags h free a.ag_history;
      up_history = history_now p.held ups h free a.up_history;
    }

-- where nothing is held both counters are as long as what is noted and settled
pub active_few : (kit : Kit) {r : Room} (x : ℕ) (p : Replica) (ags ups : List Content) → is_active kit x ≡ true → p.held ≡ None
    → Active kit r x p ags ups (settled_count kit x p (length ags)) → (length ags ≤ suc (length p.noted)) × (length ups ≤ suc (length p.noted))
active_few kit x p ags ups ax free a =
    let t = a.ag_total_lem free in
    (omega arith, omega (arith, a.up_total free, settled_count_own kit x p (length ags) ax))

-- ---- the part that all have

pub common_same : (kit : Kit) {r : Room} {p p₁ : Replica} → p₁.noted ≡ p.noted → p₁.condition ≡ p.condition → p₁.held ≡ p.held
    → p₁.pair_marks ≡ p.pair_marks → Common kit r p → Common kit r p₁
common_same kit {r} {p} {p₁} en ec eh ep c =
    record {
      once = rw en c.once;
      submitted = λ i q e. c.submitted i q (rw en at e);
      held_backed = λ h e. c.held_backed h (cc);
      running_holds-none = λ e. eh ∙ c.running_holds-none (rw ec at e);
      closed_holds = λ e. let h = c.closed_holds (rw ec at e) in (h.0, eh ∙ h.1);
      pairs_few = rw (en, ep) c.pairs_few;
    }

pub common_halt : (kit : Kit) {r : Room} (p : Replica) → Common kit r p → Common kit r (with_condition p Halted)
unfolding with_condition
common_halt kit p c =
    record {
      once = c.once;
      submitted = c.submitted;
      held_backed = c.held_backed;
      running_holds-none = λ e. no_way (cc);
      closed_holds = λ e. no_way (cc);
      pairs_few = c.pairs_few;
    }

pub common_close : (kit : Kit) {r : Room} (p : Replica) (h : ℕ) → p.held ≡ Some h → Common kit r p → Common kit r (with_condition p Closed)
unfolding with_condition
common_close kit p h eh c =
    record {
      once = c.once;
      submitted = c.submitted;
      held_backed = c.held_backed;
      running_holds-none = λ e. no_way (cc);
      closed_holds = λ e. (h, eh);
      pairs_few = c.pairs_few;
    }

pub common_hold : (kit : Kit) {r : Room} (p : Replica) (h : ℕ) → is_running p.condition ≡ false → Backed kit r h → Common kit r p
    → Common kit r (hold p h)
unfolding hold
common_hold kit p h er w c =
    record {
      once = c.once;
      submitted = c.submitted;
      held_backed = λ g e. let z : h ≡ g = cc in rw z at w;
      running_holds-none = λ e. no_way (cc);
      closed_holds = λ e. (h, refl);
      pairs_few = c.pairs_few;
    }

-- ---- a passive replica

pub passive_same : (kit : Kit) {r : Room} {p p₁ : Replica} → p₁.noted ≡ p.noted → p₁.pair_marks ≡ p.pair_marks
    → ((y : ℕ) → p₁.accepted y up ≡ p.accepted y up)
    → Passive kit r p → Passive kit r p₁
passive_same kit {r} {p} {p₁} en em ea a = record { updated = λ y i l. rw en (a.updated y i (rw (ea y) at l)); paired = rw (en, em) a.paired }

-- UPDATE of q accepted from s as its next value, and q stands there
pub passive_accept : (kit : Kit) {r : Room} (p p₁ : Replica) (s v q m : ℕ) → Sub p.noted p₁.noted → length p₁.pair_marks ≡ length p₁.noted
    → p₁.accepted ≡ put2 p.accepted s up v → v ≡ suc (p.accepted s up)
    → nth p₁.noted (p.accepted s up) ≡ Some q → nth (r.counter s up) (p.accepted s up) ≡ Some (Update q m) → Passive kit r p → Passive kit r p₁
passive_accept kit {r} p p₁ s v q m sub ep ea ev en eu a =
    record {
      updated = λ y i l.
          let l₁ : i < put2 p.accepted s up v y up = rw ea at l in
          split (ltb i (p.accepted y up))
          (λ t. let h = a.updated y i (ltb-true i (p.accepted y up) t) in (h.0, h.1, sub i _ h.2, h.3))
          (λ t. split (eqb y s)
          (λ w. let z = eqb-true y s w in
          let l₂ : i < v = rw w at l₁ in
          let u : i ≡ p.accepted s up = omega (arith, rw z at (ltb-false i (p.accepted y up) t)) in
          (q, m, rw u en, rw (z, u) eu))
          (λ w. let l₂ : i < p.accepted y up = rw w at l₁ in absurd (omega (arith, ltb-false i (p.accepted y up) t))));
      paired = ep;
    }

pub passive_within : (kit : Kit) {r : Room} (p : Replica) (y : ℕ) → Passive kit r p → p.accepted y up ≤ length p.noted
passive_within kit p y a = nth_full p.noted (p.accepted y up) (λ i l. let t = a.updated y i l in (t.0, t.2))
