-- A delivery on ag, up or sw keeps the invariant, and no list of settled requests loses anything. In order: settling; ag from the leader, ag from
-- another active replica, up, sw; and for each what was tested gives what it asks (`next_prepared` … `next_switched`). Assumes nothing.
use Rattle.std.proofs.Common.{◌≡◌, true, false, not, ◌&&◌, ◌≢◌, List, [], ◌∷◌, ◌++◌, get_or, eqb, ltb, leb, ◌∙◌, ℕ, suc, ◌-◌, ◌≤◌, ◌<◌, arith, ltb-true, ltb-false}
use Rattle.std.proofs.Math.Path.{refl, sym, ap}
use Rattle.std.specs.Prelude.{Option, None, Some}
use Rattle.std.proofs.Math.ListN.{length}
use borrow.Author.Tests.{eqb-false}
use Rattle.terms.specs.Limits.{ag, up, sw}
use Rattle.terms.specs.Lists.{nth, holds, Sub, is_some}
use Rattle.terms.specs.ListLaws.{split, no_way, pick_elim, and_r, or_l, or_r, not_was_false, not_was_true, nth-append, nth-snoc, nth-get_or}
use Rattle.terms.specs.ListLaws.{length-snoc}
use Rattle.terms.specs.Mark.{next_mark, mark_of}
use Rattle.terms.specs.Kit.{Kit}
use Rattle.terms.specs.declared.Content.{Content}
use Rattle.terms.specs.declared.Content.TheVariants.{Prepare, Commit, Update}
use Rattle.terms.specs.declared.Condition.{Condition}
use Rattle.terms.specs.declared.Condition.TheVariants.{Closed}
use Rattle.terms.specs.declared.Event.{Event}
use Rattle.rules.specs.Table.{is_active, is_marked_faulty}
use Rattle.rules.proofs.Laws.TableLaws.{Roles}
use Rattle.rules.specs.Room.{Room, Replica, with_replica, issue, with_condition, with_mark, note, note_pair, accept}
use Rattle.rules.proofs.Laws.RoomLaws.{accepted_rises, accepted_by_one}
use Rattle.rules.specs.Reading.{is_running, is_closed, is_faulty, entry_at, content_at, settled_count, settled_noted, held_list, ag_total}
use Rattle.rules.proofs.Laws.ReadingLaws.{running_open, running_correct, settled_count_rises, settled_count_by_one, settled_noted_rises}
use Rattle.rules.proofs.Laws.Growth.{Grows, still_submitted, grows_refl, grows_trans, grows_with_replica, grows_issue}
use Rattle.rules.proofs.Agreement.Invariant.{Common, Active, Passive, Part, Invariant, common_grows, active_grows, passive_grows}
use Rattle.rules.proofs.Agreement.OneRoom.{open_in_backed}
use Rattle.rules.proofs.Agreement.OneReplica.{common_note, common_same, common_close, active_prepare, active_commit, active_rise, active_same}
use Rattle.rules.proofs.Agreement.OneReplica.{active_few, passive_same, passive_accept, passive_within}
use Rattle.rules.proofs.Agreement.Frame.{Moved, moved_none, moved_record, moved_ag, moved_up, Next, next_move, grows_open}
use Rattle.rules.proofs.Agreement.Frame.{grows_closing}
use Rattle.rules.specs.Deliver.{settle, after_prepare, after_commit, mark_of_pair, after_update, switches, after_switch, is_too_late, has_wrong_roles}
use Rattle.rules.proofs.Laws.Tested.{Delivered, ToPrepare, ToCommit, ToKnownPair, ToNewPair}

-- the end of an event on ag: x has record p, has issued `ags` and `ups`, and has settled c, and its count is d now
module _ (kit : Kit) {r r₁ : Room} (x : ℕ) {p₀ : Replica} (p : Replica) {ags ups : List Content} (c d : ℕ) (a : Invariant kit r)
    (v : Moved r r₁ x p₀ ags ups) (ax : is_active kit x ≡ true) (free : p.held ≡ None) (u₀ : is_running (r.replica x).condition ≡ true)
    (u₁ : is_running p.condition ≡ true) (ed : d ≡ settled_count kit x p (length ags)) (cm : Common kit r₁ p) (act₁ : Active kit r₁ x p ags ups c)
    (sub : Sub (settled_noted kit x (r.replica x) (ag_total r x)) (settled_noted kit x p (length ags))) where
  good₀ : is_faulty (r.replica x).condition ≡ false
  good₀ = running_correct (r.replica x).condition u₀

  good₁ : is_faulty p.condition ≡ false
  good₁ = running_correct p.condition u₁

  -- it is one more: x executes that request, its mark is m then, and its UPDATE says mark w
  next_execute : (m w : ℕ) → m ≡ next_mark p.mark (get_or p.noted c 0) → w ≡ m → d ≡ suc c
      → Next kit r (issue (with_replica r₁ x (with_mark p m)) x up (Update (get_or p.noted c 0) w))
  unfolding with_mark settled_noted settled_count
  next_execute m w em ew eo =
      let update = Update (get_or p.noted c 0) w in
      let v₁ = moved_up (moved_record v (with_mark p m)) update in
      let g = grows_trans (grows_with_replica r₁ x (with_mark p m)) (grows_issue (with_replica r₁ x (with_mark p m)) x up update) in
      next_move kit x a v₁ (good₁ ∙ sym good₀)
      (λ f. let act₂ = active_rise kit x p ags ups c d m w ax free em ew (running_open p.condition u₁) ed eo act₁ in
      let few = active_few kit x (with_mark p m) ags (ups ++ (update ∷ [])) ax free act₂ in
      record {
        common = common_grows kit g (common_same kit refl refl refl refl cm);
        active = λ e. active_grows kit g act₂;
        passive = λ e. no_way (cc);
        ag_few = few.0;
        up_few = few.1;
      })
      (λ f. grows_open kit x v₁ good₀ good₁ (running_open (r.replica x).condition u₀) (running_open p.condition u₁) sub)

  -- or it is as it was
  next_unsettled : c ≡ d → Next kit r (with_replica r₁ x p)
  unfolding settled_noted
  next_unsettled eo =
      let v₁ = moved_record v p in
      let g = grows_with_replica r₁ x p in
      next_move kit x a v₁ (good₁ ∙ sym good₀)
      (λ f. let act₂ : Active kit r₁ x p ags ups (settled_count kit x p (length ags)) = rw (eo, ed) at act₁ in
      let few = active_few kit x p ags ups ax free act₂ in
      record { common = common_grows kit g cm; active = λ e. active_grows kit g act₂; passive = λ e. no_way (cc); ag_few = few.0; up_few = few.1 })
      (λ f. grows_open kit x v₁ good₀ good₁ (running_open (r.replica x).condition u₀) (running_open p.condition u₁) sub)

  next_settle : c ≤ d → d ≤ suc c → Next kit r (settle r₁ x p c d)
  unfolding settle
  next_settle lo hi =
      split (ltb c d) (λ t. rw t (next_execute _ _ refl (cc) (omega (arith, ltb-true c d t)))) (λ t. rw t (next_unsettled (omega (arith, ltb-false c d t))))

-- ---- ag from the leader

prepare_grows : (kit : Kit) (x : ℕ) (p : Replica) (n s v q : ℕ) → v ≡ suc (p.accepted s ag)
    → Sub (settled_noted kit x p n) (settled_noted kit x (accept (note p q) s ag v) (suc n))
unfolding accept note
prepare_grows kit x p n s v q ev =
    settled_noted_rises kit x p (accept (note p q) s ag v) n (suc n) (λ i a e. nth-append p.noted (q ∷ []) i e)
    (settled_count_rises kit x p (accept (note p q) s ag v) n (suc n) (omega arith) (λ y m. accepted_rises p.accepted s ag v y m ev))

next_prepare : (kit : Kit) (r : Room) → Invariant kit r → (v x q : ℕ) → is_marked_faulty kit x ≡ false → is_active kit x ≡ true
    → x ≢ kit.leader → is_running (r.replica x).condition ≡ true
    → v ≡ suc ((r.replica x).accepted kit.leader ag)
    → nth (r.counter kit.leader ag) ((r.replica x).accepted kit.leader ag) ≡ Some (Prepare q) → holds q r.submitted ≡ true
    → holds q (r.replica x).noted ≡ false
    → Next kit r (after_prepare kit r kit.leader v x q)
unfolding after_prepare accept note
next_prepare kit r a v x q fx ax xl run ev ec es en =
    next_settle kit x p₁ (settled_count kit x p n) (settled_count kit x p₁ (suc n)) a (moved_ag (moved_none r x) (Commit q v)) ax free run run
    (ap (settled_count kit x p₁) (sym (length-snoc (r.counter x ag) (Commit q v))))
    (common_note kit g q refl refl refl (omega arith) (still_submitted g q es) en loc.common)
    (active_prepare kit g x p (r.counter x ag) (r.counter x up) (settled_count kit x p n) q v xl free
    (ev ∙ ap suc (av.leader_accepted xl free)) (rw (av.leader_accepted xl free) at ec) sub av)
    sub
    (settled_count_rises kit x p p₁ n (suc n) (omega arith) (λ y m. accepted_rises p.accepted kit.leader ag v y m ev))
    (settled_count_by_one kit x p p₁ n (suc n) (omega arith) (λ y m. accepted_by_one p.accepted kit.leader ag v y m ev))
  where
    p : Replica
    p = r.replica x

    p₁ : Replica
    p₁ = accept (note p q) kit.leader ag v

    n : ℕ
    n = ag_total r x

    g : Grows r (issue r x ag (Commit q v))
    g = grows_issue r x ag (Commit q v)

    loc : Part kit r x p (r.counter x ag) (r.counter x up)
    loc = a.part x fx

    av : Active kit r x p (r.counter x ag) (r.counter x up) (settled_count kit x p n)
    av = loc.active ax

    free : p.held ≡ None
    free = loc.common.running_holds-none run

    sub : Sub (settled_noted kit x p n) (settled_noted kit x p₁ (length (r.counter x ag ++ (Commit q v ∷ []))))
    sub = rw (length-snoc (r.counter x ag) (Commit q v)) (prepare_grows kit x p n kit.leader v q ev)

-- ---- ag from another active replica

next_commit : (kit : Kit) (r : Room) → Invariant kit r → (s v x b : ℕ) → is_marked_faulty kit x ≡ false → is_active kit x ≡ true → s ≢ kit.leader
    → is_running (r.replica x).condition ≡ true
    → v ≡ suc ((r.replica x).accepted s ag) → nth (r.counter s ag) ((r.replica x).accepted s ag) ≡ Some (Commit b v)
    → nth (r.replica x).noted ((r.replica x).accepted s ag) ≡ Some b → Next kit r (after_commit kit r s v x)
unfolding after_commit accept
next_commit kit r a s v x b fx ax sl run ev ec en =
    next_settle kit x p₁ (settled_count kit x p n) (settled_count kit x p₁ n) a (moved_none r x) ax free run run
    refl (common_same kit refl refl refl refl loc.common)
    (active_commit kit x p (r.counter x ag) (r.counter x up) (settled_count kit x p n) s b v sl ev en ec sub (loc.active ax))
    sub ups (settled_count_by_one kit x p p₁ n n (omega arith) (λ y m. accepted_by_one p.accepted s ag v y m ev))
  where
    p : Replica
    p = r.replica x

    p₁ : Replica
    p₁ = accept p s ag v

    n : ℕ
    n = ag_total r x

    loc : Part kit r x p (r.counter x ag) (r.counter x up)
    loc = a.part x fx

    free : p.held ≡ None
    free = loc.common.running_holds-none run

    ups : settled_count kit x p n ≤ settled_count kit x p₁ n
    ups = settled_count_rises kit x p p₁ n n (omega arith) (λ y m. accepted_rises p.accepted s ag v y m ev)

    sub : Sub (settled_noted kit x p n) (settled_noted kit x p₁ n)
    sub = settled_noted_rises kit x p p₁ n n (λ i q e. e) ups

-- ---- up

-- the end of an event on up: x has record p₁
next_noting : (kit : Kit) (r : Room) → Invariant kit r → (x : ℕ) (p₁ : Replica) → is_active kit x ≡ false → is_running (r.replica x).condition ≡ true
    → is_running p₁.condition ≡ true → length (r.replica x).noted ≤ length p₁.noted
    → (is_marked_faulty kit x ≡ false → Common kit r p₁) → (is_marked_faulty kit x ≡ false → Passive kit r p₁)
    → Sub (settled_noted kit x (r.replica x) (ag_total r x)) (settled_noted kit x p₁ (ag_total r x))
    → Next kit r (after_update kit r x p₁)
unfolding after_update with_mark settled_noted settled_count
next_noting kit r a x p₁ ax u₀ u₁ more cm pas sub =
    let m = mark_of_pair p₁.pair_marks (settled_count kit x p₁ 0) in
    let v = moved_record (moved_none r x) (with_mark p₁ m) in
    let g = grows_with_replica r x (with_mark p₁ m) in
    let g₀ = running_correct (r.replica x).condition u₀ in
    let g₁ = running_correct p₁.condition u₁ in
    next_move kit x a v (g₁ ∙ sym g₀)
    (λ f. record {
      common = common_grows kit g (common_same kit refl refl refl refl (cm f));
      active = λ e. no_way (cc);
      passive = λ e. passive_grows kit g (passive_same kit refl refl (λ y. refl) (pas f));
      ag_few = omega (arith, (a.part x f).ag_few, more);
      up_few = omega (arith, (a.part x f).up_few, more);
    })
    (λ f. grows_open kit x v g₀ g₁ (running_open (r.replica x).condition u₀) (running_open p₁.condition u₁) sub)

module _ (kit : Kit) (r : Room) (a : Invariant kit r) (s v x : ℕ) (fx : is_marked_faulty kit x ≡ false) (ax : is_active kit x ≡ false)
    (run : is_running (r.replica x).condition ≡ true) (ev : v ≡ suc ((r.replica x).accepted s up)) where
  abbrev p : Replica
  p = r.replica x

  loc : Part kit r x p (r.counter x ag) (r.counter x up)
  loc = a.part x fx

  -- an UPDATE of pair v, which x has noted
  next_known : v ≤ length p.noted → nth (r.counter s up) (p.accepted s up) ≡ Some (Update (entry_at p.noted v) (entry_at p.pair_marks v))
      → Next kit r (after_update kit r x (accept p s up v))
  unfolding accept
  next_known l ec =
      let n = ag_total r x in
      let i : v - 1 ≡ p.accepted s up = omega arith in
      next_noting kit r a x (accept p s up v) ax run run (omega arith) (λ f. common_same kit refl refl refl refl loc.common)
      (λ f. passive_accept kit p (accept p s up v) s v (get_or p.noted (p.accepted s up) 0) _ (λ j q e. e) (loc.passive ax).paired refl ev
      (nth-get_or p.noted (p.accepted s up) 0 (omega arith)) (rw i at ec) (loc.passive ax))
      (settled_noted_rises kit x p (accept p s up v) n n (λ j q e. e)
      (settled_count_rises kit x p (accept p s up v) n n (omega arith) (λ y m. accepted_rises p.accepted s up v y m ev)))

  -- an UPDATE of a new request, which x notes
  next_new : (q mark : ℕ) → length p.noted < v → nth (r.counter s up) (p.accepted s up) ≡ Some (Update q mark)
      → holds q r.submitted ≡ true → holds q p.noted ≡ false → Next kit r (after_update kit r x (accept (note_pair p q mark) s up v))
  unfolding accept note_pair
  next_new q mark l ec es en =
      let n = ag_total r x in
      let p₁ = accept (note_pair p q mark) s up v in
      let i : p.accepted s up ≡ length p.noted = omega (arith, passive_within kit p s (loc.passive ax)) in
      next_noting kit r a x p₁ ax run run (omega (arith, length-snoc p.noted q))
      (λ f. common_note kit (grows_refl r) q refl refl refl (omega (arith, length-snoc p.pair_marks mark)) es en loc.common)
      (λ f. passive_accept kit p p₁ s v q mark (λ j b e. nth-append p.noted (q ∷ []) j e)
      (length-snoc p.pair_marks mark ∙ ap suc (loc.passive ax).paired ∙ sym (length-snoc p.noted q)) refl ev
      (rw i (nth-snoc p.noted q)) ec (loc.passive ax))
      (settled_noted_rises kit x p p₁ n n (λ j b e. nth-append p.noted (q ∷ []) j e)
      (settled_count_rises kit x p p₁ n n (omega arith) (λ y m. accepted_rises p.accepted s up v y m ev)))

-- ---- sw

next_sw : (kit : Kit) → Roles kit → (r : Room) → Invariant kit r → (s v x : ℕ) → is_marked_faulty kit x ≡ false
    → is_closed (r.replica x).condition ≡ false → is_some (r.replica x).held ≡ true
    → Next kit r (after_switch kit r x (accept (r.replica x) s sw v))
unfolding after_switch accept settled_noted settled_count with_mark with_condition
next_sw kit roles r a s v x fx op hs =
    pick_elim (λ z. Next kit r z) (leb kit.f (switches kit p₁))
    (λ t. let v₁ = moved_record (moved_none r x) p₂ in
    let g = grows_with_replica r x p₂ in
    next_move kit x a v₁ (sym ok)
    (λ f. record {
      common = common_grows kit g (common_same kit refl refl refl refl (common_close kit p₁ held.0 held.1 c₁));
      active = λ e. active_grows kit g (active_same kit x p p₂ _ _ refl refl (λ y. refl) (λ h. no_way (cc h)) refl (loc.active e));
      passive = λ e. passive_grows kit g (passive_same kit refl refl (λ y. refl) (loc.passive e));
      ag_few = loc.ag_few;
      up_few = loc.up_few;
    })
    (λ f. let w = loc.common.held_backed held.0 held.1 in grows_closing kit x v₁ ok op refl held.0 held.1 w
    (open_in_backed kit roles r a x fx w)))
    (λ t. let v₁ = moved_record (moved_none r x) p₁ in
    let g = grows_with_replica r x p₁ in
    next_move kit x a v₁ refl
    (λ f. record {
      common = common_grows kit g c₁;
      active = λ e. active_grows kit g (active_same kit x p p₁ _ _ refl refl (λ y. refl) (λ h. (h, refl)) refl (loc.active e));
      passive = λ e. passive_grows kit g (passive_same kit refl refl (λ y. refl) (loc.passive e));
      ag_few = loc.ag_few;
      up_few = loc.up_few;
    })
    (λ f. grows_open kit x v₁ ok ok op op (λ i q e. e)))
  where
    p : Replica
    p = r.replica x

    p₁ : Replica
    p₁ = accept p s sw v

    p₂ : Replica
    p₂ = with_mark (with_condition p₁ Closed) (mark_of (held_list r p.held))

    loc : Part kit r x p (r.counter x ag) (r.counter x up)
    loc = a.part x fx

    c₁ : Common kit r p₁
    c₁ = common_same kit refl refl refl refl loc.common

    some_of : (h : Option ℕ) → is_some h ≡ true → (n : ℕ) × (h ≡ Some n)
    some_of None e = no_way (cc)
    some_of (Some n) e = (n, refl)

    held : (n : ℕ) × (p.held ≡ Some n)
    held = some_of p.held hs

    ok : is_faulty p.condition ≡ false
    ok = a.faulty_marked x ∙ fx

-- ---- what was tested gives what they ask

roles_ag : (kit : Kit) (s x : ℕ) → has_wrong_roles (is_active kit) s ag x ≡ false → (s ≢ x) × (is_active kit x ≡ true)
unfolding has_wrong_roles
roles_ag kit s x e =
    let b = not (is_active kit s && is_active kit x) in (
      eqb-false s x (or_l (eqb s x) b e),
      and_r (is_active kit s) (is_active kit x)
          (not_was_false (is_active kit s && is_active kit x) (or_r (eqb s x) b e)),
    )

roles_up : (kit : Kit) (s x : ℕ) → has_wrong_roles (is_active kit) s up x ≡ false → is_active kit x ≡ false
unfolding has_wrong_roles
roles_up kit s x e =
    let b = not (is_active kit s && not (is_active kit x)) in
    not_was_true (is_active kit x) (and_r (is_active kit s) (not (is_active kit x))
    (not_was_false (is_active kit s && not (is_active kit x)) (or_r (eqb s x) b e)))

in_time_running : (m : ℕ) (c : Condition) → is_too_late m c ≡ false → eqb m sw ≡ false → is_running c ≡ true
unfolding is_too_late
in_time_running m c e z = not_was_false (is_running c) (rw z at e)

in_time_open : (c : Condition) → is_too_late sw c ≡ false → is_closed c ≡ false
unfolding is_too_late
in_time_open c e = e

module _ (kit : Kit) (roles : Roles kit) (r : Room) (a : Invariant kit r) (e : Event) (x s v : ℕ) where
  -- what is delivered is the next content of its counter
  at_next : {m : ℕ} → Delivered kit r e x s m v → nth (r.counter s m) ((r.replica x).accepted s m) ≡ content_at (r.counter s m) v
  at_next t = rw t.next

  correct_marked : is_faulty (r.replica x).condition ≡ false → is_marked_faulty kit x ≡ false
  correct_marked f = sym (a.faulty_marked x) ∙ f

  pub next_prepared : (q : ℕ) → ToPrepare kit r e x s v q → Next kit r (after_prepare kit r s v x q)
  next_prepared q t =
      let d = t.delivered in
      let z = t.from_leader in
      let ro = roles_ag kit s x d.roles in
      rw z (next_prepare kit r a v x q (correct_marked d.correct) ro.1 (λ y. ro.0 (z ∙ sym y))
      (in_time_running ag (r.replica x).condition d.in_time refl) (rw z at d.next) (rw z at (at_next d ∙ t.content))
      t.new.is_submitted_lem t.new.not_noted)

  pub next_committed : ToCommit kit r e x s v → Next kit r (after_commit kit r s v x)
  next_committed t =
      let d = t.delivered in
      let i : v - 1 ≡ (r.replica x).accepted s ag = omega (arith, d.next) in
      next_commit kit r a s v x _ (correct_marked d.correct) (roles_ag kit s x d.roles).1 t.from_other
      (in_time_running ag (r.replica x).condition d.in_time refl) d.next (rw i at (at_next d ∙ t.content))
      (nth-get_or (r.replica x).noted ((r.replica x).accepted s ag) 0 (omega (arith, t.exists, d.next)))

  pub next_known_pair : ToKnownPair kit r e x s v → Next kit r (after_update kit r x (accept (r.replica x) s up v))
  next_known_pair t =
      let d = t.delivered in
      next_known kit r a s v x (correct_marked d.correct) (roles_up kit s x d.roles) (in_time_running up (r.replica x).condition d.in_time refl)
      d.next t.exists (at_next d ∙ t.content)

  pub next_new_pair : (q mark : ℕ) → ToNewPair kit r e x s v q mark → Next kit r (after_update kit r x (accept (note_pair (r.replica x) q mark) s up v))
  next_new_pair q mark t =
      let d = t.delivered in
      next_new kit r a s v x (correct_marked d.correct) (roles_up kit s x d.roles) (in_time_running up (r.replica x).condition d.in_time refl)
      d.next q mark t.beyond (at_next d ∙ t.content) t.new.is_submitted_lem t.new.not_noted

  pub next_switched : Delivered kit r e x s sw v → Next kit r (after_switch kit r x (accept (r.replica x) s sw v))
  next_switched d =
      next_sw kit roles r a s v x (correct_marked d.correct) (in_time_open (r.replica x).condition d.in_time)
      (not_was_false (is_some (r.replica x).held) d.not_early)
