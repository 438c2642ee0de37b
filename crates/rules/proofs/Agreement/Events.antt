-- The other events and the clock keep the invariant: submit, issue, PANIC, file. Then each event of a good kit does.
-- Assumes nothing.
use Rattle.std.specs.Prelude.{◌≡◌, refl, true, false, List, [], ◌∷◌, ◌++◌, ℕ, suc, ◌<◌, length, Ok, Err}
use Rattle.std.proofs.Common.{sym, ap, ◌∙◌, arith}
use Rattle.std.proofs.Math.Path.{subst}
use Rattle.terms.specs.Limits.{ag, up, requests_max}
use Rattle.terms.specs.Lists.{holds}
use Rattle.terms.specs.ListLaws.{no_way, pick_elim, not_true_false, nth-append, nth-snoc, length-snoc, holds_at, holds_nth}
use Rattle.terms.specs.Kit.{Kit, GoodEvent, Entry, GoodEntry}
use Rattle.terms.specs.declared.Content.{Content}
use Rattle.terms.specs.declared.Content.TheVariants.{Prepare}
use Rattle.terms.specs.declared.Condition.TheVariants.{Halted}
use Rattle.terms.specs.declared.Event.{Event}
use Rattle.terms.specs.declared.Act.{Act}
use Rattle.terms.specs.Numbers.{Decision}
use Rattle.terms.specs.declared.Deed.{Deed}
use Rattle.rules.specs.Table.{is_marked_faulty, switch_leader}
use Rattle.rules.proofs.Laws.TableLaws.{Roles}
use Rattle.rules.specs.Room.{Room, Replica, with_replica, with_clock, with_late, issue, remember, with_condition, note}
use Rattle.rules.specs.Reading.{is_running, is_closed, is_faulty, settled_count, settled_noted, ag_total}
use Rattle.rules.proofs.Laws.ReadingLaws.{running_open, running_correct, settled_count_waits, settled_noted_rises}
use Rattle.rules.proofs.Laws.Growth.{grows_with_replica, tick_grows}
use Rattle.rules.proofs.Agreement.Invariant.{FilingBounds, Part, Invariant, part_grows}
use Rattle.rules.proofs.Agreement.OneReplica.{common_note, common_halt, seen_within, active_submit, active_same, passive_same}
use Rattle.rules.proofs.Agreement.Frame.{moved_none, moved_record, moved_ag, moved_submission, moved_file, moved_any, Next, next_none}
use Rattle.rules.proofs.Agreement.Frame.{next_trans, next_move, next_still, grows_open}
use Rattle.rules.specs.Clock.{tick}
use Rattle.rules.specs.Submit.{after_submit, after_file}
use Rattle.rules.specs.Switching.{after_panic}
use Rattle.rules.specs.Decide.{concerned, decide, acted, carried_out}
use Rattle.rules.specs.Play.{on_event, step}
use Rattle.rules.proofs.Laws.Tested.{on_sw, ToPanic, ToAct, Tested, tested}
use Rattle.rules.proofs.Agreement.Delivery.{next_prepared, next_committed, next_known_pair, next_new_pair, next_switched}
use Rattle.rules.proofs.Agreement.Handover.{next_hand, next_build}

-- ---- halting

halt_part : (kit : Kit) {r : Room} (x : ℕ) (p : Replica) {ags ups : List Content} → is_closed p.condition ≡ false → Part kit r x p ags ups
    → Part kit r x (with_condition p Halted) ags ups
unfolding with_condition settled_count
halt_part kit x p {ags} {ups} op l =
    record {
      common = common_halt kit p l.common;
      active = λ e. active_same kit x p (with_condition p Halted) ags ups refl refl (λ y. refl) (λ h. (op, refl)) refl (l.active e);
      passive = λ e. passive_same kit refl refl (λ y. refl) (l.passive e);
      ag_few = l.ag_few;
      up_few = l.up_few;
    }

halt_settled : (kit : Kit) (x : ℕ) (p : Replica) (n : ℕ) → settled_noted kit x (with_condition p Halted) n ≡ settled_noted kit x p n
unfolding with_condition settled_noted settled_count
halt_settled kit x p n = refl

halt_open : (p : Replica) → is_closed (with_condition p Halted).condition ≡ false
unfolding with_condition
halt_open p = refl

halt_correct : (p : Replica) → is_faulty (with_condition p Halted).condition ≡ false
unfolding with_condition
halt_correct p = refl

-- ---- submit, issue, PANIC, file

next_submit : (kit : Kit) → Roles kit → (r : Room) → Invariant kit r → (q : ℕ) → holds q r.submitted ≡ false → length r.submitted < requests_max
    → Next kit r (after_submit kit r q)
unfolding after_submit note issue with_replica remember settled_count
next_submit kit roles r a q e₁ room =
    pick_elim (λ z. Next kit r z) (is_running p.condition) (λ t. go t (sym (a.faulty_marked l) ∙ running_correct p.condition t) e₁ room)
    (λ t. next_still kit l a (moved_submission (moved_none r l) q e₁ room))
  where
    l : ℕ
    l = kit.leader

    p : Replica
    p = r.replica l

    new : {ags ups : List Content} → Part kit r l p ags ups → holds q r.submitted ≡ false → holds q p.noted ≡ false
    new loc fresh = not_true_false (holds q p.noted) (λ t. let h = holds_nth p.noted q t in no_way
        (cc (loc.common.submitted h.0 q h.1)))

    go : is_running p.condition ≡ true → is_marked_faulty kit l ≡ false → holds q r.submitted ≡ false → length r.submitted < requests_max
        → Next kit r (issue (with_replica (remember r q) l (note p q)) l ag (Prepare q))
    go run fl fresh room =
        let v = moved_ag (moved_record (moved_submission (moved_none r l) q fresh room) (note p q)) (Prepare q) in
        let loc = a.part l fl in
        let av = loc.active roles.leader_active in
        let free = loc.common.running_holds-none run in
        let n = ag_total r l in
        let es = settled_count_waits kit l (note p q) n (switch_leader kit) roles.leader_active
        (roles.active_listed (switch_leader kit) roles.switch_active) roles.switch_not_leader
        (omega (arith, seen_within av (switch_leader kit) roles.switch_not_leader, av.ag_total_lem free)) in
        let z : settled_count kit l (note p q) (length (r.counter l ag ++ (Prepare q ∷ []))) ≡ settled_count kit l p n = ap
        (settled_count kit l (note p q)) (length-snoc (r.counter l ag) (Prepare q)) ∙ es in
        let sub = settled_noted_rises kit l p (note p q) n (length (r.counter l ag ++ (Prepare q ∷ [])))
        (λ i b e. nth-append p.noted (q ∷ []) i e) (omega arith) in
        next_move kit l a v refl
        (λ f. record {
          common = common_note kit v.grows q refl refl refl (omega arith)
              (holds_at (r.submitted ++ (q ∷ [])) (length r.submitted) q (nth-snoc r.submitted q)) (new loc fresh) loc.common;
          active = λ e. rw z (active_submit kit v.grows p (r.counter l ag) (r.counter l up) (settled_count kit l p n) q free v.ag_now sub av);
          passive = λ e. no_way (cc roles.leader_active);
          ag_few = omega (arith, av.ag_total_lem free, length-snoc (r.counter l ag) (Prepare q), length-snoc p.noted q);
          up_few = omega (arith, loc.up_few, length-snoc p.noted q);
        })
        (λ f. let g = running_correct p.condition run in grows_open kit l v g g (running_open p.condition run)
        (running_open p.condition run) sub)

next_issue : (kit : Kit) (r : Room) → Invariant kit r → (x m : ℕ) (c : Content) → is_faulty (r.replica x).condition ≡ true → Next kit r (issue r x m c)
next_issue kit r a x m c faulty =
    next_move kit x a (moved_any r x m c) refl (λ f. no_way (cc (faulty, a.faulty_marked x))) (λ f. no_way (cc (faulty, a.faulty_marked x)))

next_panic : (kit : Kit) (r : Room) → Invariant kit r → (e : Event) (x : ℕ) → ToPanic kit r e x → Next kit r (after_panic r x)
unfolding after_panic
next_panic kit r a e x t =
    let p = r.replica x in
    let op = running_open p.condition t.running in
    let v = moved_record (moved_none r x) (with_condition p Halted) in
    let g = grows_with_replica r x (with_condition p Halted) in
    next_move kit x a v (halt_correct p ∙ sym t.correct) (λ f. part_grows kit g (halt_part kit x p op (a.part x f)))
    (λ f. grows_open kit x v t.correct (halt_correct p) op (halt_open p)
    (rw (halt_settled kit x p (ag_total r x)) λ i q z. z))

next_file : (kit : Kit) (r : Room) → Invariant kit r → (j n : ℕ) (l : List ℕ) → FilingBounds (record { j = j; k = n; list = l })
    → Next kit r (after_file r j n l)
unfolding after_file
next_file kit r a j n l h = next_still kit 0 a (moved_file (moved_none r 0) (record { j = j; k = n; list = l }) (suc r.filed) h)

-- ---- the clock

-- the invariant reads neither the clock nor the late tick
pub next_tick : (kit : Kit) (r : Room) → Invariant kit r → (gap : ℕ) → Next kit r (tick kit r gap)
unfolding tick with_clock with_late
next_tick kit r a gap =
    next_still kit 0 a (record {
      grows = tick_grows kit r gap;
      record_now = refl;
      ag_now = refl;
      up_now = refl;
      records_stand = λ y d. refl;
      counters_stand = λ y m d. refl;
      histories_fit = λ w. w;
      submissions = λ w. w;
    })

-- ---- one event

module _ (kit : Kit) (roles : Roles kit) (r : Room) (a : Invariant kit r) (e : Event) (x size : ℕ) (list : List ℕ) (good : GoodEvent size e list) where
  next_acted : (act : Act) → ToAct kit r e x act → Next kit r (acted kit r x act)
  unfolding acted
  next_acted (Act.Prepare s v q) t = next_prepared kit roles r a e x s v q t
  next_acted (Act.Commit s v) t = next_committed kit roles r a e x s v t
  next_acted (Act.KnownPair s v) t = next_known_pair kit roles r a e x s v t
  next_acted (Act.NewPair s v q mark) t = next_new_pair kit roles r a e x s v q mark t
  next_acted (Act.Switch s v) t = next_switched kit roles r a e x s v (on_sw kit r e x size list good t)
  next_acted (Act.Hand h) t = next_hand kit r a e x h t
  next_acted Act.Panic t = next_panic kit r a e x t

  next_carried : (d : Decision) → Tested kit r e x d → Next kit r (carried_out kit r x d list)
  unfolding carried_out
  next_carried (Err answer) t = next_none kit r a
  next_carried (Ok (Deed.Submit q)) t = next_submit kit roles r a q t.new t.few
  next_carried (Ok (Deed.Issue y m c)) t = next_issue kit r a y m c t.faulty
  next_carried (Ok (Deed.Act act)) t = next_acted act t
  next_carried (Ok Deed.Idle) t = next_none kit r a
  next_carried (Ok (Deed.Build j k)) t = next_build kit roles r a e x j k t
  next_carried (Ok (Deed.File j k)) t =
      let g = subst (λ (event : Event). GoodEvent size event list) t.event good in
      next_file kit r a j k list (record { j_k = g.0; k_list = g.1; list_max = g.2 })

next_event_lem : (kit : Kit) → Roles kit → (r : Room) → Invariant kit r → (size : ℕ) (e : Event) (list : List ℕ) → GoodEvent size e list
    → Next kit r (on_event kit r e list).room
unfolding on_event
next_event_lem kit roles r a size e list g = next_carried kit roles r a e (concerned kit e) size list g (decide kit r e) (tested kit r e)

pub next_step : (kit : Kit) → Roles kit → (r : Room) → Invariant kit r → (size : ℕ) (e : Entry) → GoodEntry size e → Next kit r (step kit r e).room
unfolding step
next_step kit roles r a size e g =
    let n = next_tick kit r a e.gap in
    next_trans n (next_event_lem kit roles (tick kit r e.gap) n.invariant size e.event e.requests g.event)
