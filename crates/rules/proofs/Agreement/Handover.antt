-- Building a history and handing it over keep the invariant: what a correct switch leader builds is sound, and what a correct replica holds is backed.
-- In order: the hand (what a valid history rests on, `valid_backed`; `next_hand`); the build (its list, `missing_at`; `built_sound`; `next_build`).
-- Assumes nothing.
use Rattle.std.proofs.Common.{◌≡◌, true, false, List, [], ◌∷◌, ◌++◌, ℕ, zero, suc, ◌≤◌, ◌<◌, eqb, sym, ◌∙◌, ⊎_elim, eqb-true, arith}
use Rattle.std.proofs.Math.Path.{refl, ap}
use Rattle.std.proofs.Math.Bool.{or-true}
use Rattle.std.specs.Prelude.{Option, None, Some}
use Rattle.std.proofs.Math.ListN.{length, get_or, length-append, get_or-append}
use Rattle.std.proofs.Math.Seq.{take-append-le}
use Rattle.terms.specs.Limits.{ag, up}
use Rattle.terms.specs.Lists.{nth, holds, distinct, all_of, all_below, Once}
use Rattle.terms.specs.ListLaws.{split, no_way, pick_elim, and_l, and_r, not_true_false, eqb_same, nth-lt}
use Rattle.terms.specs.ListLaws.{nth-snoc, nth_app_inv, nth-get_or, length-snoc, holds_nth, not_holds, all_below_at, all_of_at, distinct_once, once-cons}
use Rattle.terms.specs.ListLaws.{once_head, once_tail, once-append}
use Rattle.terms.specs.Kit.{Kit}
use Rattle.terms.specs.declared.Content.{Content}
use Rattle.terms.specs.declared.Content.TheVariants.{Prepare, Commit, History, Switch}
use Rattle.rules.specs.Table.{is_marked_faulty, switch_leader}
use Rattle.rules.proofs.Laws.TableLaws.{Roles}
use Rattle.rules.specs.Room.{Room, Replica, Filing, with_replica, issue, with_history, hold}
use Rattle.rules.specs.Reading.{is_running, is_closed, is_faulty, content_at, is_content, settled_count, settled_noted}
use Rattle.rules.proofs.Laws.ReadingLaws.{is_content_same, settled_count_active, settled_count_own, settled_count_waits, settled_noted_rises, entry_at-suc}
use Rattle.rules.proofs.Laws.Growth.{Grows, still_submitted}
use Rattle.rules.proofs.Agreement.Invariant.{FilingBounds, Backed, Active, Part, Invariant, common_grows, active_grows, passive_grows}
use Rattle.rules.proofs.Agreement.Sound.{Sound, sound_backed}
use Rattle.rules.proofs.Agreement.Built.{built_filed}
use Rattle.rules.proofs.Agreement.OneReplica.{common_hold, active_hold, active_build, passive_same}
use Rattle.rules.proofs.Agreement.Frame.{Moved, moved_none, moved_record, moved_ag, moved_up, moved_sw, moved_file, Next, next_move, grows_open}
use Rattle.rules.specs.Switching.{is_committed, is_valid, is_valid_filing, after_hand, missing, built, after_build, built_list}
use Rattle.rules.proofs.Laws.Missing.{noted_missing}
use Rattle.terms.specs.declared.Event.{Event}
use Rattle.rules.proofs.Laws.Tested.{ToHand, ToBuild}

-- ---- hand

-- a history that passes the test is backed
valid_backed : (kit : Kit) (r : Room) (p q h : ℕ) (e : Filing) → e.k ≤ length e.list → nth r.histories h ≡ Some e
    → is_valid kit r p q h e ≡ true → Backed kit r h
unfolding is_valid is_committed
valid_backed kit r p q h e long filed v =
    let t1 : is_content (content_at (r.counter (switch_leader kit) ag) p) (History h) ≡ true = search (and_l, and_r) in
    let t2 : eqb p (suc e.k) ≡ true = search (and_l, and_r) in
    let t3 : all_below e.k (λ i. is_committed kit r e.list (suc i)) ≡ true = search (and_l, and_r) depth 8 in
    let t4 : all_of e.list (λ a. holds a r.submitted) ≡ true = search (and_l, and_r) depth 9 in
    let t5 : distinct e.list ≡ true = search (and_l, and_r) depth 9 in
    let at : (i : ℕ) → i < e.k → (nth (r.counter (switch_leader kit) ag) i ≡ Some (Commit (get_or e.list i 0) (suc i))) ×
    (nth (r.counter kit.leader ag) i ≡ Some (Prepare (get_or e.list i 0))) =
    λ i l. let b = rw (entry_at-suc e.list i) at (all_below_at e.k _ t3 i l) in (
      is_content_same (nth (r.counter (switch_leader kit) ag) i) (Commit (get_or e.list i 0) (suc i)) (search (and_l, and_r)),
      is_content_same
          (nth (r.counter kit.leader ag) i) (Prepare (get_or e.list i 0)) (search (and_l, and_r)),
    ) in
    let z = eqb-true p (suc e.k) t2 in
    record {
      filing = e;
      is_filed_lem = filed;
      announced = rw z at (is_content_same (content_at (r.counter (switch_leader kit) ag) p) (History h) t1);
      commits_below = λ i l. (get_or e.list i 0, suc i, (at i l).0);
      prepared = λ i a l n. let d = nth-get_or e.list i 0 (nth-lt e.list i n) in
          let y : get_or e.list i 0 ≡ a = cc in
          rw y at (at i l).1;
      long = long;
      once = distinct_once e.list t5;
      submitted = all_of_at e.list _ t4;
    }

pub valid_filing_backed : (kit : Kit) (r : Room) → Invariant kit r → (p q h : ℕ) (o : Option Filing) → nth r.histories h ≡ o
    → is_valid_filing kit r p q h o ≡ true → Backed kit r h
valid_filing_backed kit r a p q h None e v = no_way (cc)
valid_filing_backed kit r a p q h (Some w) e v = valid_backed kit r p q h w (a.histories_fit h w e).k_list e v

pub next_hand : (kit : Kit) (r : Room) → Invariant kit r → (e : Event) (x h : ℕ) → ToHand kit r e x h → Next kit r (after_hand r x h)
unfolding after_hand hold settled_noted settled_count
next_hand kit r a e x h t =
    let w = r.replica x in
    let wk = valid_filing_backed kit r a t.p t.q h (nth r.histories h) refl t.valid in
    let v = moved_sw (moved_record (moved_none r x) (hold w h)) (Switch h) in
    next_move kit x a v refl
    (λ f. let loc = a.part x f in
    record {
      common = common_grows kit v.grows (common_hold kit w h t.stopped wk loc.common);
      active = λ e. active_grows kit v.grows (active_hold kit x w _ _ _ h t.free (loc.active e));
      passive = λ e. passive_grows kit v.grows (passive_same kit refl refl (λ y. refl) (loc.passive e));
      ag_few = loc.ag_few;
      up_few = loc.up_few;
    })
    (λ f. grows_open kit x v t.correct t.correct t.not_closed t.not_closed (λ i b e. e))

-- ---- build

-- what is missing was submitted and not noted, and stands there once
missing_at : (noted l : List ℕ) (i q : ℕ) → nth (missing noted l) i ≡ Some q → (holds q l ≡ true) × (holds q noted ≡ false)
missing_at noted [] i q e = no_way (cc)
missing_at noted (x ∷ xs) zero q e =
    split (holds x noted)
    (λ t. let h = missing_at noted xs zero q (rw t at e) in (rw h.0 (or-true (eqb q x)), h.1))
    (λ t. let e₁ : Some x ≡ Some q = rw t at e in
    let z : x ≡ q = cc in
    (rw (z, eqb_same q), rw z at t))
missing_at noted (x ∷ xs) (suc i) q e =
    split (holds x noted)
    (λ t. let h = missing_at noted xs (suc i) q (rw t at e) in (rw h.0 (or-true (eqb q x)), h.1))
    (λ t. let h = missing_at noted xs i q (rw t at e) in (rw h.0 (or-true (eqb q x)), h.1))

missing_once : (noted l : List ℕ) → Once l → Once (missing noted l)
missing_once noted [] o = o
missing_once noted (x ∷ xs) o =
    pick_elim Once (holds x noted) (λ t. missing_once noted xs (once_tail x xs o))
    (λ t. once-cons x (missing noted xs)
    (not_true_false (holds x (missing noted xs)) (λ u. let h = holds_nth (missing noted xs) x u in no_way
    (cc ((missing_at noted xs h.0 x h.1).0, once_head x xs o))))
    (missing_once noted xs (once_tail x xs o)))

-- a correct switch leader that holds no history builds one
module _ (kit : Kit) (roles : Roles kit) (r : Room) (a : Invariant kit r) (fs : is_marked_faulty kit (switch_leader kit) ≡ false)
    (free : (r.replica (switch_leader kit)).held ≡ None) where
  abbrev builder : Replica
  builder = r.replica (switch_leader kit)

  abbrev ags : List Content
  ags = r.counter (switch_leader kit) ag

  abbrev ups : List Content
  ups = r.counter (switch_leader kit) up

  abbrev number : ℕ
  number = length r.histories

  abbrev rest : List ℕ
  rest = missing builder.noted r.submitted

  abbrev count : ℕ
  count = settled_count kit (switch_leader kit) builder (length ags)

  own : Part kit r (switch_leader kit) builder ags ups
  own = a.part (switch_leader kit) fs

  shown : Active kit r (switch_leader kit) builder ags ups count
  shown = own.active roles.switch_active

  count_few : count ≤ length ags
  count_few = settled_count_own kit (switch_leader kit) builder (length ags) roles.switch_active

  -- its first k requests are those that it noted
  first : (i : ℕ) → i < length ags → (nth builder.noted i ≡ Some (get_or (built kit r).list i 0)) × (i < length builder.noted)
  unfolding built built_list
  first i l =
      let small : i < length builder.noted = omega (arith, shown.ag_total_lem free) in
      (rw (get_or-append builder.noted rest 0 i small) (nth-get_or builder.noted i 0 small), small)

  -- HISTORY comes to stand at k+1 and j+1
  at_k : nth (ags ++ (History number ∷ [])) (built kit r).k ≡ Some (History number)
  unfolding built built_list
  at_k = nth-snoc ags (History number)

  at_j : nth (ups ++ (History number ∷ [])) (built kit r).j ≡ Some (History number)
  unfolding built built_list
  at_j = rw (← (shown.up_total free)) (nth-snoc ups (History number))

  -- and so j is at most k: no more is settled than committed
  fits : FilingBounds (built kit r)
  unfolding built built_list
  fits =
      record {
        j_k = omega (arith, nth-lt (ups ++ (History number ∷ [])) (built kit r).j at_j, length-snoc ups (History number), shown.up_total free, count_few);
        k_list = omega (arith, length-append builder.noted rest, shown.ag_total_lem free);
        list_max = omega (
          arith,
          length-append builder.noted rest,
          noted_missing builder.noted r.submitted own.common.once own.common.submitted,
          a.submissions.few,
        );
      }

  moved
      : Moved r (after_build r (switch_leader kit) (built kit r)) (switch_leader kit) (hold builder number) (ags ++ (History number ∷ []))
      (ups ++ (History number ∷ []))
  unfolding after_build issue with_replica with_history
  moved =
      moved_sw (moved_up (moved_ag (moved_record (moved_file (moved_none r (switch_leader kit)) (built kit r) r.filed fits) (hold builder number))
      (History number)) (History number)) (Switch number)

  -- what it builds has all that a hand asks for
  pub built_sound : Sound kit (after_build r (switch_leader kit) (built kit r)) number (built kit r)
  unfolding built built_list
  built_sound =
      record {
        on_ag = rw moved.ag_now at_k;
        on_up = rw moved.up_now at_j;
        committed = λ i l. g.counters _ _ _ _ (shown.committed roles.switch_not_leader i _ (first i l).0);
        prepared = λ i l. g.counters _ _ _ _ (shown.prepared i _ (first i l).0);
        committed_by_all = λ i y l m d e.
            let t = shown.commits_seen y d i
            (omega (arith, settled_count_active kit (switch_leader kit) builder (length ags) y roles.switch_active m e)) in
            let z : get_or (builder.noted ++ rest) i 0 ≡ t.0 = cc ((first i (omega (arith, count_few))).0, t.1) in
            rw z (g.counters _ _ _ _ t.2);
        updated = λ i l.
            let t = shown.updates_marked i l in
            let f = first i (omega (arith, count_few)) in
            let z : get_or (builder.noted ++ rest) i 0 ≡ t.0 = cc (f.0, t.1) in
            rw (z, take-append-le (suc i) builder.noted rest f.1) (g.counters _ _ _ _ t.2);
        submitted = λ i q e.
            still_submitted g q (⊎_elim (λ h. own.common.submitted i q h) (λ h. (missing_at builder.noted r.submitted h.0 q h.2).0)
            (nth_app_inv builder.noted rest i e));
        once = once-append builder.noted rest own.common.once (missing_once builder.noted r.submitted a.submissions.once)
            (λ i j q e d. not_holds builder.noted q (missing_at builder.noted r.submitted j q d).1 i e);
      }
    where
      g : Grows r (after_build r (switch_leader kit) (built kit r))
      g = moved.grows

  -- HISTORY on ag settles nothing: of the leader it has accepted what it noted
  count_stays : settled_count kit (switch_leader kit) (hold builder number) (length (ags ++ (History number ∷ []))) ≡ count
  unfolding hold settled_count
  count_stays =
      let l = kit.leader in
      ap (settled_count kit (switch_leader kit) (hold builder number)) (length-snoc ags (History number))
      ∙ settled_count_waits kit (switch_leader kit) (hold builder number) (length ags) l roles.switch_active
      (roles.active_listed l roles.leader_active) (λ z. roles.switch_not_leader (sym z))
      (omega (arith, shown.leader_accepted roles.switch_not_leader free, shown.ag_total_lem free))

  next_after_build : is_running builder.condition ≡ false → Next kit r (after_build r (switch_leader kit) (built kit r))
  unfolding hold
  next_after_build run =
      next_move kit (switch_leader kit) a moved refl
      (λ f. record {
        common = common_hold kit builder number run backed (common_grows kit moved.grows own.common);
        active = λ e. rw count_stays (active_grows kit moved.grows (active_build kit builder ags ups count number free shown));
        passive = λ e. no_way (cc roles.switch_active);
        ag_few = omega (arith, shown.ag_total_lem free, length-snoc ags (History number));
        up_few = omega (arith, shown.ag_total_lem free, shown.up_total free, count_few, length-snoc ups (History number));
      })
      (λ f. grows_open kit (switch_leader kit) moved ok ok op op
      (settled_noted_rises kit (switch_leader kit) builder (hold builder number) (length ags) (length (ags ++ (History number ∷ []))) (λ i q e. e)
      (omega (arith, count_stays))))
    where
      backed : Backed kit (after_build r (switch_leader kit) (built kit r)) number
      backed = sound_backed kit (built_filed kit r) fits.k_list built_sound

      ok : is_faulty builder.condition ≡ false
      ok = a.faulty_marked (switch_leader kit) ∙ fs

      op : is_closed builder.condition ≡ false
      op = not_true_false (is_closed builder.condition) (λ t. let z = own.common.closed_holds t in no_way (cc z.1))

pub next_build : (kit : Kit) → Roles kit → (r : Room) → Invariant kit r → (e : Event) (x j k : ℕ) → ToBuild kit r e x j k
    → Next kit r (after_build r x (record { j = j; k = k; list = built_list r x }))
unfolding built
next_build kit roles r a e x j k t =
    let z = t.leads in
    rw (z, t.counted_j, t.counted_k)
    (next_after_build kit roles r a (sym (a.faulty_marked (switch_leader kit)) ∙ rw z at t.correct) (rw z at t.free) (rw z at t.stopped))
