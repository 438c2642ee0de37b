-- How many histories are filed: seven by events 8, one by event 7, which is taken once at the most; a correct replica that holds none has issued
-- nothing on sw, and one that holds one has issued once; a faulty replica's counters have 96 places. In every play of any kit. In order: what is said
-- of a room (`FilesFew`), filing, holding and building, every event, every moment (`files_few`); then event 7: when it is taken, and once (`build_once`).
-- Assumes nothing.
use Rattle.std.proofs.Common.{◌≡◌, refl, ◌||◌, ◌≢◌, List, [], ◌∷◌, ℕ, suc, ◌≤◌, ◌<◌, length, take, eqb, sym, ap, ◌∙◌, eqb-true, ne_eqb, arith}
use Rattle.std.proofs.Math.Bool.{true, false, and-false, or-true}
use Rattle.std.specs.Prelude.{Option, None, Some, Ok, Err}
use Rattle.terms.specs.Limits.{ag, up, sw, name_max, filed_max}
use Rattle.terms.specs.Lists.{nth, is_some}
use Rattle.terms.specs.ListLaws.{split, no_way, length-snoc, or_l, eqb_same, or_r}
use Rattle.terms.specs.Kit.{Kit, Entry}
use Rattle.terms.specs.declared.Content.{Content}
use Rattle.terms.specs.declared.Event.{Event}
use Rattle.terms.specs.declared.Event.TheVariants.{Build}
use Rattle.terms.specs.declared.Act.{Act}
use Rattle.terms.specs.Numbers.{Decision}
use Rattle.terms.specs.declared.Deed.{Deed}
use Rattle.terms.specs.Numbers.{Taken}
use Rattle.terms.specs.declared.Refusal.TheVariants.{CannotBuild}
use Rattle.rules.specs.Table.{switch_leader}
use Rattle.rules.specs.Room.{Room, Replica, Filing, fresh_room, fresh_replica, with_replica, issue, with_history, hold}
use Rattle.rules.specs.Reading.{is_running, is_faulty}
use Rattle.rules.specs.Clock.{tick}
use Rattle.rules.specs.Outcome.{refuse_if}
use Rattle.rules.specs.Submit.{after_file}
use Rattle.rules.specs.Switching.{built, decide_build, after_build, after_hand}
use Rattle.rules.specs.Decide.{concerned, decide, acted, carried_out}
use Rattle.rules.specs.Play.{on_event, step, play, after, answer}
use Rattle.rules.proofs.Laws.Growth.{after_suc}
use Rattle.rules.proofs.Laws.Tested.{none_of, ToAct, Tested, tested}
use Rattle.rules.proofs.Laws.Holding.{Calm, FaultyFew, calm_submit, act_holds, calm_faulty_issue, calm_tick}
use Rattle.rules.proofs.Laws.Holding.{tick_keeps, after_keeps}

-- what a correct replica has issued on sw
pub record Switched (p : Replica) (sws : List Content) : Type 0 where
  pub silent : p.held ≡ None → sws ≡ []
  pub once : length sws ≤ 1

pub record FilesFew (kit : Kit) (r : Room) : Type 0 where
  pub filed_few : r.filed ≤ filed_max
  pub histories_few : length r.histories ≤ suc r.filed
  pub unbuilt : (r.replica (switch_leader kit)).held ≡ None → length r.histories ≡ r.filed
  pub switched : (x : ℕ) → is_faulty (r.replica x).condition ≡ false → Switched (r.replica x) (r.counter x sw)
  pub faulty_few : FaultyFew r
  -- and a correct replica has no other counters
  pub unnamed : (x name : ℕ) → is_faulty (r.replica x).condition ≡ false → name_max < name → r.counter x name ≡ []

few_calm : (kit : Kit) {r r₁ : Room} → Calm r r₁ → FilesFew kit r → FilesFew kit r₁
few_calm kit c h =
    record {
      filed_few = rw c.filed_same h.filed_few;
      histories_few = rw (c.filed_same, c.histories_same) h.histories_few;
      unbuilt = λ e. rw (c.filed_same, c.histories_same) (h.unbuilt (sym (c.held_same (switch_leader kit)) ∙ e));
      switched = λ x f.
          let fx = sym (c.faulty_same x) ∙ f in
          let s = h.switched x fx in
          rw (c.others_same x sw fx (omega arith)) (record { silent = λ e. s.silent (sym (c.held_same x) ∙ e); once = s.once });
      faulty_few = c.faulty_few h.faulty_few;
      unnamed = λ x n f l. let fx = sym (c.faulty_same x) ∙ f in c.others_same x n fx (omega arith) ∙ h.unnamed x n fx l;
    }

few_file : (kit : Kit) (r : Room) → FilesFew kit r → (j k : ℕ) (list : List ℕ) → r.filed < filed_max → FilesFew kit (after_file r j k list)
unfolding after_file with_history
few_file kit r h j k list l =
    let s = length-snoc r.histories (record { j = j; k = k; list = list }) in
    record {
      filed_few = omega arith;
      histories_few = omega (arith, s, h.histories_few);
      unbuilt = λ z. omega (arith, s, h.unbuilt z);
      switched = h.switched;
      faulty_few = h.faulty_few;
      unnamed = h.unnamed;
    }

-- correct replica x, which held nothing, holds h and issues SWITCH of it
module _ (kit : Kit) (r : Room) (few : FilesFew kit r) (x h : ℕ)
    (fx : is_faulty (r.replica x).condition ≡ false) (free : (r.replica x).held ≡ None) where
  switched_hold : (y : ℕ) → is_faulty ((after_hand r x h).replica y).condition ≡ false
      → Switched ((after_hand r x h).replica y) ((after_hand r x h).counter y sw)
  unfolding after_hand issue with_replica hold
  switched_hold y f =
      split (eqb y x)
      (λ t. rw (t, (few.switched x fx).silent free) (record { silent = λ e. no_way (cc); once = omega arith }))
      (λ t. rw t (few.switched y (rw t at f)))

  faulty_few_hold : FaultyFew (after_hand r x h)
  unfolding after_hand issue with_replica hold
  faulty_few_hold y n d =
      split (eqb y x)
      (λ t. let d₁ : is_faulty (r.replica x).condition ≡ true = rw t at d in no_way (cc))
      (λ t. let d₁ : is_faulty (r.replica y).condition ≡ true = rw t at d in rw (t, and-false (eqb n sw)) (few.faulty_few y n d₁))

  unnamed_hold : (y n : ℕ) → is_faulty ((after_hand r x h).replica y).condition ≡ false → name_max < n → (after_hand r x h).counter y n ≡ []
  unfolding after_hand issue with_replica hold
  unnamed_hold y n d l =
      let z : n ≢ sw = omega arith in
      rw (ne_eqb n sw z)
      (split (eqb y x)
      (λ t. let f : is_faulty (r.replica y).condition ≡ false = rw (eqb-true y x t) fx in few.unnamed y n f l)
      (λ t. few.unnamed y n (rw t at d) l))

few_hold : (kit : Kit) (r : Room) → FilesFew kit r → (x h : ℕ) → x ≢ switch_leader kit → is_faulty (r.replica x).condition ≡ false
    → (r.replica x).held ≡ None
    → FilesFew kit (after_hand r x h)
unfolding after_hand issue with_replica
few_hold kit r few x h d fx free =
    record {
      filed_few = few.filed_few;
      histories_few = few.histories_few;
      unbuilt = λ e. few.unbuilt (rw (ne_eqb (switch_leader kit) x (λ z. d (sym z))) at e);
      switched = switched_hold kit r few x h fx free;
      faulty_few = faulty_few_hold kit r few x h fx free;
      unnamed = unnamed_hold kit r few x h fx free;
    }

few_build : (kit : Kit) (r : Room) → FilesFew kit r → (filing : Filing) → is_faulty (r.replica (switch_leader kit)).condition ≡ false
    → (r.replica (switch_leader kit)).held ≡ None → FilesFew kit (after_build r (switch_leader kit) filing)
unfolding after_build issue with_replica with_history hold
few_build kit r few filing fs free =
    let s = switch_leader kit in
    record {
      filed_few = few.filed_few;
      histories_few = omega (arith, length-snoc r.histories filing, few.unbuilt free);
      unbuilt = λ z. let z₁ : ◌≡◌ {A = Option ℕ} (Some (length r.histories)) None = rw (eqb_same s) at z in no_way (cc);
      switched = λ y f.
          split (eqb y s)
          (λ t. rw (t, (few.switched s fs).silent free) (record { silent = λ z. no_way (cc); once = omega arith }))
          (λ t. rw t (few.switched y (rw t at f)));
      faulty_few = λ y n d.
          split (eqb y s)
          (λ t. let d₁ : is_faulty (r.replica s).condition ≡ true = rw t at d in no_way (cc))
          (λ t. let d₁ : is_faulty (r.replica y).condition ≡ true = rw t at d in
          rw (t, and-false (eqb n ag), and-false (eqb n up), and-false (eqb n sw)) (few.faulty_few y n d₁));
      unnamed = λ y n d l.
          let z₀ : n ≢ ag = omega arith in
          let z₁ : n ≢ up = omega arith in
          let z₂ : n ≢ sw = omega arith in
          rw (ne_eqb n ag z₀, ne_eqb n up z₁, ne_eqb n sw z₂)
          (split (eqb y s)
          (λ t. let f : is_faulty (r.replica y).condition ≡ false = rw (eqb-true y s t) fs in few.unnamed y n f l)
          (λ t. few.unnamed y n (rw t at d) l));
    }

module _ (kit : Kit) (r : Room) (few : FilesFew kit r) (e : Event) (x : ℕ) where
  few_acted : (act : Act) → ToAct kit r e x act → FilesFew kit (acted kit r x act)
  few_acted =
      act_holds kit r e x (FilesFew kit) (λ r₁ c. few_calm kit c few) (λ h t. few_hold kit r few x h t.other t.correct t.free)

  few_carried : (d : Decision) (list : List ℕ) → Tested kit r e x d → FilesFew kit (carried_out kit r x d list)
  unfolding carried_out
  few_carried (Err answer) list t = few
  few_carried (Ok (Deed.Submit request)) list t = few_calm kit (calm_submit kit r request) few
  few_carried (Ok (Deed.Issue y name content)) list t = few_calm kit (calm_faulty_issue kit r e x y name content t) few
  few_carried (Ok (Deed.Act act)) list t = few_acted act t
  few_carried (Ok Deed.Idle) list t = few
  few_carried (Ok (Deed.Build j k)) list t = rw t.leads (few_build kit r few _ (rw t.leads at t.correct) (rw t.leads at t.free))
  few_carried (Ok (Deed.File j k)) list t = few_file kit r few j k list t.few

few_event : (kit : Kit) (r : Room) → FilesFew kit r → (e : Event) (list : List ℕ) → FilesFew kit (on_event kit r e list).room
unfolding on_event
few_event kit r few e list = few_carried kit r few e (concerned kit e) (decide kit r e) list (tested kit r e)

pub few_tick : (kit : Kit) (r : Room) → FilesFew kit r → (gap : ℕ) → FilesFew kit (tick kit r gap)
few_tick kit r h gap = few_calm kit (calm_tick kit r gap) h

few_play : (kit : Kit) (r : Room) → FilesFew kit r → (es : List Entry) → FilesFew kit (play kit r es)
unfolding play step
few_play kit r h [] = h
few_play kit r h (e ∷ es) =
    few_play kit (on_event kit (tick kit r e.gap) e.event e.requests).room
    (few_event kit (tick kit r e.gap) (few_tick kit r h e.gap) e.event e.requests) es

few_fresh : (kit : Kit) → FilesFew kit (fresh_room kit)
unfolding fresh_room fresh_replica
few_fresh kit =
    record {
      filed_few = omega arith;
      histories_few = omega arith;
      unbuilt = λ e. refl;
      switched = λ x f. record { silent = λ e. refl; once = omega arith };
      faulty_few = λ x n f. omega arith;
      unnamed = λ x n f l. refl;
    }

pub files_few : (kit : Kit) (n : ℕ) → FilesFew kit (after kit n)
unfolding after
files_few kit n = few_play kit (fresh_room kit) (few_fresh kit) (take n kit.events)

-- ---- event 7

-- taken, the switch leader holds the history that it filed
pub built_held : (kit : Kit) (r : Room) → ((after_build r (switch_leader kit) (built kit r)).replica (switch_leader kit)).held ≡ Some (length r.histories)
unfolding after_build issue with_replica hold
built_held kit r = rw (eqb_same (switch_leader kit))

module _ (kit : Kit) (r : Room) where
  -- a room in which event 7 is taken
  pub record CanBuild (list : List ℕ) : Type 0 where
    pub correct : is_faulty (r.replica (switch_leader kit)).condition ≡ false
    pub free : (r.replica (switch_leader kit)).held ≡ None
    pub leaves : (on_event kit r Build list).room ≡ after_build r (switch_leader kit) (built kit r)

  pub taken_can : (list : List ℕ) → (on_event kit r Build list).answer ≡ Taken → CanBuild list
  unfolding on_event concerned decide decide_build refuse_if carried_out built
  taken_can list e =
      let p = r.replica (switch_leader kit) in
      let rest = is_running p.condition || is_some p.held in
      split (is_faulty p.condition || rest)
      (λ t. no_way (cc (rw t at e)))
      (λ t. record {
        correct = or_l (is_faulty p.condition) rest t;
        free = none_of p.held (or_r (is_running p.condition) (is_some p.held) (or_r (is_faulty p.condition) rest t));
        leaves = rw t;
      })

  -- while it holds one, event 7 is refused
  holding_refuses : (list : List ℕ) (h : ℕ) → (r.replica (switch_leader kit)).held ≡ Some h → (on_event kit r Build list).answer ≡ Err CannotBuild
  unfolding on_event decide decide_build refuse_if
  holding_refuses list h e = simp (e, or-true)

-- so it is taken once at the most
pub build_once : (kit : Kit) (m n gap gap₁ : ℕ) (list list₁ : List ℕ) → m < n
    → nth kit.events m ≡ Some (record { gap = gap; event = Build; requests = list }) → answer kit m ≡ Some Taken
    → nth kit.events n ≡ Some (record { gap = gap₁; event = Build; requests = list₁ }) → answer kit n ≡ Some (Err CannotBuild)
unfolding answer step
build_once kit m n gap gap₁ list list₁ l em t en =
    let found = tick kit (after kit m) gap in
    let t₁ : Some (on_event kit found Build list).answer ≡ Some Taken = rw em at t in
    let leaves = (taken_can kit found list (cc t₁)).leaves in
    let held : ((after kit (suc m)).replica (switch_leader kit)).held ≡ Some (length found.histories) =
    rw (after_suc kit m _ em, leaves) (built_held kit found) in
    let later = (after_keeps kit (suc m) n l).held (switch_leader kit) _ held in
    rw en (ap Some (holding_refuses kit (tick kit (after kit n) gap₁) list₁ _ ((tick_keeps kit (after kit n) gap₁).held (switch_leader kit) _ later)))
