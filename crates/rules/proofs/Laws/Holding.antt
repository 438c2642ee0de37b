-- What stays with a replica once it has it: a held history, a closed condition, being faulty. In every play of any kit. In order: what stays
-- (`Keeps`); events other than filing, building and handing over (`Calm`), change by change, and every act of a replica (`act_holds`); every event
-- (`event_keeps`) and every two moments (`after_keeps`). Assumes nothing.
use Rattle.std.specs.Prelude.{◌≡◌, true, false, ◌&&◌, ◌≢◌, List, [], ◌∷◌, ◌++◌, ℕ, ◌≤◌, ◌<◌, length, get_or, eqb, ltb, leb, None, Some, Ok, Err}
use Rattle.std.proofs.Math.Path.{refl}
use Rattle.std.proofs.Common.{sym, ap, ◌∙◌, arith, eqb-true, ne_eqb}
use Rattle.terms.specs.Limits.{ag, up, sw, places_max}
use Rattle.terms.specs.Lists.{pick}
use Rattle.terms.specs.ListLaws.{split, pick_elim, no_way, length-snoc}
use Rattle.terms.specs.Mark.{next_mark}
use Rattle.terms.specs.Kit.{Kit, Entry}
use Rattle.terms.specs.declared.Content.{Content}
use Rattle.terms.specs.declared.Event.{Event}
use Rattle.terms.specs.declared.Act.{Act}
use Rattle.terms.specs.Numbers.{Decision}
use Rattle.terms.specs.declared.Deed.{Deed}
use Rattle.rules.specs.Room.{Room, Replica, with_clock, with_late, with_replica, issue, with_history, remember}
use Rattle.rules.specs.Room.{with_condition, with_mark, note, note_pair, accept, hold}
use Rattle.rules.proofs.Laws.RoomLaws.{replica_other, counter_other}
use Rattle.rules.specs.Reading.{is_running, is_closed, is_faulty}
use Rattle.rules.proofs.Laws.ReadingLaws.{running_open, running_correct}
use Rattle.rules.specs.Clock.{tick}
use Rattle.rules.specs.Submit.{after_submit, after_file}
use Rattle.rules.specs.Deliver.{settle, after_prepare, after_commit, after_update, switches, after_switch}
use Rattle.rules.specs.Switching.{after_panic, after_build, after_hand}
use Rattle.rules.specs.Decide.{concerned, decide, acted, carried_out}
use Rattle.rules.specs.Play.{on_event, step, play, after}
use Rattle.rules.proofs.Laws.Growth.{after_later}
use Rattle.rules.proofs.Laws.Tested.{ToHand, ToAct, ToIssue, Tested, tested}

-- ---- what stays

pub record Keeps (r r₁ : Room) : Type 0 where
  pub held : (x h : ℕ) → (r.replica x).held ≡ Some h → (r₁.replica x).held ≡ Some h
  pub closed : (x : ℕ) → is_closed (r.replica x).condition ≡ true → is_closed (r₁.replica x).condition ≡ true
  pub faulty : (x : ℕ) → is_faulty (r₁.replica x).condition ≡ is_faulty (r.replica x).condition
  -- a faulty replica's record is never touched
  pub untouched : (x : ℕ) → is_faulty (r.replica x).condition ≡ true → r₁.replica x ≡ r.replica x

pub keeps_refl : (r : Room) → Keeps r r
keeps_refl r = record { held = λ x h e. e; closed = λ x e. e; faulty = λ x. refl; untouched = λ x e. refl }

pub keeps_trans : {a b c : Room} → Keeps a b → Keeps b c → Keeps a c
keeps_trans f g =
    record {
      held = λ x h e. g.held x h (f.held x h e);
      closed = λ x e. g.closed x (f.closed x e);
      faulty = λ x. g.faulty x ∙ f.faulty x;
      untouched = λ x e. g.untouched x (f.faulty x ∙ e) ∙ f.untouched x e;
    }

-- ---- events other than filing, building and handing over: everyone holds what it held

-- a faulty replica's counters have 96 places
abbrev pub FaultyFew : Room → Type 0
FaultyFew r = (x name : ℕ) → is_faulty (r.replica x).condition ≡ true → length (r.counter x name) ≤ places_max

pub record Calm (r r₁ : Room) : Type 0 where
  pub histories_same : r₁.histories ≡ r.histories
  pub filed_same : r₁.filed ≡ r.filed
  pub held_same : (x : ℕ) → (r₁.replica x).held ≡ (r.replica x).held
  pub closed_kept : (x : ℕ) → is_closed (r.replica x).condition ≡ true → is_closed (r₁.replica x).condition ≡ true
  pub faulty_same : (x : ℕ) → is_faulty (r₁.replica x).condition ≡ is_faulty (r.replica x).condition
  pub untouched_here : (x : ℕ) → is_faulty (r.replica x).condition ≡ true → r₁.replica x ≡ r.replica x
  -- a correct replica issues on ag and up only
  pub others_same : (x name : ℕ) → is_faulty (r.replica x).condition ≡ false → sw ≤ name → r₁.counter x name ≡ r.counter x name
  pub faulty_few : FaultyFew r → FaultyFew r₁

calm_keeps : {r r₁ : Room} → Calm r r₁ → Keeps r r₁
calm_keeps c = record { held = λ x h e. c.held_same x ∙ e; closed = c.closed_kept; faulty = c.faulty_same; untouched = c.untouched_here }

-- a room that has the same records, counters and histories
calm_same : {r r₁ : Room} → r₁.replica ≡ r.replica → r₁.counter ≡ r.counter → r₁.histories ≡ r.histories → r₁.filed ≡ r.filed → Calm r r₁
calm_same ep ec eh ef =
    record {
      histories_same = eh;
      filed_same = ef;
      held_same = λ x. rw ep;
      closed_kept = λ x e. rw ep e;
      faulty_same = λ x. rw ep;
      untouched_here = λ x e. rw ep;
      others_same = λ x n e l. rw ec;
      faulty_few = λ f x n d. rw ec (f x n (rw ep at d));
    }

calm_trans : {a b c : Room} → Calm a b → Calm b c → Calm a c
calm_trans f g =
    record {
      histories_same = g.histories_same ∙ f.histories_same;
      filed_same = g.filed_same ∙ f.filed_same;
      held_same = λ x. g.held_same x ∙ f.held_same x;
      closed_kept = λ x e. g.closed_kept x (f.closed_kept x e);
      faulty_same = λ x. g.faulty_same x ∙ f.faulty_same x;
      untouched_here = λ x e. g.untouched_here x (f.faulty_same x ∙ e) ∙ f.untouched_here x e;
      others_same = λ x n e l. g.others_same x n (f.faulty_same x ∙ e) l ∙ f.others_same x n e l;
      faulty_few = λ h. g.faulty_few (f.faulty_few h);
    }

-- a correct replica issues on ag or up
calm_issue : (r : Room) (x name : ℕ) (c : Content) → name < sw → is_faulty (r.replica x).condition ≡ false → Calm r (issue r x name c)
unfolding issue
calm_issue r x name c small fx =
    record {
      histories_same = refl;
      filed_same = refl;
      held_same = λ y. refl;
      closed_kept = λ y d. d;
      faulty_same = λ y. refl;
      untouched_here = λ y d. refl;
      others_same = λ y n d l. let z : n ≢ name = omega arith in rw (ne_eqb n name z);
      faulty_few = λ f y n d. let z : y ≢ x = λ w. no_way (cc (rw w at d)) in rw (counter_other r x name c y n z) (f y n d);
    }

-- a faulty one issues on any counter that has a place left
calm_faulty : (r : Room) (x name : ℕ) (c : Content) → is_faulty (r.replica x).condition ≡ true → length (r.counter x name) < places_max
    → Calm r (issue r x name c)
unfolding issue
calm_faulty r x name c fx room =
    record {
      histories_same = refl;
      filed_same = refl;
      held_same = λ y. refl;
      closed_kept = λ y d. d;
      faulty_same = λ y. refl;
      untouched_here = λ y d. refl;
      others_same = λ y n d l. let z : y ≢ x = λ w. no_way (cc (rw w at d)) in counter_other r x name c y n z;
      faulty_few = λ f y n d.
          let z : length (r.counter x name ++ (c ∷ [])) ≤ places_max = omega (arith, length-snoc (r.counter x name) c) in
          pick_elim (λ (l : List Content). length l ≤ places_max) (eqb n name && eqb y x) (λ t. z) (λ t. f y n d);
    }

calm_remember : (r : Room) (request : ℕ) → Calm r (remember r request)
unfolding remember
calm_remember r request = calm_same refl refl refl refl

calm_record : (r : Room) (x : ℕ) (p : Replica) → p.held ≡ (r.replica x).held
    → (is_closed (r.replica x).condition ≡ true → is_closed p.condition ≡ true)
    → is_faulty p.condition ≡ false → is_faulty (r.replica x).condition ≡ false → Calm r (with_replica r x p)
unfolding with_replica
calm_record r x p eh ec fp fx =
    record {
      histories_same = refl;
      filed_same = refl;
      held_same = λ y. split (eqb y x) (λ t. rw (t, eqb-true y x t) eh) (λ t. rw t);
      closed_kept = λ y d. split (eqb y x) (λ t. rw t (ec (rw (eqb-true y x t) at d))) (λ t. rw t d);
      faulty_same = faulty_now;
      untouched_here = λ y d. let z : y ≢ x = λ w. no_way (cc (rw w at d)) in replica_other r x p y z;
      others_same = λ y n d l. refl;
      faulty_few = λ f y n d. f y n (sym (faulty_now y) ∙ d);
    }
  where
    faulty_now : (y : ℕ) → is_faulty (pick (eqb y x) p (r.replica y)).condition ≡ is_faulty (r.replica y).condition
    faulty_now y = split (eqb y x) (λ t. rw (t, eqb-true y x t) (fp ∙ sym fx)) (λ t. rw t)

pub calm_tick : (kit : Kit) (r : Room) (gap : ℕ) → Calm r (tick kit r gap)
unfolding tick with_clock with_late
calm_tick kit r gap = calm_same refl refl refl refl

-- x settles: its record becomes p, and it may issue on up
calm_settle : (r : Room) (x : ℕ) (p : Replica) (c d : ℕ) → p.held ≡ (r.replica x).held → p.condition ≡ (r.replica x).condition
    → is_faulty (r.replica x).condition ≡ false
    → Calm r (settle r x p c d)
unfolding settle with_mark
calm_settle r x p c d eh ec fx =
    pick_elim (λ z. Calm r z) (ltb c d)
    (λ t. let moved = calm_record r x (with_mark p (next_mark p.mark (get_or p.noted c 0))) eh (λ e. rw ec e) (ap is_faulty ec ∙ fx) fx in
    calm_trans moved (calm_issue _ x up _ (omega arith) (moved.faulty_same x ∙ fx)))
    (λ t. calm_record r x p eh (λ e. rw ec e) (ap is_faulty ec ∙ fx) fx)

pub calm_submit : (kit : Kit) (r : Room) (request : ℕ) → Calm r (after_submit kit r request)
unfolding after_submit note remember
calm_submit kit r request =
    let leader = kit.leader in
    let asked = remember r request in
    pick_elim (λ z. Calm r z) (is_running (r.replica leader).condition)
    (λ t. let run = running_correct (r.replica leader).condition t in
    let noted = calm_record asked leader (note (r.replica leader) request) refl (λ e. e) run run in
    calm_trans (calm_remember r request)
    (calm_trans noted (calm_issue (with_replica asked leader (note (r.replica leader) request)) leader ag _ (omega arith)
    (noted.faulty_same leader ∙ run))))
    (λ t. calm_remember r request)

module _ (kit : Kit) (r : Room) (e : Event) (x : ℕ) where
  -- whatever x does, everyone holds what it held, or x takes hold of a history: what is true of both is true of every act
  pub act_holds : (P : Room → Type 0) → ((r₁ : Room) → Calm r r₁ → P r₁) → ((h : ℕ) → ToHand kit r e x h → P (after_hand r x h))
      → (act : Act) → ToAct kit r e x act → P (acted kit r x act)
  unfolding acted after_prepare after_commit after_update after_switch after_panic accept note note_pair with_mark with_condition issue
  act_holds P calm holds (Act.Prepare sender value request) t =
      let fx = t.delivered.correct in calm _ (calm_trans (calm_issue r x ag _ (omega arith) fx) (calm_settle _ x _ _ _ refl refl fx))
  act_holds P calm holds (Act.Commit sender value) t = calm _ (calm_settle r x _ _ _ refl refl t.delivered.correct)
  act_holds P calm holds (Act.KnownPair sender value) t = let fx = t.delivered.correct in calm _ (calm_record r x _ refl (λ d. d) fx fx)
  act_holds P calm holds (Act.NewPair sender value request mark) t =
      let fx = t.delivered.correct in calm _ (calm_record r x _ refl (λ d. d) fx fx)
  act_holds P calm holds (Act.Switch sender value) t =
      let fx = t.delivered.correct in
      calm _ (pick_elim (λ z. Calm r z) (leb kit.f (switches kit (accept (r.replica x) sender sw value)))
      (λ closes. calm_record r x _ refl (λ d. refl) refl fx) (λ waits. calm_record r x _ refl (λ d. d) fx fx))
  act_holds P calm holds (Act.Hand history) t = holds history t
  act_holds P calm holds Act.Panic t =
      calm _ (calm_record r x _ refl (λ d. no_way (cc (running_open (r.replica x).condition t.running, d))) refl t.correct)

  pub calm_faulty_issue : (y name : ℕ) (content : Content) → ToIssue kit r e x y name content → Calm r (issue r y name content)
  calm_faulty_issue y name content t = calm_faulty r y name content t.faulty t.few

-- ---- every event

-- a replica that holds nothing takes hold of a history
keeps_hold : (r : Room) (x h : ℕ) → is_faulty (r.replica x).condition ≡ false → (r.replica x).held ≡ None → Keeps r (with_replica r x (hold (r.replica x) h))
unfolding with_replica hold
keeps_hold r x h fx free =
    record {
      held = λ y n e. split (eqb y x) (λ t. let z = eqb-true y x t in no_way (cc (rw z at e))) (λ t. rw t e);
      closed = λ y e. split (eqb y x) (λ t. rw t (rw (eqb-true y x t) at e)) (λ t. rw t e);
      faulty = λ y. split (eqb y x) (λ t. rw (t, eqb-true y x t)) (λ t. rw t);
      untouched = λ y d. let z : y ≢ x = λ w. no_way (cc (rw w at d)) in replica_other r x (hold (r.replica x) h) y z;
    }

-- records are all that it looks at
keeps_records : {r a b : Room} → b.replica ≡ a.replica → Keeps r a → Keeps r b
keeps_records e k = record { held = rw e k.held; closed = rw e k.closed; faulty = rw e k.faulty; untouched = rw e k.untouched }

module _ (kit : Kit) (r : Room) (e : Event) (x : ℕ) where
  keeps_acted : (act : Act) → ToAct kit r e x act → Keeps r (acted kit r x act)
  unfolding after_hand issue
  keeps_acted =
      act_holds kit r e x (λ z. Keeps r z) (λ r₁ c. calm_keeps c) (λ h t. keeps_records refl (keeps_hold r x h t.correct t.free))

  keeps_carried : (d : Decision) (list : List ℕ) → Tested kit r e x d → Keeps r (carried_out kit r x d list)
  unfolding carried_out after_build after_file issue with_replica with_history
  keeps_carried (Err answer) list t = keeps_refl r
  keeps_carried (Ok (Deed.Submit request)) list t = calm_keeps (calm_submit kit r request)
  keeps_carried (Ok (Deed.Issue y name content)) list t = calm_keeps (calm_faulty_issue kit r e x y name content t)
  keeps_carried (Ok (Deed.Act act)) list t = keeps_acted act t
  keeps_carried (Ok Deed.Idle) list t = keeps_refl r
  keeps_carried (Ok (Deed.Build j k)) list t = keeps_records refl (keeps_hold r x _ t.correct t.free)
  keeps_carried (Ok (Deed.File j k)) list t = keeps_records refl (keeps_refl r)

pub event_keeps : (kit : Kit) (r : Room) (e : Event) (list : List ℕ) → Keeps r (on_event kit r e list).room
unfolding on_event
event_keeps kit r e list = keeps_carried kit r e (concerned kit e) (decide kit r e) list (tested kit r e)

pub tick_keeps : (kit : Kit) (r : Room) (gap : ℕ) → Keeps r (tick kit r gap)
tick_keeps kit r gap = calm_keeps (calm_tick kit r gap)

pub step_keeps : (kit : Kit) (r : Room) (e : Entry) → Keeps r (step kit r e).room
unfolding step
step_keeps kit r e = keeps_trans (tick_keeps kit r e.gap) (event_keeps kit _ e.event e.requests)

pub play_keeps : (kit : Kit) (r : Room) (es : List Entry) → Keeps r (play kit r es)
unfolding play
play_keeps kit r [] = keeps_refl r
play_keeps kit r (e ∷ es) = keeps_trans (step_keeps kit r e) (play_keeps kit (step kit r e).room es)

pub after_keeps : (kit : Kit) (m n : ℕ) → m ≤ n → Keeps (after kit m) (after kit n)
after_keeps kit m n l = rw (after_later kit m n l) (play_keeps kit (after kit m) _)
