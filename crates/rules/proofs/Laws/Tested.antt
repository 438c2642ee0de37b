-- What was tested where an event is decided: a decision that is not a refusal says which event it is, and that every test of its row failed. One law
-- over the table of answers; the laws over all events go by it and by what is then done. In order: the rows, a record for each (`ToPrepare` … `ToFile`);
-- the law, event by event and then as one (`tested`). Assumes nothing.
use Rattle.std.proofs.Common.{◌≡◌, Bool, ◌&&◌, ◌||◌, ◌≢◌, List, ℕ, suc, ◌≤◌, ◌<◌, length, eqb, subst, arith, eqb-true, leb-true, leb-false}
use Rattle.std.proofs.Math.Path.{refl}
use Rattle.std.proofs.Math.Bool.{true, false, not}
use Rattle.std.specs.Prelude.{Option, None, Some, Ok, Err}
use Prim.{Unit, tt}
use Rattle.std.proofs.Math.Dec.{leb}
use borrow.Author.Tests.{eqb-false}
use Rattle.terms.specs.declared.Refusal.{Refusal}
use Rattle.terms.specs.Limits.{ag, up, sw, places_max, requests_max, filed_max}
use Rattle.terms.specs.Lists.{nth, holds, is_some}
use Rattle.terms.specs.ListLaws.{pick_elim, no_way, and_l, and_r, or_l, or_r, not_was_true, not_was_false}
use Rattle.terms.specs.Kit.{Kit, GoodEvent}
use Rattle.terms.specs.declared.Content.{Content}
use Rattle.terms.specs.declared.Event.{Event}
use Rattle.terms.specs.declared.Act.{Act}
use Rattle.terms.specs.Numbers.{Decision}
use Rattle.terms.specs.declared.Deed.{Deed}
use Rattle.rules.specs.Table.{is_active, switch_leader}
use Rattle.rules.specs.Room.{Room}
use Rattle.rules.specs.Reading.{is_running, is_closed, is_faulty, entry_at, content_at, is_content, first_of, second_of}
use Rattle.rules.proofs.Laws.ReadingLaws.{is_content_same}
use Rattle.rules.specs.Sight.{sight_of}
use Rattle.rules.specs.Outcome.{refuse_if}
use Rattle.rules.specs.Submit.{names_unfiled, decide_submit, decide_issue, decide_file}
use Rattle.rules.specs.Deliver.{decide_prepare, decide_commit, decide_ag, decide_pair, decide_update, decide_up, decide_sw, is_too_late, has_wrong_roles}
use Rattle.rules.specs.Deliver.{decide_content, decide_receive, decide_deliver}
use Rattle.rules.specs.Switching.{built, decide_panic, decide_build, is_valid_filing, decide_hold, decide_hand}
use Rattle.rules.specs.Decide.{concerned, decide}

pub none_of : (o : Option ℕ) → is_some o ≡ false → o ≡ None
none_of None e = refl
none_of (Some n) e = no_way (cc)

-- ---- the rows

module _ (kit : Kit) (r : Room) (e : Event) (x : ℕ) where
  -- kind 3: the receiver is correct and may take it, and it is the next of that counter
  pub record Delivered (sender name value : ℕ) : Type 0 where
    pub event : e ≡ Event.Deliver sender name value x
    pub correct : is_faulty (r.replica x).condition ≡ false
    pub in_time : is_too_late name (r.replica x).condition ≡ false
    pub not_early : (eqb name sw && not (is_some (r.replica x).held)) ≡ false
    pub roles : has_wrong_roles (is_active kit) sender name x ≡ false
    pub next : value ≡ suc ((r.replica x).accepted sender name)

  -- a request that the receiver notes
  pub record New (request : ℕ) : Type 0 where
    pub is_submitted_lem : holds request r.submitted ≡ true
    pub not_noted : holds request (r.replica x).noted ≡ false

  pub record ToPrepare (sender value request : ℕ) : Type 0 where
    pub delivered : Delivered sender ag value
    pub from_leader : sender ≡ kit.leader
    pub content : content_at (r.counter sender ag) value ≡ Some (Content.Prepare request)
    pub new : New request

  pub record ToCommit (sender value : ℕ) : Type 0 where
    pub delivered : Delivered sender ag value
    pub from_other : sender ≢ kit.leader
    pub exists : value ≤ length (r.replica x).noted
    pub content : content_at (r.counter sender ag) value ≡ Some (Content.Commit (entry_at (r.replica x).noted value) value)

  pub record ToKnownPair (sender value : ℕ) : Type 0 where
    pub delivered : Delivered sender up value
    pub exists : value ≤ length (r.replica x).noted
    pub content
        : content_at (r.counter sender up) value ≡ Some (Content.Update (entry_at (r.replica x).noted value) (entry_at (r.replica x).pair_marks value))

  pub record ToNewPair (sender value request mark : ℕ) : Type 0 where
    pub delivered : Delivered sender up value
    pub beyond : length (r.replica x).noted < value
    pub content : content_at (r.counter sender up) value ≡ Some (Content.Update request mark)
    pub new : New request

  -- any name but ag and up: in a good kit that is sw
  pub record ToSwitch (sender value : ℕ) : Type 0 where
    pub name : ℕ
    pub not_ag : name ≢ ag
    pub not_up : name ≢ up
    pub delivered : Delivered sender name value

  pub on_sw : {sender value : ℕ} (size : ℕ) (list : List ℕ) → GoodEvent size e list → ToSwitch sender value → Delivered sender sw value
  on_sw {sender} {value} size list good t =
      let named = (subst (λ (event : Event). GoodEvent size event list) t.delivered.event good).1 in
      let is : t.name ≡ sw = omega (arith, t.not_ag, t.not_up, named) in
      subst (λ (name : ℕ). Delivered sender name value) is t.delivered

  pub record ToHand (h : ℕ) : Type 0 where
    pub p : ℕ
    pub q : ℕ
    pub event : e ≡ Event.Hand p q x
    pub correct : is_faulty (r.replica x).condition ≡ false
    pub free : (r.replica x).held ≡ None
    pub not_closed : is_closed (r.replica x).condition ≡ false
    pub stopped : is_running (r.replica x).condition ≡ false
    pub other : x ≢ switch_leader kit
    pub valid : is_valid_filing kit r p q h (nth r.histories h) ≡ true

  pub record ToPanic : Type 0 where
    pub event : e ≡ Event.Panic x
    pub correct : is_faulty (r.replica x).condition ≡ false
    pub running : is_running (r.replica x).condition ≡ true

  abbrev pub ToAct : Act → Type 0
  ToAct (Act.Prepare sender value request) = ToPrepare sender value request
  ToAct (Act.Commit sender value) = ToCommit sender value
  ToAct (Act.KnownPair sender value) = ToKnownPair sender value
  ToAct (Act.NewPair sender value request mark) = ToNewPair sender value request mark
  ToAct (Act.Switch sender value) = ToSwitch sender value
  ToAct (Act.Hand h) = ToHand h
  ToAct Act.Panic = ToPanic

  pub record ToSubmit (request : ℕ) : Type 0 where
    pub event : e ≡ Event.Submit request
    pub leads : x ≡ kit.leader
    pub new : holds request r.submitted ≡ false
    pub few : length r.submitted < requests_max

  pub record ToIssue (y name : ℕ) (content : Content) : Type 0 where
    pub event : e ≡ Event.Issue y name content
    pub own : y ≡ x
    pub faulty : is_faulty (r.replica y).condition ≡ true
    pub named : names_unfiled (length r.histories) content ≡ false
    pub few : length (r.counter y name) < places_max

  pub record ToBuild (j k : ℕ) : Type 0 where
    pub event : e ≡ Event.Build
    pub leads : x ≡ switch_leader kit
    pub correct : is_faulty (r.replica x).condition ≡ false
    pub stopped : is_running (r.replica x).condition ≡ false
    pub free : (r.replica x).held ≡ None
    pub counted_j : j ≡ (built kit r).j
    pub counted_k : k ≡ (built kit r).k

  pub record ToFile (j k : ℕ) : Type 0 where
    pub event : e ≡ Event.File j k
    pub few : r.filed < filed_max

  -- a refusal says nothing
  abbrev pub Tested : Decision → Type 0
  Tested (Err answer) = Unit
  Tested (Ok (Deed.Submit request)) = ToSubmit request
  Tested (Ok (Deed.Issue y name content)) = ToIssue y name content
  Tested (Ok (Deed.Act act)) = ToAct act
  Tested (Ok Deed.Idle) = e ≡ Event.Idle
  Tested (Ok (Deed.Build j k)) = ToBuild j k
  Tested (Ok (Deed.File j k)) = ToFile j k

-- ---- the law

module _ (kit : Kit) (r : Room) where
  -- down a chain of refusals: of what follows a test it is known that the test failed
  past : (e : Event) (x : ℕ) (t : Bool) (a : Refusal) (d : Decision) → (t ≡ false → Tested kit r e x d) → Tested kit r e x (refuse_if t a d)
  unfolding refuse_if
  past e x true a d f = tt
  past e x false a d f = f refl

  module _ (sender value to : ℕ) where
    abbrev on : ℕ → Event
    on name = Event.Deliver sender name value to

    tested_ag
        : Delivered kit r (on ag) to sender ag value
        → Tested kit r (on ag) to (decide_ag (sight_of kit r to) sender value (content_at (r.counter sender ag) value))
    unfolding decide_ag decide_prepare decide_commit
    tested_ag given =
        let content = content_at (r.counter sender ag) value in
        let request = first_of content in
        let submitted = holds request r.submitted in
        let noted = holds request (r.replica to).noted in
        let is = is_content content (Content.Prepare request) in
        let commit = Content.Commit (entry_at (r.replica to).noted value) value in
        let few = leb value (length (r.replica to).noted) in
        pick_elim (Tested kit r (on ag) to) (eqb sender kit.leader)
        (λ l. past (on ag) to _ _ _ λ u.
        let w = not_was_false (is && (submitted && not noted)) u in
        let n = and_r is (submitted && not noted) w in
        record {
          delivered = given;
          from_leader = eqb-true sender kit.leader l;
          content = is_content_same content (Content.Prepare request) (and_l is (submitted && not noted) w);
          new = record { is_submitted_lem = and_l submitted (not noted) n; not_noted = not_was_true noted (and_r submitted (not noted) n) };
        })
        (λ l. past (on ag) to _ _ _ λ u.
        let w = not_was_false (few && is_content content commit) u in
        record {
          delivered = given;
          from_other = eqb-false sender kit.leader l;
          exists = leb-true value (length (r.replica to).noted) (and_l few (is_content content commit) w);
          content = is_content_same content commit (and_r few (is_content content commit) w);
        })

    tested_up
        : Delivered kit r (on up) to sender up value
        → Tested kit r (on up) to (decide_up (sight_of kit r to) sender value (content_at (r.counter sender up) value))
    unfolding decide_up decide_pair decide_update
    tested_up given =
        let content = content_at (r.counter sender up) value in
        let request = first_of content in
        let submitted = holds request r.submitted in
        let noted = holds request (r.replica to).noted in
        let is = is_content content (Content.Update request (second_of content)) in
        let pair = Content.Update (entry_at (r.replica to).noted value) (entry_at (r.replica to).pair_marks value) in
        pick_elim (Tested kit r (on up) to) (leb value (length (r.replica to).noted))
        (λ l. past (on up) to _ _ _ λ u. record {
          delivered = given;
          exists = leb-true value (length (r.replica to).noted) l;
          content = is_content_same content pair (not_was_false (is_content content pair) u);
        })
        (λ l. past (on up) to _ _ _ λ u.
        let w = not_was_false (is && (submitted && not noted)) u in
        let n = and_r is (submitted && not noted) w in
        record {
          delivered = given;
          beyond = leb-false value (length (r.replica to).noted) l;
          content = is_content_same content (Content.Update request (second_of content)) (and_l is (submitted && not noted) w);
          new = record { is_submitted_lem = and_l submitted (not noted) n; not_noted = not_was_true noted (and_r submitted (not noted) n) };
        })

  tested_deliver : (sender name value to : ℕ) → Tested kit r (Event.Deliver sender name value to) to (decide kit r (Event.Deliver sender name value to))
  unfolding decide decide_deliver decide_receive decide_content decide_sw
  tested_deliver sender name value to =
      let e = Event.Deliver sender name value to in
      let last = (r.replica to).accepted sender name in
      past e to _ _ _ λ correct. past e to _ _ _ λ issued. past e to _ _ _ λ in_time. past e to _ _ _ λ not_early. past e to _ _ _ λ roles. past e to _ _ _ λ n.
      let next = eqb-true value (suc last) (not_was_false (eqb value (suc last)) n) in
      let given : Delivered kit r e to sender name value =
      record { event = refl; correct = correct; in_time = in_time; not_early = not_early; roles = roles; next = next } in
      pick_elim (Tested kit r e to) (eqb name ag)
      (λ t. let z = eqb-true name ag t in rw z (tested_ag sender value to (rw z at given)))
      (λ t. pick_elim (Tested kit r e to) (eqb name up)
      (λ u. let z = eqb-true name up u in rw z (tested_up sender value to (rw z at given)))
      (λ u. past e to _ _ _ λ v. record { name = name; not_ag = eqb-false name ag t; not_up = eqb-false name up u; delivered = given }))

  tested_hand : (p q to : ℕ) → Tested kit r (Event.Hand p q to) to (decide kit r (Event.Hand p q to))
  unfolding decide decide_hand decide_hold
  tested_hand p q to =
      let e = Event.Hand p q to in
      let c = (r.replica to).condition in
      let h = first_of (content_at (r.counter (switch_leader kit) ag) p) in
      past e to _ _ _ λ correct. past e to _ _ _ λ issued. past e to _ _ _ λ in_time. past e to _ _ _ λ stopped. past e to _ _ _ λ other. past e to _ _ _ λ v.
      record {
        p = p;
        q = q;
        event = refl;
        correct = correct;
        free = none_of (r.replica to).held (or_l (is_some (r.replica to).held) (is_closed c) in_time);
        not_closed = or_r (is_some (r.replica to).held) (is_closed c) in_time;
        stopped = stopped;
        other = eqb-false to (switch_leader kit) other;
        valid = not_was_false (is_valid_filing kit r p q h (nth r.histories h)) v;
      }

  tested_build : Tested kit r Event.Build (switch_leader kit) (decide kit r Event.Build)
  unfolding decide decide_build
  tested_build =
      let s = switch_leader kit in
      let p = r.replica s in
      let rest = is_running p.condition || is_some p.held in
      past Event.Build s _ _ _ λ t.
      record {
        event = refl;
        leads = refl;
        correct = or_l (is_faulty p.condition) rest t;
        stopped = or_l (is_running p.condition) (is_some p.held) (or_r (is_faulty p.condition) rest t);
        free = none_of p.held (or_r (is_running p.condition) (is_some p.held) (or_r (is_faulty p.condition) rest t));
        counted_j = refl;
        counted_k = refl;
      }

pub tested : (kit : Kit) (r : Room) (e : Event) → Tested kit r e (concerned kit e) (decide kit r e)
unfolding decide concerned decide_submit decide_issue decide_panic decide_file
tested kit r (Event.Submit request) =
    past kit r _ kit.leader _ _ _ λ new. past kit r _ kit.leader _ _ _ λ few.
    record { event = refl; leads = refl; new = new; few = leb-false requests_max (length r.submitted) few }
tested kit r (Event.Issue x name content) =
    past kit r _ x _ _ _ λ f. past kit r _ x _ _ _ λ named. past kit r _ x _ _ _ λ few.
    record {
      event = refl;
      own = refl;
      faulty = not_was_false (is_faulty (r.replica x).condition) f;
      named = named;
      few = leb-false places_max (length (r.counter x name)) few;
    }
tested kit r (Event.Deliver sender name value to) = tested_deliver kit r sender name value to
tested kit r (Event.Hand p q to) = tested_hand kit r p q to
tested kit r (Event.Panic to) =
    past kit r _ to _ _ _ λ correct. past kit r _ to _ _ _ λ t.
    record { event = refl; correct = correct; running = not_was_false (is_running (r.replica to).condition) t }
tested kit r Event.Idle = refl
tested kit r Event.Build = tested_build kit r
tested kit r (Event.File j k) = past kit r _ 0 _ _ _ λ few. record { event = refl; few = leb-false filed_max r.filed few }
