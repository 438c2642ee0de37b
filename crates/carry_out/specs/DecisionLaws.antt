-- Each decision done on the parts of a laid-out room gives the room in which the rules have carried it out, laid out; the premises are what the
-- decision itself has tested. First what holds of any replica that acts (its record and the counters laid out, its condition, settling), then, in
-- one module over the kit and the room, each decision: those on ag, those on up, those on sw, and what is entered (submissions, filed histories).
-- The one law over all events: DoneLaws. Assumes nothing.
use Rattle.std.specs.Prelude.{◌≡◌, refl, true, false, List, [], ◌∷◌, ◌++◌, ℕ, suc, ◌≤◌, ◌<◌, take, get_or, leb, ltb, Some, Ok, Err}
use Rattle.std.proofs.Common.{◌∙◌, arith, lt-ltb}
use Rattle.std.proofs.Math.Path.{ap}
use Rattle.std.proofs.Math.Numerals.{add-one}
use Rattle.std.proofs.Math.ListN.{length, set}
use borrow.Author.Tests.{lt-leb}
use Rattle.terms.specs.Limits.{replicas_max, ag, up, sw, names, places_max, requests_max, histories_max}
use Rattle.terms.specs.Lists.{pick, holds}
use Rattle.terms.specs.ListLaws.{split, length-snoc, eqb_same}
use Rattle.terms.specs.Padding.{pad, take_pad, set_pad}
use Rattle.terms.specs.Mark.{next_mark, mark_of}
use Rattle.terms.specs.Kit.{Kit}
use Rattle.terms.specs.declared.Content.{Content}
use Rattle.terms.specs.declared.Condition.TheVariants.{Halted, Closed}
use Rattle.terms.specs.declared.Refusal.{Refusal}
use Rattle.rules.specs.Room.{Room, Filing, put1, with_replica, with_history, issue, remember, with_condition, with_mark, note, note_pair, accept, hold}
use Rattle.rules.specs.Room as Rules
use Rattle.rules.specs.Reading.{is_running, is_faulty, settled_count, held_list, ag_total}
use Rattle.rules.proofs.Laws.ReadingLaws.{running_correct}
use Rattle.rules.specs.Submit.{after_submit, after_file}
use Rattle.rules.specs.Deliver.{settle, after_prepare, after_commit, after_update, after_switch, switches, mark_of_pair}
use Rattle.rules.specs.Switching.{missing, after_panic, built_list, after_build, after_hand}
use Rattle.ledger.specs.LedgerLayout.{lay_book}
use Rattle.ledger.specs.LedgerLaws.{total_laid, issue_laid}
use Rattle.replica.specs.RecordLayout.{lay_replica}
use Rattle.replica.specs.RecordLaws.{note_laid, note_pair_laid, accept_laid, halt_laid, hold_laid}
use Rattle.terms.specs.declared.Act.TheVariants as Act
use Rattle.terms.specs.Numbers.{Decision}
use Rattle.terms.specs.declared.Deed.{Deed}
use Rattle.terms.specs.declared.Deed.TheVariants.{Submit, Issue, Idle, Build, File}
use Rattle.room.specs.Desk.{counted_on}
use Rattle.rules.specs.Decide.{acted, carried_out}
use Rattle.room.specs.Layout.{Parts, lay_room, lay_submissions, lay_desk, lay_roles, history_of, lay_histories}
use Rattle.room.specs.LayoutLaws.{store_history, store_replica, keep_replica}
use Rattle.room.specs.GoodLaws.{size_max, leader_max}
use Rattle.room.specs.Bounds.{Bounds}
use Rattle.room.specs.BoundsLaws.{noting_fits, noted_submissions, built_fits}
use Rattle.carry_out.specs.Enter.{built_on, entered, store_request, file_on, enter_on}
use Rattle.carry_out.specs.Apply.{applied, settle_on, lead_on, prepare_on, commit_on, hand_on, build_on, act_on, apply_on}
use Rattle.carry_out.specs.Done.{entering, acting, done_on}
use Rattle.carry_out.specs.ApplyLaws.{Counters, issued_more, built_laid, count_laid, pair_laid, switch_laid, settle_laid}

-- ---- what replica `me` does

-- the room with these counters and this record
abbrev with_acts : Room → Counters → ℕ → Rules.Replica → Room
with_acts r g me p =
    record {
      clock = r.clock;
      late = r.late;
      submitted = r.submitted;
      ticks = r.ticks;
      histories = r.histories;
      filed = r.filed;
      counter = g;
      replica = put1 r.replica me p;
    }

acted_laid : (r : Room) (known : ℕ) (g : Counters) (me : ℕ) (p : Rules.Replica)
    → acting (lay_room r known) me (applied (lay_replica p) (lay_book g)) ≡ lay_room (with_acts r g me p) known
unfolding lay_room lay_submissions lay_desk
acted_laid r known g me p = rw (store_replica r.replica me p)

-- its record stays
stays_laid : (r : Room) (known : ℕ) (me : ℕ) → me < replicas_max
    → acting (lay_room r known) me (applied (lay_replica (r.replica me)) (lay_book r.counter)) ≡ lay_room r known
unfolding lay_room
stays_laid r known me below = rw (keep_replica r.replica me below)

-- replica x issues, its record stays
issued_laid : (r : Room) (known me x name : ℕ) (content : Content) → me < replicas_max
    → acting (lay_room r known) me (applied (lay_replica (r.replica me)) (lay_book (issued_more r.counter x name content)))
    ≡ lay_room (issue r x name content) known
unfolding lay_room lay_submissions lay_desk issue
issued_laid r known me x name content below = rw (keep_replica r.replica me below)

-- ---- what is read off a condition

condition_laid : (p : Rules.Replica) → is_running (lay_replica p).condition ≡ is_running p.condition
unfolding lay_replica
condition_laid p = refl

-- ---- settling

settled_as : (r : Room) (known me c d : ℕ) (p : Rules.Replica) → me < replicas_max → length p.noted ≤ requests_max → length (r.counter me up) < places_max
    → acting (lay_room r known) me (settle_on (lay_replica p) c d me (lay_book r.counter)) ≡ lay_room (settle r me p c d) known
unfolding settle with_replica issue
settled_as r known me c d p below h room =
    let request = get_or p.noted c 0 in
    let mark = next_mark p.mark request in
    ap (acting (lay_room r known) me) (settle_laid p r.counter c d me below h room)
    ∙ split (ltb c d)
    (λ e. rw e (acted_laid r known (issued_more r.counter me up (Content.Update request mark)) me (with_mark p mark)))
    (λ e. rw e (acted_laid r known r.counter me p))

-- ---- each decision

module _ (kit : Kit) (r : Room) (known : ℕ) (b : Bounds kit r) (me : ℕ) (below : me < replicas_max) where
  -- what is claimed of a decision
  abbrev pub Done : Decision → List ℕ → Type 0
  Done decision list =
      done_on (lay_roles kit) (lay_room r known) (lay_replica (r.replica me)) me decision (pad requests_max list) (length list)
      ≡ lay_room (carried_out kit r me decision list) known

  abbrev p : Rules.Replica
  p = r.replica me

  own_room : (name : ℕ) → is_faulty p.condition ≡ false → length (r.counter me name) < places_max
  own_room name e = omega (arith, b.own_max me name e)

  -- its counter has one more
  grown : (name : ℕ) (content : Content) → length (issued_more r.counter me name content me name) ≡ suc (length (r.counter me name))
  grown name content = rw (eqb_same name, eqb_same me) (length-snoc (r.counter me name) content)

  pairs_max : length p.pair_marks ≤ requests_max
  pairs_max = omega (arith, (b.replicas me).pairs_noted, (b.replicas me).noted_max)

  histories_max_lem : length r.histories ≤ histories_max
  histories_max_lem = omega (arith, b.histories_filed, b.filed_max_lem)

  -- nothing is done
  pub done_refuse : (answer : Refusal) (list : List ℕ) → Done (Err answer) list
  unfolding done_on enter_on apply_on counted_on carried_out lay_room
  done_refuse answer list = stays_laid r known me below

  pub done_idle : (list : List ℕ) → Done (Ok Idle) list
  unfolding done_on enter_on apply_on counted_on carried_out lay_room
  done_idle list = stays_laid r known me below

  pub done_issue : (x name : ℕ) (content : Content) (list : List ℕ) → x < replicas_max → name < names → length (r.counter x name) < places_max
      → Done (Ok (Issue x name content)) list
  unfolding done_on enter_on apply_on counted_on carried_out lay_room
  done_issue x name content list xb nb room =
      rw (issue_laid r.counter x name xb nb content room) (issued_laid r known me x name content below)

  -- ---- on ag

  pub done_commit : (sender value : ℕ) (list : List ℕ) → sender < replicas_max → is_faulty p.condition ≡ false
      → Done (Ok (Deed.Act (Act.Commit sender value))) list
  unfolding done_on enter_on apply_on act_on counted_on carried_out acted lay_room lay_roles after_commit commit_on accept
  done_commit sender value list sb correct =
      let q = accept p sender ag value in
      let own = ag_total r me in
      let settled = count_laid kit (size_max b.good) (leader_max b.good) in
      rw (total_laid r.counter me ag below (omega arith), accept_laid p sender ag value sb (omega arith), settled p me own, settled q me own)
      (settled_as r known me (settled_count kit me p own) (settled_count kit me q own) q below (b.replicas me).noted_max (own_room up correct))

  pub done_prepare : (sender value request : ℕ) (list : List ℕ) → sender < replicas_max → is_faulty p.condition ≡ false
      → holds request r.submitted ≡ true → holds request p.noted ≡ false
      → Done (Ok (Deed.Act (Act.Prepare sender value request))) list
  unfolding done_on enter_on apply_on act_on counted_on carried_out acted lay_room lay_submissions lay_desk lay_roles after_prepare prepare_on issue note accept
  done_prepare sender value request list sb correct is new =
      let fits : length p.noted < requests_max = noting_fits b me request is new in
      let q = accept (note p request) sender ag value in
      let own = ag_total r me in
      let content = Content.Commit request value in
      let r₁ = issue r me ag content in
      let settled = count_laid kit (size_max b.good) (leader_max b.good) in
      rw (total_laid r.counter me ag below (omega arith), note_laid p request fits, accept_laid (note p request) sender ag value sb (omega arith))
      (rw (settled p me own, issue_laid r.counter me ag below (omega arith) content (own_room ag correct))
      (rw (total_laid r₁.counter me ag below (omega arith), grown ag content, settled q me (suc own))
      (settled_as r₁ known me (settled_count kit me p own) (settled_count kit me q (suc own)) q below
      (omega (arith, length-snoc p.noted request)) (own_room up correct))))

  -- ---- on up

  pub done_known_pair : (sender value : ℕ) (list : List ℕ) → sender < replicas_max → Done (Ok (Deed.Act (Act.KnownPair sender value))) list
  unfolding done_on enter_on apply_on act_on counted_on carried_out acted lay_room lay_roles after_update accept with_replica
  done_known_pair sender value list sb =
      let q = accept p sender up value in
      rw (pair_laid kit (size_max b.good) (leader_max b.good) p sender value me sb pairs_max)
      (acted_laid r known r.counter me (with_mark q (mark_of_pair p.pair_marks (settled_count kit me q 0))))

  pub done_new_pair : (sender value request mark : ℕ) (list : List ℕ) → sender < replicas_max
      → holds request r.submitted ≡ true → holds request p.noted ≡ false → Done (Ok (Deed.Act (Act.NewPair sender value request mark))) list
  unfolding done_on enter_on apply_on act_on counted_on carried_out acted lay_room lay_roles after_update accept note_pair with_replica
  done_new_pair sender value request mark list sb is new =
      let fits : length p.noted < requests_max = noting_fits b me request is new in
      let q = accept (note_pair p request mark) sender up value in
      let pair_fits : length p.pair_marks < requests_max = omega (arith, (b.replicas me).pairs_noted) in
      rw (
        note_pair_laid p request mark fits pair_fits,
        pair_laid kit (size_max b.good) (leader_max b.good) (note_pair p request mark) sender value me sb
            (omega (arith, length-snoc p.pair_marks mark)),
      )
      (acted_laid r known r.counter me (with_mark q (mark_of_pair q.pair_marks (settled_count kit me q 0))))

  -- ---- on sw

  pub done_switch : (sender value : ℕ) (list : List ℕ) → sender < replicas_max → Done (Ok (Deed.Act (Act.Switch sender value))) list
  unfolding done_on enter_on apply_on act_on counted_on carried_out acted lay_room lay_roles after_switch accept with_replica
  done_switch sender value list sb =
      let q = accept p sender sw value in
      rw (switch_laid kit (size_max b.good) (leader_max b.good) p sender value r sb histories_max_lem)
      (split (leb kit.f (switches kit q))
      (λ e. rw e (acted_laid r known r.counter me (with_mark (with_condition q Closed) (mark_of (held_list r p.held)))))
      (λ e. rw e (acted_laid r known r.counter me q)))

  pub done_hand : (history : ℕ) (list : List ℕ) → is_faulty p.condition ≡ false → Done (Ok (Deed.Act (Act.Hand history))) list
  unfolding done_on enter_on apply_on act_on counted_on carried_out acted lay_room hand_on after_hand issue with_replica
  done_hand history list correct =
      let content = Content.Switch history in
      rw (hold_laid p history, issue_laid r.counter me sw below (omega arith) content (own_room sw correct))
      (acted_laid r known (issued_more r.counter me sw content) me (hold p history))

  pub done_panic : (list : List ℕ) → is_running p.condition ≡ true → Done (Ok (Deed.Act Act.Panic)) list
  unfolding done_on enter_on apply_on act_on counted_on carried_out acted after_panic lay_room with_replica
  done_panic list running = rw (halt_laid p running) (acted_laid r known r.counter me (with_condition p Halted))

  -- ---- what is entered

  remembered : (request : ℕ) → length r.submitted < requests_max
      → entering (lay_room r known) (Ok (Submit request))
      (entered (store_request (length r.submitted) request r.clock (lay_submissions r)) (lay_histories r.histories))
      ≡ lay_room (remember r request) known
  unfolding lay_room lay_submissions lay_desk remember counted_on store_request
  remembered request room =
      let n = length r.submitted in
      let ticked : set (pad requests_max r.ticks) n r.clock ≡ pad requests_max (r.ticks ++ (r.clock ∷ [])) =
      rw (← b.ticks_length) (set_pad requests_max r.ticks r.clock (omega (arith, b.ticks_length))) in
      rw (
        lt-leb requests_max n room,
        set_pad requests_max r.submitted request room,
        ticked,
        lt-ltb n requests_max room,
        length-snoc r.submitted request,
        add-one n,
      )

  -- a running leader prepares
  led : (request : ℕ) → length p.noted < requests_max
      → acting (lay_room (remember r request) known) me (lead_on (lay_replica p) request me (lay_book r.counter))
      ≡ lay_room
      (pick (is_running p.condition) (issue (with_replica (remember r request) me (note p request)) me ag (Content.Prepare request))
      (remember r request)) known
  unfolding lead_on remember with_replica issue
  led request fits =
      let r₁ = remember r request in
      let content = Content.Prepare request in
      split (is_running p.condition)
      (λ e.
      rw (
        condition_laid p,
        e,
        note_laid p request fits,
        issue_laid r.counter me ag below (omega arith) content (own_room ag (running_correct p.condition e)),
      )
      (acted_laid r₁ known (issued_more r.counter me ag content) me (note p request)))
      (λ e. rw (condition_laid p, e) (stays_laid r₁ known me below))

  pub done_submit : (request : ℕ) (list : List ℕ) → me ≡ kit.leader → length r.submitted < requests_max → Done (Ok (Submit request)) list
  unfolding done_on enter_on apply_on carried_out lay_room lay_desk after_submit
  done_submit request list is_leader room =
      let fits : length p.noted < requests_max = omega (arith, noted_submissions (b.replicas me)) in
      ap (λ (parts : Parts). acting parts me (lead_on (lay_replica p) request me (lay_book r.counter))) (remembered request room)
      ∙ led request fits
      ∙ rw is_leader

  filed_as : (decision : Decision) (h : Filing) (n : ℕ) → length r.histories < histories_max
      → counted_on (lay_desk r known) decision ≡ lay_desk (with_history r h n) known
      → entering (lay_room r known) decision
      (entered (lay_submissions r) (file_on (length r.histories) (history_of (Some h)) (lay_histories r.histories)))
      ≡ lay_room (with_history r h n) known
  unfolding lay_room lay_submissions file_on with_history
  filed_as decision h n room counted = rw (counted, lt-leb histories_max (length r.histories) room, store_history r.histories h)

  pub done_file : (j k : ℕ) (list : List ℕ) → length r.histories < histories_max → r.filed < histories_max → Done (Ok (File j k)) list
  unfolding done_on enter_on apply_on carried_out after_file lay_room with_history lay_desk counted_on
  done_file j k list room filed =
      let h : Filing = record { j = j; k = k; list = list } in
      let n = length r.histories in
      let counted : counted_on (lay_desk r known) (Ok (File j k)) ≡ lay_desk (with_history r h (suc r.filed)) known =
      rw (lt-ltb n 8 room, lt-ltb r.filed 8 filed, length-snoc r.histories h, add-one n, add-one r.filed) in
      ap (λ (parts : Parts). acting parts me (applied (lay_replica p) (lay_book r.counter))) (filed_as (Ok (File j k)) h (suc r.filed) room counted)
      ∙ stays_laid (with_history r h (suc r.filed)) known me below

  -- the history that it builds
  abbrev filing : ℕ → ℕ → Filing
  filing j k = record { j = j; k = k; list = p.noted ++ missing p.noted r.submitted }

  history_built : (j k : ℕ) → built_on (lay_replica p) (take (length r.submitted) (lay_submissions r).requests) j k ≡ history_of (Some (filing j k))
  unfolding lay_submissions
  history_built j k = rw (take_pad requests_max r.submitted) (built_laid p r.submitted j k (omega (arith, built_fits (b.replicas me), b.submitted_max)))

  -- HISTORY on ag and up, SWITCH on sw
  abbrev announced : Counters
  announced =
      let h = length r.histories in
      issued_more (issued_more (issued_more r.counter me ag (Content.History h)) me up (Content.History h)) me sw (Content.Switch h)

  announces : is_faulty p.condition ≡ false → length r.histories < histories_max
      → build_on (lay_replica p) (length r.histories) me (lay_book r.counter) ≡ applied (lay_replica (hold p (length r.histories))) (lay_book announced)
  unfolding build_on hand_on
  announces correct room =
      let h = length r.histories in
      let g₁ = issued_more r.counter me ag (Content.History h) in
      let g₂ = issued_more g₁ me up (Content.History h) in
      rw (lt-leb histories_max h room, hold_laid p h, issue_laid r.counter me ag below (omega arith) (Content.History h) (own_room ag correct))
      (rw (issue_laid g₁ me up below (omega arith) (Content.History h) (own_room up correct))
      (rw (issue_laid g₂ me sw below (omega arith) (Content.Switch h) (own_room sw correct))))

  pub done_build : (j k : ℕ) (list : List ℕ) → is_faulty p.condition ≡ false → length r.histories < histories_max → Done (Ok (Build j k)) list
  unfolding done_on enter_on apply_on carried_out lay_room with_history lay_desk counted_on after_build built_list with_replica issue
  done_build j k list correct room =
      let h = filing j k in
      let n = length r.histories in
      let r₁ = with_history r h r.filed in
      let counted : counted_on (lay_desk r known) (Ok (Build j k)) ≡ lay_desk r₁ known = rw (lt-ltb n 8 room, length-snoc r.histories h, add-one n) in
      rw (history_built j k, announces correct room)
      (ap (λ (parts : Parts). acting parts me (applied (lay_replica (hold p n)) (lay_book announced))) (filed_as (Ok (Build j k)) h r.filed room counted)
      ∙ acted_laid r₁ known announced me (hold p n))
