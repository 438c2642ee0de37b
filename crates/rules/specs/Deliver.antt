-- Kind 3: a certificate and its content are delivered to one replica, on ag, up or sw. For each content what is expected, and so decided, and what is
-- then done; at the end the answers in their order. Assumes nothing.
use Rattle.std.specs.Prelude.{Bool, false, not, ◌&&◌, ◌||◌, List, ℕ, zero, suc, length, get_or, leb, ltb, eqb, Option, None, Some, Ok}
use Rattle.terms.specs.Limits.{ag, up, sw}
use Rattle.terms.specs.Lists.{pick, is_some, count_below}
use Rattle.terms.specs.Mark.{next_mark, mark_of}
use Rattle.terms.specs.Kit.{Kit}
use Rattle.terms.specs.declared.Content.{Content}
use Rattle.terms.specs.declared.Content.TheVariants.{Prepare, Commit, Update, Switch}
use Rattle.terms.specs.declared.Condition.{Condition}
use Rattle.terms.specs.declared.Condition.TheVariants.{Closed}
use Rattle.terms.specs.declared.Refusal.TheVariants.{NotIssued, ReceiverFaulty, TooLate, TooEarly, NotNext, WrongRoles, Unexpected}
use Rattle.terms.specs.declared.Act.TheVariants as Act
use Rattle.terms.specs.Numbers.{Decision}
use Rattle.terms.specs.declared.Deed.{Deed}
use Rattle.rules.specs.Room.{Replica, Room, with_replica, with_condition, with_mark, note, accept, issue}
use Rattle.rules.specs.Reading.{is_running, is_closed, is_faulty, is_content, first_of, second_of, ag_total, settled_count, held_list}
use Rattle.rules.specs.Sight.{Sight, is_new}
use Rattle.rules.specs.Outcome.{refuse_if}

-- ---- settling

-- replica x, whose record is now p, had settled c and now has settled d: when that has risen it executes the request that comes next and
-- issues its UPDATE on up
unfoldable pub settle : Room → ℕ → Replica → ℕ → ℕ → Room
settle r x p c d =
    let request = get_or p.noted c 0 in
    let mark = next_mark p.mark request in
    pick (ltb c d) (issue (with_replica r x (with_mark p mark)) x up (Update request mark)) (with_replica r x p)

-- ---- on ag, from the leader

-- expected: PREPARE of a submitted request not yet noted
unfoldable pub decide_prepare : (ℕ → Bool) → ℕ → ℕ → Option Content → Decision
decide_prepare new sender value content =
    let request = first_of content in
    refuse_if (not (is_content content (Prepare request) && new request)) Unexpected (Ok (Deed.Act (Act.Prepare sender value request)))

-- the receiver notes it and issues COMMIT on ag naming that leader value
unfoldable pub after_prepare : Kit → Room → ℕ → ℕ → ℕ → ℕ → Room
after_prepare kit r sender value to request =
    let p = r.replica to in
    let noting = accept (note p request) sender ag value in
    let own = ag_total r to in
    settle (issue r to ag (Commit request value)) to noting (settled_count kit to p own) (settled_count kit to noting (suc own))

-- ---- on ag, from another active replica, value i

-- expected: COMMIT with b = i of the receiver's noted request i, which must exist
unfoldable pub decide_commit : ℕ → (ℕ → ℕ) → ℕ → ℕ → Option Content → Decision
decide_commit noted_count noted_at sender value content =
    refuse_if (not (leb value noted_count && is_content content (Commit (noted_at value) value))) Unexpected (Ok (Deed.Act (Act.Commit sender value)))

unfoldable pub after_commit : Kit → Room → ℕ → ℕ → ℕ → Room
after_commit kit r sender value to =
    let p = r.replica to in
    let accepting = accept p sender ag value in
    let own = ag_total r to in
    settle r to accepting (settled_count kit to p own) (settled_count kit to accepting own)

unfoldable pub decide_ag : Sight → ℕ → ℕ → Option Content → Decision
decide_ag s sender value content =
    pick (eqb sender s.leader) (decide_prepare (is_new s) sender value content)
    (decide_commit s.noted_count s.noted_at sender value content)

-- ---- on up, value i

-- where the receiver has noted i pairs or more, expected: UPDATE equal to pair i
unfoldable pub decide_pair : (ℕ → ℕ) → (ℕ → ℕ) → ℕ → ℕ → Option Content → Decision
decide_pair noted_at pair_mark_at sender value content =
    refuse_if (not (is_content content (Update (noted_at value) (pair_mark_at value)))) Unexpected (Ok (Deed.Act (Act.KnownPair sender value)))

-- else: UPDATE of a submitted request not yet noted
unfoldable pub decide_update : (ℕ → Bool) → ℕ → ℕ → Option Content → Decision
decide_update new sender value content =
    let request = first_of content in
    let mark = second_of content in
    refuse_if (not (is_content content (Update request mark) && new request)) Unexpected (Ok (Deed.Act (Act.NewPair sender value request mark)))

-- pair c's mark, 0 before the first
abbrev pub mark_of_pair : List ℕ → ℕ → ℕ
mark_of_pair marks zero = 0
mark_of_pair marks (suc c) = get_or marks c 0

-- the receiver, whose record is now p, has the mark of its last settled pair
unfoldable pub after_update : Kit → Room → ℕ → Replica → Room
after_update kit r to p = with_replica r to (with_mark p (mark_of_pair p.pair_marks (settled_count kit to p 0)))

unfoldable pub decide_up : Sight → ℕ → ℕ → Option Content → Decision
decide_up s sender value content =
    pick (leb value s.noted_count) (decide_pair s.noted_at s.pair_mark_at sender value content) (decide_update (is_new s) sender value content)

-- ---- on sw

abbrev pub expects_switch : Option ℕ → Option Content → Bool
expects_switch None content = false
expects_switch (Some h) content = is_content content (Switch h)

-- expected: SWITCH of the history that the receiver holds
unfoldable pub decide_sw : Option ℕ → ℕ → ℕ → Option Content → Decision
decide_sw held sender value content = refuse_if (not (expects_switch held content)) Unexpected (Ok (Deed.Act (Act.Switch sender value)))

-- of how many replicas a SWITCH was accepted. All are other replicas: a certificate of the receiver's own is refused for its roles
unfoldable pub switches : Kit → Replica → ℕ
switches kit p = count_below (length kit.table) (λ y. leb 1 (p.accepted y sw))

-- with f other replicas accepted, so that with itself it counts f+1, the receiver, whose record is now p, closes: it has settled the whole list
-- that it holds, its mark is that list's
unfoldable pub after_switch : Kit → Room → ℕ → Replica → Room
after_switch kit r to p =
    pick (leb kit.f (switches kit p))
    (with_replica r to (with_mark (with_condition p Closed) (mark_of (held_list r p.held))))
    (with_replica r to p)

-- ---- the answers in their order

-- a certificate's sender, name and value, and its receiver
pub record Delivery : Type 0 where
  pub sender : ℕ
  pub name : ℕ
  pub value : ℕ
  pub to : ℕ

-- on ag or up to a halted or closed receiver; on sw to a closed one
unfoldable pub is_too_late : ℕ → Condition → Bool
is_too_late name condition = pick (eqb name sw) (is_closed condition) (not (is_running condition))

-- the sender is not the receiver; ag needs both active; up needs an active sender and a passive receiver
unfoldable pub has_wrong_roles : (ℕ → Bool) → ℕ → ℕ → ℕ → Bool
has_wrong_roles active sender name to =
    eqb sender to
    || pick (eqb name ag) (not (active sender && active to))
    (pick (eqb name up) (not (active sender && not (active to))) false)

-- the content is the one expected on that counter, or not
unfoldable pub decide_content : Sight → ℕ → ℕ → ℕ → Option Content → Decision
decide_content s sender name value content =
    pick (eqb name ag) (decide_ag s sender value content)
    (pick (eqb name up) (decide_up s sender value content) (decide_sw s.held sender value content))

-- once the certificate is known to be issued: by what the receiver has, which replicas are active, the last value that it accepted of that counter, and
-- the content
unfoldable pub decide_receive : Sight → (ℕ → Bool) → ℕ → Delivery → Option Content → Decision
decide_receive s active last d content =
    refuse_if (is_too_late d.name s.condition) TooLate
    (refuse_if (eqb d.name sw && not (is_some s.held)) TooEarly
    (refuse_if (has_wrong_roles active d.sender d.name d.to) WrongRoles
    (refuse_if (not (eqb d.value (suc last))) NotNext
    (decide_content s d.sender d.name d.value content))))

-- by the same; there is a content where the certificate was issued
unfoldable pub decide_deliver : Sight → (ℕ → Bool) → ℕ → Delivery → Option Content → Decision
decide_deliver s active last d content =
    refuse_if (is_faulty s.condition) ReceiverFaulty
    (refuse_if (not (is_some content)) NotIssued
    (decide_receive s active last d content))
