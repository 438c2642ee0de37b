-- On a room's own parts, within its bounds, and for a good event, what Decided says is what the rules decide. Assumes nothing.
use Rattle.std.specs.Prelude.{◌≡◌, List, ℕ, ◌-◌, ◌<◌}
use Rattle.std.proofs.Math.Path.{refl, fun_ext}
use Rattle.std.proofs.Common.{arith}
use Rattle.std.proofs.lemmas.Bool.{lt-leb}
use Rattle.terms.specs.Limits.{replicas, replicas_max, ag, up, names, requests_max}
use Rattle.terms.specs.Padding.{pad, take_pad, get_or_pad}
use Rattle.terms.specs.Kit.{Kit, GoodKit, GoodEvent}
use Rattle.terms.specs.declared.Content.{Content}
use Rattle.terms.specs.declared.Event.{Event}
use Rattle.terms.specs.Numbers.{Decision}
use Rattle.rules.specs.Table.{is_active, switch_leader}
use Rattle.rules.specs.Room.{Room}
use Rattle.rules.specs.Reading.{entry_at, ag_total}
use Rattle.rules.specs.Sight.{sight_of}
use Rattle.rules.specs.Switching.{built}
use Rattle.rules.specs.Decide.{concerned, decide}
use Rattle.ledger.specs.LedgerLaws.{total_laid}
use Rattle.replica.specs.declared.Replica.{Replica}
use Rattle.replica.specs.Record.{active_in}
use Rattle.replica.specs.RecordLayout.{lay_replica}
use Rattle.replica.specs.RecordLaws.{accepted_laid, active_laid, settled_laid}
use Rattle.terms.specs.declared.Roles.{Roles}
use Rattle.room.specs.Layout.{Parts, lay_roles, lay_table, lay_submissions, lay_desk, lay_room}
use Rattle.room.specs.Bounds.{Bounds}
use Rattle.room.specs.GoodLaws.{size_max, leader_max, switch_max, concerned_below}
use Rattle.decide.specs.Decided.{below_seven, concerned_in, sight_in, decide_on}
use Rattle.decide.specs.ValidLaws.{content_laid, valid_laid}

-- ---- an event decided on the player's parts

-- p is the record of the replica concerned
unfoldable pub decided_on : Roles → Parts → Replica → Event → Decision
decided_on roles parts p event = decide_on event p parts.desk roles parts.submissions parts.histories parts.book

-- ---- who is concerned

below_is : (n : ℕ) → n < replicas_max → below_seven n ≡ n
unfolding below_seven
below_is n h = rw (lt-leb replicas_max n h)

pub concerned_laid : (kit : Kit) (event : Event) (list : List ℕ) → GoodKit kit → GoodEvent (replicas kit.f) event list
    → concerned_in event (lay_roles kit) ≡ concerned kit event
unfolding concerned_in lay_roles concerned
concerned_laid kit event list k g = below_is (concerned kit event) (concerned_below kit event list k g)

-- ---- the parts are asked what the room is asked

-- and they answer the same
sight_laid : (kit : Kit) (r : Room) (known x : ℕ)
    → sight_in (lay_replica (r.replica x)) (lay_desk r known) (lay_roles kit) (lay_submissions r) ≡ sight_of kit r x
unfolding lay_replica lay_desk lay_roles lay_submissions
sight_laid kit r known x =
    let p = r.replica x in
    let noted : entry_at (pad requests_max p.noted) ≡ entry_at p.noted = fun_ext (λ i. get_or_pad requests_max p.noted (i - 1)) in
    let marks : entry_at (pad requests_max p.pair_marks) ≡ entry_at p.pair_marks = fun_ext (λ i. get_or_pad requests_max p.pair_marks (i - 1)) in
    rw (noted, marks, take_pad requests_max r.submitted, take_pad requests_max p.noted)

actives_in : (kit : Kit) → active_in (lay_table kit) ≡ is_active kit
unfolding lay_table
actives_in kit = fun_ext (active_laid kit)

-- ---- by kind

module _ (kit : Kit) (r : Room) (b : Bounds kit r) (known : ℕ) where
  -- the event decided with the record of replica x
  abbrev decided : ℕ → Event → Decision
  decided x event = decided_on (lay_roles kit) (lay_room r known) (lay_replica (r.replica x)) event

  submit_laid : (x request : ℕ) → decided x (Event.Submit request) ≡ decide kit r (Event.Submit request)
  unfolding decided_on decide_on lay_room lay_submissions lay_desk decide
  submit_laid x request = rw (take_pad requests_max r.submitted)

  issue_laid : (x name : ℕ) (content : Content) → x < replicas_max → name < names
      → decided x (Event.Issue x name content) ≡ decide kit r (Event.Issue x name content)
  unfolding decided_on decide_on lay_room lay_desk lay_replica decide
  issue_laid x name content hx hn = rw (total_laid r.counter x name hx hn)

  panic_laid : (to : ℕ) → decided to (Event.Panic to) ≡ decide kit r (Event.Panic to)
  unfolding decided_on decide_on lay_replica decide
  panic_laid to = refl

  idle_laid : (x : ℕ) → decided x Event.Idle ≡ decide kit r Event.Idle
  unfolding decided_on decide_on decide
  idle_laid x = refl

  file_laid : (x j k : ℕ) → decided x (Event.File j k) ≡ decide kit r (Event.File j k)
  unfolding decided_on decide_on lay_room lay_desk decide
  file_laid x j k = refl

  deliver_laid : (sender name value to : ℕ) → sender < replicas_max → name < names
      → decided to (Event.Deliver sender name value to) ≡ decide kit r (Event.Deliver sender name value to)
  unfolding decided_on decide_on lay_room lay_submissions lay_desk lay_roles decide
  deliver_laid sender name value to hs hn =
      rw (content_laid kit r b sender name value hs hn, sight_laid kit r known to, actives_in kit, accepted_laid (r.replica to) sender name hs hn)

  hand_laid : (p q to : ℕ) → decided to (Event.Hand p q to) ≡ decide kit r (Event.Hand p q to)
  unfolding decided_on decide_on lay_room lay_submissions lay_desk lay_roles lay_replica decide
  hand_laid p q to =
      let s = switch_leader kit in
      let first = content_laid kit r b s ag p (switch_max b.good) (omega arith) in
      let second = content_laid kit r b s up q (switch_max b.good) (omega arith) in
      rw (first, second, take_pad requests_max r.submitted, fun_ext (λ h. valid_laid kit r b h p q))

  build_laid : decided (switch_leader kit) Event.Build ≡ decide kit r Event.Build
  unfolding decided_on decide_on lay_room lay_roles lay_table lay_replica decide built
  build_laid =
      let s = switch_leader kit in
      let p = r.replica s in
      let total = total_laid r.counter s ag (switch_max b.good) (omega arith) in
      rw (total, settled_laid kit p (size_max b.good) s (ag_total r s) (leader_max b.good))

-- the law: a good event, decided with the record of the replica concerned, is decided as the rules decide it
pub decided_laid : (kit : Kit) (r : Room) (known : ℕ) (event : Event) (list : List ℕ) → Bounds kit r → GoodEvent (replicas kit.f) event list
    → decided_on (lay_roles kit) (lay_room r known) (lay_replica (r.replica (concerned kit event))) event ≡ decide kit r event
unfolding concerned
decided_laid kit r known (Event.Submit request) list b g = submit_laid kit r b known kit.leader request
decided_laid kit r known (Event.Issue replica name content) list b g =
    issue_laid kit r b known replica name content (omega (arith, g.0, b.good.f_high)) (omega (arith, g.1))
decided_laid kit r known (Event.Deliver sender name value to) list b g =
    deliver_laid kit r b known sender name value to (omega (arith, g.0, b.good.f_high)) (omega (arith, g.1))
decided_laid kit r known (Event.Hand p q to) list b g = hand_laid kit r b known p q to
decided_laid kit r known (Event.Panic to) list b g = panic_laid kit r b known to
decided_laid kit r known Event.Idle list b g = idle_laid kit r b known 0
decided_laid kit r known Event.Build list b g = build_laid kit r b known
decided_laid kit r known (Event.File j k) list b g = file_laid kit r b known 0 j k
