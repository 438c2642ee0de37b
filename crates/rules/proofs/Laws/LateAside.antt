-- No event looks at the late tick: in a room with another one it comes to the same, with that late tick. Assumes nothing.
use Rattle.std.specs.Prelude.{◌≡◌, Bool, true, false, List, ℕ, leb, ltb, Option, None, Some, Ok, Err}
use Rattle.std.proofs.Math.Path.{refl, ap, fun_ext}
use Rattle.terms.specs.Limits.{ag, sw}
use Rattle.terms.specs.Lists.{pick, nth}
use Rattle.terms.specs.Kit.{Kit}
use Rattle.terms.specs.declared.Content.TheVariants.{Commit}
use Rattle.terms.specs.declared.Event.{Event}
use Rattle.terms.specs.declared.Event.TheVariants.{Submit, Issue, Deliver, Hand, Panic, Idle, Build, File}
use Rattle.terms.specs.declared.Act.{Act}
use Rattle.terms.specs.Numbers.{Decision}
use Rattle.terms.specs.declared.Deed.{Deed}
use Rattle.rules.specs.Room.{Filing, Replica, Room, with_late, with_replica, with_history, remember, issue, accept}
use Rattle.rules.specs.Reading.{is_running}
use Rattle.rules.proofs.Laws.ReadingLaws.{held_same}
use Rattle.rules.specs.Outcome.{Outcome, outcome, taken}
use Rattle.rules.specs.Submit.{after_submit, after_file}
use Rattle.rules.specs.Deliver.{settle, after_prepare, after_commit, after_update, switches, after_switch}
use Rattle.rules.specs.Switching.{after_panic, built, built_list, after_build, is_committed, is_settled_by, is_valid, is_valid_filing, after_hand}
use Rattle.rules.specs.Decide.{concerned, decide, acted, carried_out, done}
use Rattle.rules.specs.Play.{on_event}

-- what an event comes to, with this late tick
unfoldable pub late_with : Outcome → Option ℕ → Outcome
late_with o late = outcome o.answer (with_late o.room late)

module _ (late : Option ℕ) where
  late_room_lem : (t : Bool) (a a₁ b b₁ : Room) → a₁ ≡ with_late a late → b₁ ≡ with_late b late → pick t a₁ b₁ ≡ with_late (pick t a b) late
  late_room_lem true a a₁ b b₁ e d = e
  late_room_lem false a a₁ b b₁ e d = d

  late_settle : (r : Room) (x : ℕ) (p : Replica) (c d : ℕ) → settle (with_late r late) x p c d ≡ with_late (settle r x p c d) late
  unfolding settle with_late with_replica issue
  late_settle r x p c d = late_room_lem (ltb c d) _ _ _ _ refl refl

module _ (kit : Kit) (late : Option ℕ) (r : Room) where
  -- it is decided in the same way
  valid_late : (p q h : ℕ) (o : Option Filing) → is_valid_filing kit (with_late r late) p q h o ≡ is_valid_filing kit r p q h o
  unfolding with_late is_valid is_committed is_settled_by
  valid_late p q h None = refl
  valid_late p q h (Some filing) = refl

  decide_late : (e : Event) → decide kit (with_late r late) e ≡ decide kit r e
  unfolding with_late decide built built_list
  decide_late (Submit request) = refl
  decide_late (Issue x name content) = refl
  decide_late (Deliver sender name value to) = refl
  decide_late (Hand p q to) = rw (fun_ext (λ h. valid_late p q h (nth r.histories h)))
  decide_late (Panic to) = refl
  decide_late Idle = refl
  decide_late Build = refl
  decide_late (File j k) = refl

  -- and the same is done
  late_switch : (to : ℕ) (p : Replica) → after_switch kit (with_late r late) to p ≡ with_late (after_switch kit r to p) late
  unfolding after_switch with_late with_replica
  late_switch to p = rw (held_same r (with_late r late) refl p.held) (late_room_lem late (leb kit.f (switches kit p)) _ _ _ _ refl refl)

  acted_late : (x : ℕ) (act : Act) → acted kit (with_late r late) x act ≡ with_late (acted kit r x act) late
  unfolding acted with_late after_prepare after_commit after_update after_hand after_panic with_replica issue
  acted_late x (Act.Prepare sender value request) = late_settle late (issue r x ag (Commit request value)) x _ _ _
  acted_late x (Act.Commit sender value) = late_settle late r x _ _ _
  acted_late x (Act.KnownPair sender value) = refl
  acted_late x (Act.NewPair sender value request mark) = refl
  acted_late x (Act.Switch sender value) = late_switch x (accept (r.replica x) sender sw value)
  acted_late x (Act.Hand history) = refl
  acted_late x Act.Panic = refl

  late_submit : (request : ℕ) → after_submit kit (with_late r late) request ≡ with_late (after_submit kit r request) late
  unfolding after_submit with_late remember with_replica issue
  late_submit request = late_room_lem late (is_running (r.replica kit.leader).condition) _ _ _ _ refl refl

  done_late : (x : ℕ) (list : List ℕ) (d : Decision) → done kit (with_late r late) x list d ≡ late_with (done kit r x list d) late
  unfolding late_with carried_out with_late after_build built_list after_file with_history with_replica issue
  done_late x list (Err answer) = refl
  done_late x list (Ok (Deed.Submit request)) = ap taken (late_submit request)
  done_late x list (Ok (Deed.Issue y name content)) = refl
  done_late x list (Ok (Deed.Act act)) = ap taken (acted_late x act)
  done_late x list (Ok Deed.Idle) = refl
  done_late x list (Ok (Deed.Build j k)) = refl
  done_late x list (Ok (Deed.File j k)) = refl

  pub event_late : (e : Event) (list : List ℕ) → on_event kit (with_late r late) e list ≡ late_with (on_event kit r e list) late
  unfolding on_event
  event_late e list = rw (decide_late e) (done_late (concerned kit e) list (decide kit r e))
