-- What an event does goes by f, the leader and the table: it looks neither at the patience nor at the kit's other events. Assumes nothing.
use Rattle.std.specs.Prelude.{◌≡◌, List, ℕ, Option, None, Some, Ok, Err}
use Rattle.std.proofs.Math.Path.{refl, ap, fun_ext}
use Rattle.terms.specs.Lists.{nth}
use Rattle.terms.specs.Kit.{Kit, Entry}
use Rattle.terms.specs.declared.Event.{Event}
use Rattle.terms.specs.declared.Event.TheVariants.{Submit, Issue, Deliver, Hand, Panic, Idle, Build, File}
use Rattle.terms.specs.declared.Act.{Act}
use Rattle.terms.specs.Numbers.{Decision}
use Rattle.terms.specs.declared.Deed.{Deed}
use Rattle.rules.specs.Table.{is_active, actives, switch_leader}
use Rattle.rules.specs.Room.{Filing, Room}
use Rattle.rules.specs.Reading.{settled_count}
use Rattle.rules.specs.Outcome.{taken}
use Rattle.rules.specs.Submit.{after_submit}
use Rattle.rules.specs.Deliver.{after_prepare, after_commit, after_update, switches, after_switch}
use Rattle.rules.specs.Switching.{built, is_committed, is_settled_by, is_valid, is_valid_filing}
use Rattle.rules.specs.Decide.{concerned, decide, acted, carried_out, done}
use Rattle.rules.specs.Play.{on_event}

-- a kit of the same f, leader and table, with this patience and these events
unfoldable pub same_table : Kit → ℕ → List Entry → Kit
same_table kit patience events = record { f = kit.f; leader = kit.leader; patience = patience; table = kit.table; events = events }

module _ (kit : Kit) (patience : ℕ) (events : List Entry) where
  valid_same : (r : Room) (p q h : ℕ) (o : Option Filing) → is_valid_filing (same_table kit patience events) r p q h o ≡ is_valid_filing kit r p q h o
  unfolding same_table is_valid is_committed is_settled_by actives switch_leader
  valid_same r p q h None = refl
  valid_same r p q h (Some filing) = refl

  -- it is decided in the same way
  decide_same : (r : Room) (e : Event) → decide (same_table kit patience events) r e ≡ decide kit r e
  unfolding same_table decide built settled_count is_active actives switch_leader
  decide_same r (Submit request) = refl
  decide_same r (Issue x name content) = refl
  decide_same r (Deliver sender name value to) = refl
  decide_same r (Hand p q to) = rw (fun_ext (λ h. valid_same r p q h (nth r.histories h)))
  decide_same r (Panic to) = refl
  decide_same r Idle = refl
  decide_same r Build = refl
  decide_same r (File j k) = refl

  concerned_same : (e : Event) → concerned (same_table kit patience events) e ≡ concerned kit e
  unfolding same_table concerned actives switch_leader
  concerned_same e = refl

  -- and the same is done
  acted_same : (r : Room) (x : ℕ) (act : Act) → acted (same_table kit patience events) r x act ≡ acted kit r x act
  unfolding same_table acted after_prepare after_commit after_update after_switch switches settled_count is_active actives
  acted_same r x (Act.Prepare sender value request) = refl
  acted_same r x (Act.Commit sender value) = refl
  acted_same r x (Act.KnownPair sender value) = refl
  acted_same r x (Act.NewPair sender value request mark) = refl
  acted_same r x (Act.Switch sender value) = refl
  acted_same r x (Act.Hand history) = refl
  acted_same r x Act.Panic = refl

  done_same : (r : Room) (x : ℕ) (list : List ℕ) (d : Decision) → done (same_table kit patience events) r x list d ≡ done kit r x list d
  unfolding same_table carried_out after_submit
  done_same r x list (Err answer) = refl
  done_same r x list (Ok (Deed.Submit request)) = refl
  done_same r x list (Ok (Deed.Issue y name content)) = refl
  done_same r x list (Ok (Deed.Act act)) = ap taken (acted_same r x act)
  done_same r x list (Ok Deed.Idle) = refl
  done_same r x list (Ok (Deed.Build j k)) = refl
  done_same r x list (Ok (Deed.File j k)) = refl

  pub event_same : (r : Room) (e : Event) (list : List ℕ) → on_event (same_table kit patience events) r e list ≡ on_event kit r e list
  unfolding on_event
  event_same r e list = rw (concerned_same e, decide_same r e) (done_same r (concerned kit e) list (decide kit r e))
