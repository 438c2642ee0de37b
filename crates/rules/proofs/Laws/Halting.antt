-- A replica halts at a PANIC that it takes and by nothing else: neither lateness nor another event halts anybody. Assumes nothing.
use Rattle.std.specs.Prelude.{◌≡◌, ◌≢◌, ◌⊎◌, List, ℕ, suc, eqb, leb, ltb, Some, Ok, Err}
use Rattle.std.proofs.Math.Path.{refl}
use Rattle.std.proofs.Common.{sym, ap, ◌∙◌, ⊎_elim, eqb-true}
use Rattle.std.proofs.Math.Logic.{inl, inr}
use Rattle.terms.specs.Limits.{sw}
use Rattle.terms.specs.Lists.{nth}
use Rattle.terms.specs.ListLaws.{split, pick_elim, no_way}
use Rattle.terms.specs.Kit.{Kit, Entry}
use Rattle.terms.specs.declared.Condition.TheVariants.{Halted}
use Rattle.terms.specs.declared.Event.{Event}
use Rattle.terms.specs.declared.Event.TheVariants.{Panic}
use Rattle.terms.specs.declared.Act.{Act}
use Rattle.terms.specs.Numbers.{Decision}
use Rattle.terms.specs.declared.Deed.{Deed}
use Rattle.terms.specs.Numbers.{Answer}
use Rattle.terms.specs.Numbers.{Taken}
use Rattle.rules.specs.Room.{Room, Replica, put1, with_replica, with_history, remember, issue, with_condition, with_mark, note, note_pair, accept, hold}
use Rattle.rules.specs.Reading.{is_running}
use Rattle.rules.specs.Outcome.{answer_of}
use Rattle.rules.specs.Submit.{after_submit, after_file}
use Rattle.rules.specs.Deliver.{settle, after_prepare, after_commit, after_update, switches, after_switch}
use Rattle.rules.specs.Switching.{after_panic, after_build, after_hand}
use Rattle.rules.specs.Decide.{concerned, decide, acted, carried_out}
use Rattle.rules.specs.Clock.{tick}
use Rattle.rules.specs.Play.{on_event, step, after, answer}
use Rattle.rules.proofs.Laws.Tested.{ToAct, Tested, tested}
use Rattle.rules.proofs.Laws.Growth.{after_suc}
use Rattle.rules.proofs.Laws.Refused.{tick_ticked}

-- whoever is halted in r₁ was halted in r
record NobodyHalts (r r₁ : Room) : Type 0 where
  was_halted : (x : ℕ) → (r₁.replica x).condition ≡ Halted → (r.replica x).condition ≡ Halted

-- records are all that it looks at
nobody_same : {r r₁ : Room} → r₁.replica ≡ r.replica → NobodyHalts r r₁
nobody_same e = record { was_halted = λ x h. ap (λ (f : ℕ → Replica). (f x).condition) (sym e) ∙ h }

-- one record anew, of a replica that is halted there only if it was
nobody_put : {r r₁ : Room} (x : ℕ) (p : Replica) → r₁.replica ≡ put1 r.replica x p → (p.condition ≡ Halted → (r.replica x).condition ≡ Halted)
    → NobodyHalts r r₁
nobody_put {r} {r₁} x p e f =
    record {
      was_halted = λ y h.
          let z : (put1 r.replica x p y).condition ≡ Halted = ap (λ (g : ℕ → Replica). (g y).condition) (sym e) ∙ h in
          split (eqb y x) (λ t. rw (eqb-true y x t) (f (rw t at z))) (λ t. rw t at z);
    }

nobody_submit : (kit : Kit) (r : Room) (request : ℕ) → NobodyHalts r (after_submit kit r request)
unfolding after_submit remember with_replica issue note
nobody_submit kit r request =
    pick_elim (NobodyHalts r) (is_running (r.replica kit.leader).condition) (λ t. nobody_put kit.leader _ refl (λ h. h))
    (λ t. nobody_same refl)

nobody_settle : {r : Room} (a : Room) (x : ℕ) (p : Replica) (c d : ℕ) → a.replica ≡ r.replica → p.condition ≡ (r.replica x).condition
    → NobodyHalts r (settle a x p c d)
unfolding settle with_replica issue with_mark
nobody_settle {r} a x p c d e same =
    let anew : (q : Replica) → put1 a.replica x q ≡ put1 r.replica x q = λ q. ap (λ (f : ℕ → Replica). put1 f x q) e in
    pick_elim (NobodyHalts r) (ltb c d) (λ t. nobody_put x _ (anew _) (λ h. sym same ∙ h)) (λ t. nobody_put x _ (anew _) (λ h. sym same ∙ h))

-- event e, answered a, is a PANIC that x takes
pub record TakenPanic (e : Event) (a : Answer) (x : ℕ) : Type 0 where
  pub panic : e ≡ Panic x
  pub taken : a ≡ Taken

-- x halts in the event itself
abbrev Halts : Room → Room → ℕ → Type 0
Halts r r₁ x = ((r.replica x).condition ≢ Halted) × ((r₁.replica x).condition ≡ Halted)

-- what is done otherwise halts nobody
module _ (kit : Kit) (r : Room) (e : Event) (y : ℕ) where
  acted_nobody : (act : Act) → ToAct kit r e y act → NobodyHalts r (acted kit r y act) ⊎ ((x : ℕ) → Halts r (acted kit r y act) x → e ≡ Panic x)
  unfolding acted after_prepare after_commit after_update after_switch after_hand after_panic issue with_replica accept note note_pair with_mark with_condition hold
  acted_nobody (Act.Prepare sender value request) t = inl (nobody_settle _ y _ _ _ refl refl)
  acted_nobody (Act.Commit sender value) t = inl (nobody_settle _ y _ _ _ refl refl)
  acted_nobody (Act.KnownPair sender value) t = inl (nobody_put y _ refl (λ z. z))
  acted_nobody (Act.NewPair sender value request mark) t = inl (nobody_put y _ refl (λ z. z))
  acted_nobody (Act.Switch sender value) t =
      inl (pick_elim (NobodyHalts r) (leb kit.f (switches kit (accept (r.replica y) sender sw value)))
      (λ closes. nobody_put y _ refl (λ z. no_way (cc (z)))) (λ waits. nobody_put y _ refl (λ z. z)))
  acted_nobody (Act.Hand history) t = inl (nobody_put y _ refl (λ z. z))
  acted_nobody Act.Panic t =
      inr (λ x h. split (eqb x y) (λ is. rw (eqb-true x y is) t.event) (λ other. absurd (h.0 (rw other at h.1))))

  nobody_builds : (j k : ℕ) (list : List ℕ) → NobodyHalts r (carried_out kit r y (Ok (Deed.Build j k)) list)
  unfolding carried_out after_build issue with_history with_replica hold
  nobody_builds j k list = nobody_put y _ refl (λ z. z)

module _ (kit : Kit) (r : Room) (e : Event) (y x : ℕ) where
  acted_halts : (act : Act) → ToAct kit r e y act → Halts r (acted kit r y act) x → e ≡ Panic x
  acted_halts act t h = ⊎_elim (λ n. absurd (h.0 (n.was_halted x h.1))) (λ by. by x h) (acted_nobody kit r e y act t)

  carried_halts : (d : Decision) (list : List ℕ) → Tested kit r e y d → Halts r (carried_out kit r y d list) x → TakenPanic e (answer_of d) x
  unfolding carried_out after_file issue with_history
  carried_halts (Err answer) list t h = absurd (h.0 h.1)
  carried_halts (Ok (Deed.Submit request)) list t h = absurd (h.0 ((nobody_submit kit r request).was_halted x h.1))
  carried_halts (Ok (Deed.Issue z name content)) list t h = absurd (h.0 h.1)
  carried_halts (Ok (Deed.Act act)) list t h = record { panic = acted_halts act t h; taken = refl }
  carried_halts (Ok Deed.Idle) list t h = absurd (h.0 h.1)
  carried_halts (Ok (Deed.Build j k)) list t h = absurd (h.0 ((nobody_builds kit r e y j k list).was_halted x h.1))
  carried_halts (Ok (Deed.File j k)) list t h = absurd (h.0 h.1)

event_halts : (kit : Kit) (r : Room) (e : Event) (list : List ℕ) (x : ℕ) → Halts r (on_event kit r e list).room x
    → TakenPanic e (on_event kit r e list).answer x
unfolding on_event
event_halts kit r e list x h = carried_halts kit r e (concerned kit e) x (decide kit r e) list (tested kit r e) h

-- with the clock before it
pub step_halts : (kit : Kit) (r : Room) (e : Entry) (x : ℕ) → (r.replica x).condition ≢ Halted → ((step kit r e).room.replica x).condition ≡ Halted
    → TakenPanic e.event (step kit r e).answer x
unfolding step
step_halts kit r e x was is =
    let same = ap (λ (f : ℕ → Replica). (f x).condition) (tick_ticked kit r e.gap).replica in
    event_halts kit (tick kit r e.gap) e.event e.requests x ((λ h. was (sym same ∙ h)), is)

-- at a moment of a play
pub halts_by_panic
    : (kit : Kit) (n : ℕ) (e : Entry) (a : Answer) (x : ℕ) → nth kit.events n ≡ Some e → answer kit n ≡ Some a
    → ((after kit n).replica x).condition ≢ Halted → ((after kit (suc n)).replica x).condition ≡ Halted → TakenPanic e.event a x
unfolding answer
halts_by_panic kit n e a x h g was is =
    let g₁ : Some (step kit (after kit n) e).answer ≡ Some a = rw h at g in
    let z : (step kit (after kit n) e).answer ≡ a = cc in
    rw z at (step_halts kit (after kit n) e x was (rw (after_suc kit n e h) at is))
