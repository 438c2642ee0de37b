-- What an event can do to the room that it is handed: nothing if it is refused; else a few changes, of which at most three issue a
-- certificate. What refusals, certificates, clock and ticks obey comes from `event_comes`. Assumes nothing.
use Rattle.std.specs.Prelude.{◌≡◌, refl, Bool, true, false, ◌≢◌, List, [], ◌∷◌, ℕ, ◌≤◌, length, leb, ltb, Ok, Err}
use Rattle.std.proofs.Common.{arith}
use Rattle.terms.specs.Limits.{ag, sw}
use Rattle.terms.specs.Lists.{pick}
use Rattle.terms.specs.Kit.{Kit}
use Rattle.terms.specs.declared.Content.{Content}
use Rattle.terms.specs.declared.Event.{Event}
use Rattle.terms.specs.Numbers.{Taken}
use Rattle.terms.specs.declared.Act.{Act}
use Rattle.terms.specs.Numbers.{Decision}
use Rattle.terms.specs.declared.Deed.{Deed}
use Rattle.rules.specs.Room.{Room, Replica, Filing, with_replica, with_history, remember, issue, accept}
use Rattle.rules.specs.Reading.{is_running}
use Rattle.rules.specs.Outcome.{Outcome, taken}
use Rattle.rules.specs.Submit.{after_submit, after_file}
use Rattle.rules.specs.Deliver.{settle, switches, after_prepare, after_commit, after_update, after_switch}
use Rattle.rules.specs.Switching.{after_panic, after_build, after_hand}
use Rattle.rules.specs.Decide.{concerned, decide, acted, carried_out, done}
use Rattle.rules.specs.Play.{on_event}

-- ---- changes

-- one part of a room anew
pub data Change : Type 0 where
  recorded : ℕ → Replica → Change
  issued : ℕ → ℕ → Content → Change
  filed : Filing → ℕ → Change
  remembered : ℕ → Change

abbrev pub change : Room → Change → Room
change r (recorded x p) = with_replica r x p
change r (issued x name content) = issue r x name content
change r (filed h n) = with_history r h n
change r (remembered request) = remember r request

-- the room after some changes
abbrev pub changed : Room → List Change → Room
changed r [] = r
changed r (c ∷ cs) = changed (change r c) cs

-- a certificate's replica, name and content; its value is its place
pub record Certificate : Type 0 where
  pub replica : ℕ
  pub name : ℕ
  pub content : Content

-- those that some changes issue
abbrev pub certificates : List Change → List Certificate
certificates [] = []
certificates (recorded x p ∷ cs) = certificates cs
certificates (issued x name content ∷ cs) = record { replica = x; name = name; content = content } ∷ certificates cs
certificates (filed h n ∷ cs) = certificates cs
certificates (remembered request ∷ cs) = certificates cs

-- r₁ is r after a few changes
pub record Few (r r₁ : Room) : Type 0 where
  pub changes : List Change
  pub few : length (certificates changes) ≤ 3
  pub gives : r₁ ≡ changed r changes

-- ---- every event

-- what an event comes to in room r
pub record Comes (r : Room) (o : Outcome) : Type 0 where
  pub refused : o.answer ≢ Taken → o.room ≡ r
  pub few : Few r o.room

no : 0 ≤ 3
no = omega arith

one : 1 ≤ 3
one = omega arith

two : 2 ≤ 3
two = omega arith

three : 3 ≤ 3
three = omega arith

module _ {r : Room} where
  comes_taken : {r₁ : Room} → Few r r₁ → Comes r (taken r₁)
  comes_taken f = record { refused = λ d. absurd (d refl); few = f }

  few_pick : (t : Bool) {a b : Room} → Few r a → Few r b → Few r (pick t a b)
  few_pick true f g = f
  few_pick false f g = g

  few_recorded : (x : ℕ) (p : Replica) → Few r (with_replica r x p)
  few_recorded x p = record { changes = recorded x p ∷ []; few = no; gives = refl }

few_submit : (kit : Kit) (r : Room) (request : ℕ) → Few r (after_submit kit r request)
unfolding after_submit
few_submit kit r request =
    few_pick (is_running (r.replica kit.leader).condition)
    (record { changes = remembered request ∷ recorded _ _ ∷ issued _ _ _ ∷ []; few = one; gives = refl })
    (record { changes = remembered request ∷ []; few = no; gives = refl })

few_settle : (r : Room) (x : ℕ) (p : Replica) (c d : ℕ) → Few r (settle r x p c d)
unfolding settle
few_settle r x p c d = few_pick (ltb c d) (record { changes = recorded _ _ ∷ issued _ _ _ ∷ []; few = one; gives = refl }) (few_recorded x p)

-- the same after a COMMIT
few_commit_settle : (r : Room) (y : ℕ) (content : Content) (x : ℕ) (p : Replica) (c d : ℕ) → Few r (settle (issue r y ag content) x p c d)
unfolding settle
few_commit_settle r y content x p c d =
    few_pick (ltb c d)
    (record { changes = issued y ag content ∷ recorded _ _ ∷ issued _ _ _ ∷ []; few = two; gives = refl })
    (record { changes = issued y ag content ∷ recorded _ _ ∷ []; few = one; gives = refl })

-- whatever the replica concerned does
few_acted : (kit : Kit) (r : Room) (x : ℕ) (act : Act) → Few r (acted kit r x act)
unfolding acted after_prepare after_commit after_update after_switch after_hand after_panic
few_acted kit r x (Act.Prepare sender value request) = few_commit_settle r _ _ _ _ _ _
few_acted kit r x (Act.Commit sender value) = few_settle r _ _ _ _
few_acted kit r x (Act.KnownPair sender value) = few_recorded x _
few_acted kit r x (Act.NewPair sender value request mark) = few_recorded x _
few_acted kit r x (Act.Switch sender value) =
    few_pick (leb kit.f (switches kit (accept (r.replica x) sender sw value))) (few_recorded x _) (few_recorded x _)
few_acted kit r x (Act.Hand history) = record { changes = recorded _ _ ∷ issued _ _ _ ∷ []; few = one; gives = refl }
few_acted kit r x Act.Panic = few_recorded x _

-- whatever was decided
comes_done : (kit : Kit) (r : Room) (x : ℕ) (list : List ℕ) (d : Decision) → Comes r (done kit r x list d)
unfolding carried_out after_build after_file
comes_done kit r x list (Err answer) = record { refused = λ d. refl; few = record { changes = []; few = no; gives = refl } }
comes_done kit r x list (Ok (Deed.Submit request)) = comes_taken (few_submit kit r request)
comes_done kit r x list (Ok (Deed.Issue y name content)) = comes_taken (record { changes = issued y name content ∷ []; few = one; gives = refl })
comes_done kit r x list (Ok (Deed.Act act)) = comes_taken (few_acted kit r x act)
comes_done kit r x list (Ok Deed.Idle) = comes_taken (record { changes = []; few = no; gives = refl })
comes_done kit r x list (Ok (Deed.Build j k)) =
    comes_taken (record { changes = filed _ _ ∷ recorded _ _ ∷ issued _ _ _ ∷ issued _ _ _ ∷ issued _ _ _ ∷ []; few = three; gives = refl })
comes_done kit r x list (Ok (Deed.File j k)) = comes_taken (record { changes = filed _ _ ∷ []; few = no; gives = refl })

pub event_comes : (kit : Kit) (r : Room) (e : Event) (list : List ℕ) → Comes r (on_event kit r e list)
unfolding on_event
event_comes kit r e list = comes_done kit r (concerned kit e) list (decide kit r e)
