-- What is a replica's own in a room: its record and its counters. A delivery looks at its receiver's own, at the content of its certificate, at the
-- submissions and at the histories, and at nothing else of the room; what it changes is its receiver's own. Assumes nothing.
use Rattle.std.specs.Prelude.{◌≡◌, refl, Bool, true, false, ◌≢◌, List, [], ◌∷◌, ◌++◌, ℕ, eqb, leb, ltb, Ok, Err}
use Rattle.std.proofs.Common.{sym, ap, ◌∙◌}
use Rattle.std.proofs.Math.Path.{fun_ext}
use Rattle.terms.specs.Limits.{ag, up, sw}
use Rattle.terms.specs.Lists.{pick}
use Rattle.terms.specs.ListLaws.{split, no_way, eqb_same}
use Rattle.terms.specs.Kit.{Kit}
use Rattle.terms.specs.declared.Content.{Content}
use Rattle.terms.specs.declared.Event.TheVariants.{Deliver}
use Rattle.terms.specs.declared.Act.{Act}
use Rattle.terms.specs.Numbers.{Decision}
use Rattle.terms.specs.declared.Deed.{Deed}
use Rattle.rules.specs.Room.{Room, Replica, put1, with_replica, issue, accept}
use Rattle.rules.specs.Reading.{content_at}
use Rattle.rules.proofs.Laws.RoomLaws.{put_back, put_again, put_apart}
use Rattle.rules.proofs.Laws.ReadingLaws.{held_same}
use Rattle.rules.specs.Outcome.{Outcome, taken}
use Rattle.rules.specs.Deliver.{settle, switches, after_prepare, after_commit, after_update, after_switch}
use Rattle.rules.specs.Switching.{after_panic, after_hand}
use Rattle.rules.specs.Decide.{concerned, decide, acted, carried_out, done}
use Rattle.rules.specs.Play.{on_event}
use Rattle.rules.proofs.Laws.Tested.{Tested, tested}

-- ---- the room with one replica's own anew

pub record Own : Type 0 where
  pub own_record : Replica
  pub own_counter : ℕ → List Content

abbrev own_of : Room → ℕ → Own
own_of r x = record { own_record = r.replica x; own_counter = r.counter x }

abbrev with_both : Room → (ℕ → ℕ → List Content) → (ℕ → Replica) → Room
with_both r counter replica =
    record {
      clock = r.clock;
      late = r.late;
      submitted = r.submitted;
      ticks = r.ticks;
      histories = r.histories;
      filed = r.filed;
      counter = counter;
      replica = replica;
    }

unfoldable pub with_own : Room → ℕ → Own → Room
with_own r x own = with_both r (put1 r.counter x own.own_counter) (put1 r.replica x own.own_record)

-- ---- laws of it

both : (r : Room) {c c₁ : ℕ → ℕ → List Content} {p p₁ : ℕ → Replica} → c ≡ c₁ → p ≡ p₁ → with_both r c p ≡ with_both r c₁ p₁
both r {c} {c₁} {p} {p₁} ec ep = ap (λ (z : ℕ → ℕ → List Content). with_both r z p) ec ∙ ap (λ (z : ℕ → Replica). with_both r c₁ z) ep

module _ (r : Room) (x : ℕ) where
  own_back : with_own r x (own_of r x) ≡ r
  unfolding with_own
  own_back = both r (put_back r.counter x) (put_back r.replica x)

  -- of two replicas, in either order
  pub own_apart : (y : ℕ) (a b : Own) → x ≢ y → with_own (with_own r x a) y b ≡ with_own (with_own r y b) x a
  unfolding with_own
  own_apart y a b d =
      both r (put_apart r.counter x y a.own_counter b.own_counter d) (put_apart r.replica x y a.own_record b.own_record d)

-- ---- the same done in two rooms

-- a room that came of r, and one that came of r₁, where x's own became the same and nothing else changed
record Alike (x : ℕ) (r r₁ a a₁ : Room) : Type 0 where
  becomes : Own
  room : a ≡ with_own r x becomes
  room₁ : a₁ ≡ with_own r₁ x becomes

recorded_own : (r : Room) (x : ℕ) (own : Own) (p : Replica)
    → with_replica (with_own r x own) x p ≡ with_own r x (record { own_record = p; own_counter = own.own_counter })
unfolding with_replica with_own
recorded_own r x own p = both r refl (put_again r.replica x own.own_record p)

abbrev issued_on : (ℕ → List Content) → ℕ → Content → ℕ → List Content
issued_on counter name content = put1 counter name (counter name ++ (content ∷ []))

issued_own
    : (r : Room) (x : ℕ) (own : Own) (name : ℕ) (content : Content)
    → issue (with_own r x own) x name content ≡ with_own r x (record { own_record = own.own_record; own_counter = issued_on own.own_counter name content })
unfolding issue with_own
issued_own r x own name content =
    rw (eqb_same x)
    (both r
    (fun_ext (λ y. fun_ext (λ n.
    split (eqb y x) (λ e. rw e (split (eqb n name) (λ d. rw d) (λ d. rw d))) (λ e. rw e (split (eqb n name) (λ d. rw d) (λ d. rw d)))))) refl)

module _ {x : ℕ} {r r₁ : Room} where
  alike_none : r₁.replica x ≡ r.replica x → r₁.counter x ≡ r.counter x → Alike x r r₁ r r₁
  alike_none er ec =
      record { becomes = own_of r x; room = sym (own_back r x); room₁ = sym (rw (er, ec) at (own_back r₁ x)) }

  alike_recorded : {a a₁ : Room} (p : Replica) → Alike x r r₁ a a₁ → Alike x r r₁ (with_replica a x p) (with_replica a₁ x p)
  alike_recorded p h =
      record {
        becomes = record { own_record = p; own_counter = h.becomes.own_counter };
        room = rw h.room (recorded_own r x h.becomes p);
        room₁ = rw h.room₁ (recorded_own r₁ x h.becomes p);
      }

  alike_issued : {a a₁ : Room} (name : ℕ) (content : Content) → Alike x r r₁ a a₁ → Alike x r r₁ (issue a x name content) (issue a₁ x name content)
  alike_issued name content h =
      record {
        becomes = record { own_record = h.becomes.own_record; own_counter = issued_on h.becomes.own_counter name content };
        room = rw h.room (issued_own r x h.becomes name content);
        room₁ = rw h.room₁ (issued_own r₁ x h.becomes name content);
      }

  alike_pick : (t : Bool) {a a₁ b b₁ : Room} → Alike x r r₁ a a₁ → Alike x r r₁ b b₁ → Alike x r r₁ (pick t a b) (pick t a₁ b₁)
  alike_pick true h k = h
  alike_pick false h k = k

  alike_settled : {a a₁ : Room} (p : Replica) (c d : ℕ) → Alike x r r₁ a a₁ → Alike x r r₁ (settle a x p c d) (settle a₁ x p c d)
  unfolding settle
  alike_settled p c d h = alike_pick (ltb c d) (alike_issued up _ (alike_recorded _ h)) (alike_recorded p h)

-- ---- the same delivery in two rooms

-- what it comes to in r and in r₁: the same answer, and x's own becomes the same
pub record SameOutcome (x : ℕ) (r r₁ : Room) (o o₁ : Outcome) : Type 0 where
  pub answer : o₁.answer ≡ o.answer
  pub becomes : Own
  pub room : o.room ≡ with_own r x becomes
  pub room₁ : o₁.room ≡ with_own r₁ x becomes

module _ {x : ℕ} {r r₁ : Room} where
  same_taken : {a a₁ : Room} → Alike x r r₁ a a₁ → SameOutcome x r r₁ (taken a) (taken a₁)
  same_taken h = record { answer = refl; becomes = h.becomes; room = h.room; room₁ = h.room₁ }

-- a delivery looks at the same in both rooms
pub record SeesSame (sender name value to : ℕ) (r r₁ : Room) : Type 0 where
  pub content : content_at (r₁.counter sender name) value ≡ content_at (r.counter sender name) value
  pub own_record : r₁.replica to ≡ r.replica to
  pub own_counter : r₁.counter to ≡ r.counter to
  pub submitted : r₁.submitted ≡ r.submitted
  pub histories : r₁.histories ≡ r.histories

module _ (kit : Kit) (r r₁ : Room) (sender name value to : ℕ) (w : SeesSame sender name value to r r₁) where
  -- it is decided in the same way
  decide_sees : decide kit r₁ (Deliver sender name value to) ≡ decide kit r (Deliver sender name value to)
  unfolding decide
  decide_sees = rw (w.content, w.own_record, w.submitted)

  -- and the same is done
  same : Alike to r r₁ r r₁
  same = alike_none w.own_record w.own_counter

  acted_sees : (act : Act) → Alike to r r₁ (acted kit r to act) (acted kit r₁ to act)
  unfolding acted after_prepare after_commit after_update after_switch after_hand after_panic
  acted_sees (Act.Prepare sender value request) = rw (w.own_record, w.own_counter) (alike_settled _ _ _ (alike_issued ag _ same))
  acted_sees (Act.Commit sender value) = rw (w.own_record, w.own_counter) (alike_settled _ _ _ same)
  acted_sees (Act.KnownPair sender value) = rw w.own_record (alike_recorded _ same)
  acted_sees (Act.NewPair sender value request mark) = rw w.own_record (alike_recorded _ same)
  acted_sees (Act.Switch sender value) =
      let p = accept (r.replica to) sender sw value in
      rw (w.own_record, held_same r r₁ w.histories p.held) (alike_pick (leb kit.f (switches kit p)) (alike_recorded _ same) (alike_recorded _ same))
  acted_sees (Act.Hand history) = rw w.own_record (alike_issued sw _ (alike_recorded _ same))
  acted_sees Act.Panic = rw w.own_record (alike_recorded _ same)

  done_sees : (list : List ℕ) (d : Decision) → Tested kit r (Deliver sender name value to) to d
      → SameOutcome to r r₁ (done kit r to list d) (done kit r₁ to list d)
  unfolding carried_out
  done_sees list (Err answer) t =
      record { answer = refl; becomes = same.becomes; room = same.room; room₁ = same.room₁ }
  done_sees list (Ok (Deed.Submit request)) t = no_way (cc t.event)
  done_sees list (Ok (Deed.Issue x name content)) t = no_way (cc t.event)
  done_sees list (Ok (Deed.Act act)) t = same_taken (acted_sees act)
  done_sees list (Ok Deed.Idle) t = no_way (cc (t))
  done_sees list (Ok (Deed.Build j k)) t = no_way (cc t.event)
  done_sees list (Ok (Deed.File j k)) t = no_way (cc t.event)

  pub same_delivery
      : (list : List ℕ)
      → SameOutcome to r r₁ (on_event kit r (Deliver sender name value to) list) (on_event kit r₁ (Deliver sender name value to) list)
  unfolding on_event concerned
  same_delivery list = rw decide_sees (done_sees list (decide kit r (Deliver sender name value to)) (tested kit r (Deliver sender name value to)))
