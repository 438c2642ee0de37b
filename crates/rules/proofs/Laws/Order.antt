-- The order of two deliveries to different receivers, of certificates that were issued before either, the second with gap 0: in every room, whichever
-- comes first, the room after both is the same and each has the same answer, a refusal too. Exchange says it of kits. Assumes nothing.
use Rattle.std.specs.Prelude.{◌≡◌, refl, Bool, true, false, ◌≢◌, List, [], ℕ, zero, suc, eqb, Option, None, Some}
use Rattle.std.proofs.Common.{sym, ap, ◌∙◌, subst, ne_eqb}
use Rattle.terms.specs.Lists.{nth, is_some}
use Rattle.terms.specs.ListLaws.{no_way}
use Rattle.terms.specs.Kit.{Kit, Entry, GoodEvent, GoodEntry}
use Rattle.terms.specs.declared.Content.{Content}
use Rattle.terms.specs.declared.Event.{Event}
use Rattle.terms.specs.declared.Event.TheVariants.{Deliver}
use Rattle.rules.specs.Room.{Room}
use Rattle.rules.specs.Reading.{content_at}
use Rattle.rules.specs.Clock.{tick}
use Rattle.rules.specs.Outcome.{Outcome}
use Rattle.rules.specs.Deliver.{Delivery}
use Rattle.rules.specs.Play.{on_event, step}
use Rattle.rules.proofs.Laws.Growth.{Grows, event_grows}
use Rattle.rules.proofs.Laws.Refused.{tick_ticked}
use Rattle.rules.proofs.Laws.Answered.{answered_stays}
use Rattle.rules.proofs.Laws.Idle.{Quiet, tick_quiet, overdue_kept, tick_zero}
use Rattle.rules.proofs.Laws.Own.{Own, with_own, own_apart, SameOutcome, SeesSame, same_delivery}

-- the event 3 of this gap
abbrev pub delivery : ℕ → Delivery → Entry
delivery gap d = record { gap = gap; event = Deliver d.sender d.name d.value d.to; requests = [] }

-- every event 3 of a good kit is one of these
pub delivery_is
    : (size : ℕ) (e : Entry) (d : Delivery) → GoodEntry size e → e.event ≡ Deliver d.sender d.name d.value d.to → e ≡ delivery e.gap d
delivery_is size e d good is =
    let lists-none = subst (λ (event : Event). GoodEvent size event e.requests) is good.event in
    rw (← is, ← lists-none.3)

-- its certificate was issued
abbrev pub is_issued : Room → Delivery → Bool
is_issued r d = is_some (content_at (r.counter d.sender d.name) d.value)

abbrev deliver : Kit → Room → Delivery → Outcome
deliver kit r d = on_event kit r (Deliver d.sender d.name d.value d.to) []

-- ---- one delivery

deliver_grows : (kit : Kit) (r : Room) (d : Delivery) → Grows r (deliver kit r d).room
deliver_grows kit r d = event_grows kit r (Deliver d.sender d.name d.value d.to) []

-- it changes its receiver's own and nothing else
deliver_own : (kit : Kit) (r : Room) (d : Delivery) → (own : Own) × ((deliver kit r d).room ≡ with_own r d.to own)
deliver_own kit r d =
    let same : SeesSame d.sender d.name d.value d.to r r =
    record { content = refl; own_record = refl; own_counter = refl; submitted = refl; histories = refl } in
    let s = same_delivery kit r r d.sender d.name d.value d.to same [] in
    (s.becomes, s.room)

-- nobody is overdue after it who was not before it
deliver_quiet : (kit : Kit) (r : Room) (d : Delivery) → Quiet kit r → Quiet kit (deliver kit r d).room
unfolding with_own
deliver_quiet kit r d quiet =
    let own = deliver_own kit r d in
    let grows : Grows r (with_own r d.to own.0) = subst (λ (z : Room). Grows r z) own.1 (deliver_grows kit r d) in
    rw own.1
    (λ e. overdue_kept kit r (with_own r d.to own.0) refl (answered_stays kit r (with_own r d.to own.0) grows) r.submitted r.ticks (quiet e))

-- ---- two deliveries

-- a value that was issued stays bound to its content
content_stays
    : {r r₁ : Room} → Grows r r₁ → (d : Delivery) → is_issued r d ≡ true
    → content_at (r₁.counter d.sender d.name) d.value ≡ content_at (r.counter d.sender d.name) d.value
content_stays {r} {r₁} g d = stays d.value
  where
    bound : (i : ℕ) (c : Option Content) → nth (r.counter d.sender d.name) i ≡ c → is_some c ≡ true → nth (r₁.counter d.sender d.name) i ≡ c
    bound i None e there = no_way (cc)
    bound i (Some c) e there = g.counters d.sender d.name i c e

    stays : (v : ℕ) → is_some (content_at (r.counter d.sender d.name) v) ≡ true
        → content_at (r₁.counter d.sender d.name) v ≡ content_at (r.counter d.sender d.name) v
    stays zero there = refl
    stays (suc i) there = bound i (nth (r.counter d.sender d.name) i) refl there

-- after another receiver's delivery b, a delivery a looks at the same as before it
sees_same : (kit : Kit) (r : Room) (a b : Delivery) → a.to ≢ b.to → is_issued r a ≡ true
    → SeesSame a.sender a.name a.value a.to r (deliver kit r b).room
unfolding with_own
sees_same kit r a b apart there =
    let own = deliver_own kit r b in
    let other : eqb a.to b.to ≡ false = ne_eqb a.to b.to apart in
    record {
      content = content_stays (deliver_grows kit r b) a there;
      own_record = rw (own.1, other);
      own_counter = rw (own.1, other);
      submitted = rw own.1;
      histories = rw own.1;
    }

module _ (kit : Kit) (r : Room) (a b : Delivery) (apart : a.to ≢ b.to) (a-there : is_issued r a ≡ true) (b_there : is_issued r b ≡ true) where
  a_same : SameOutcome a.to r (deliver kit r b).room (deliver kit r a) (deliver kit (deliver kit r b).room a)
  a_same = same_delivery kit r (deliver kit r b).room a.sender a.name a.value a.to (sees_same kit r a b apart a-there) []

  b_same : SameOutcome b.to r (deliver kit r a).room (deliver kit r b) (deliver kit (deliver kit r a).room b)
  b_same = same_delivery kit r (deliver kit r a).room b.sender b.name b.value b.to (sees_same kit r b a (λ e. apart (sym e)) b_there) []

  same_room : (deliver kit (deliver kit r a).room b).room ≡ (deliver kit (deliver kit r b).room a).room
  same_room =
      let s = a_same in
      let w = b_same in
      w.room₁
      ∙ ap (λ (z : Room). with_own z b.to w.becomes) s.room
      ∙ own_apart r a.to b.to s.becomes w.becomes apart
      ∙ ap (λ (z : Room). with_own z a.to s.becomes) (sym w.room)
      ∙ sym s.room₁

-- ---- as two neighbouring events, the second with gap 0

-- a after `gap` and b at the same tick, and the other way round
pub record OrderFree (kit : Kit) (r : Room) (gap : ℕ) (a b : Delivery) : Type 0 where
  -- both leave the same room
  pub room
      : (step kit (step kit r (delivery gap a)).room (delivery 0 b)).room
      ≡ (step kit (step kit r (delivery gap b)).room (delivery 0 a)).room
  -- a has the same answer first and second, and so has b
  pub answer_a : (step kit (step kit r (delivery gap b)).room (delivery 0 a)).answer ≡ (step kit r (delivery gap a)).answer
  pub answer_b : (step kit (step kit r (delivery gap a)).room (delivery 0 b)).answer ≡ (step kit r (delivery gap b)).answer

-- the second of the two finds nobody late whom the first did not find
second_step
    : (kit : Kit) (r : Room) (gap : ℕ) (a b : Delivery)
    → step kit (step kit r (delivery gap a)).room (delivery 0 b) ≡ deliver kit (deliver kit (tick kit r gap) a).room b
unfolding step
second_step kit r gap a b =
    ap (λ (z : Room). deliver kit z b)
    (tick_zero kit (deliver kit (tick kit r gap) a).room (deliver_quiet kit (tick kit r gap) a (tick_quiet kit r gap)))

-- in every room, at every patience
pub order_free
    : (kit : Kit) (r : Room) (gap : ℕ) (a b : Delivery) → a.to ≢ b.to → is_issued r a ≡ true → is_issued r b ≡ true → OrderFree kit r gap a b
unfolding step
order_free kit r gap a b apart a-there b_there =
    let ticked = tick kit r gap in
    let there : (d : Delivery) → is_issued r d ≡ true → is_issued ticked d ≡ true =
    λ d h. ap (λ (g : ℕ → ℕ → List Content). is_some (content_at (g d.sender d.name) d.value)) (tick_ticked kit r gap).counter ∙ h in
    let a_first = second_step kit r gap a b in
    let b-first = second_step kit r gap b a in
    record {
      room =
          ap (λ (o : Outcome). o.room) a_first
          ∙ same_room kit ticked a b apart (there a a-there) (there b b_there)
          ∙ sym (ap (λ (o : Outcome). o.room) b-first);
      answer_a = ap (λ (o : Outcome). o.answer) b-first ∙ (a_same kit ticked a b apart (there a a-there) (there b b_there)).answer;
      answer_b = ap (λ (o : Outcome). o.answer) a_first ∙ (b_same kit ticked a b apart (there a a-there) (there b b_there)).answer;
    }
