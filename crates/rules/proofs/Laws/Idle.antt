-- Idle time in a room: where ticks never fall, an idle of a ticks and then one of b are one of a+b; in a room that a kit reaches an idle of 0
-- changes nothing. IdleRows has rooms that no kit reaches, where neither is so; IdleEdits says it of kits. Assumes nothing.
use Rattle.std.proofs.Common.{◌≡◌, true, false, not, ◌&&◌, ℕ, suc, ◌+◌, ◌-◌, ◌≤◌, length, leb, sym, ap, ◌∙◌, subst, arith, leb-true, leb-false, le-leb, List, [], ◌∷◌, ◌++◌}
use Rattle.std.proofs.Math.Path.{refl}
use Rattle.std.proofs.Math.Bool.{and-false}
use Rattle.std.specs.Prelude.{Option, None, Some}
use Rattle.std.proofs.lemmas.Bool.{lt-leb}
use Rattle.terms.specs.Lists.{pick, is_some}
use Rattle.terms.specs.ListLaws.{split, no_way, length-snoc}
use Rattle.terms.specs.Kit.{Kit, Entry, GoodEvent, GoodEntry}
use Rattle.terms.specs.declared.Event.{Event}
use Rattle.terms.specs.declared.Event.TheVariants.{Idle}
use Rattle.rules.specs.Room.{Room, fresh_room, with_clock, with_late, with_replica, with_history, remember, issue}
use Rattle.rules.specs.Reading.{answered, answered_at}
use Rattle.rules.specs.Clock.{overdue, tick}
use Rattle.rules.specs.Outcome.{taken}
use Rattle.rules.specs.Decide.{decide, carried_out}
use Rattle.rules.specs.Play.{on_event, step, play, after}
use Rattle.rules.proofs.Laws.Growth.{grows_issue}
use Rattle.rules.proofs.Laws.Moments.{always_keeps}
use Rattle.rules.proofs.Laws.Changes.{Change, recorded, issued, filed, remembered, changed, event_comes}
use Rattle.rules.proofs.Laws.Answered.{answered_clock, answered_late, answered_stays}
use Rattle.rules.proofs.Laws.Time.{NeverFall, Timed, timed, timed_tick, step_timed}
use Rattle.rules.proofs.Laws.Lateness.{overdue_first}

-- the idle event of this gap
abbrev pub idle : ℕ → Entry
idle gap = record { gap = gap; event = Idle; requests = [] }

-- every idle event of a good kit is one of these
pub idle_is : (size : ℕ) (e : Entry) → GoodEntry size e → e.event ≡ Idle → e ≡ idle e.gap
idle_is size e good is =
    let lists-none : GoodEvent size Idle e.requests = subst (λ (event : Event). GoodEvent size event e.requests) is good.event in
    rw (← is, ← lists-none)

-- ---- two idles

module _ (kit : Kit) (r r₁ : Room) (same : (q : ℕ) → answered kit r₁ q ≡ answered kit r q) where
  -- who is overdue goes by the clock and by what is answered
  overdue_same : r₁.clock ≡ r.clock → (qs ts : List ℕ) → overdue kit r₁ qs ts ≡ overdue kit r qs ts
  overdue_same c [] ts = refl
  overdue_same c (q ∷ qs) [] = refl
  overdue_same c (q ∷ qs) (t ∷ ts) = rw (overdue_same c qs ts, same q, c)

  -- who is overdue at a clock is so at a later one too, and is still the first
  overdue_stays
      : r.clock ≤ r₁.clock → (qs ts : List ℕ) → NeverFall ts → (late : ℕ) → overdue kit r qs ts ≡ Some late → overdue kit r₁ qs ts ≡ Some late
  overdue_stays l [] ts w late e = e
  overdue_stays l (q ∷ qs) [] w late e = e
  overdue_stays l (q ∷ qs) (t ∷ ts) w late e =
      split (answered kit r q)
      (λ y. rw (same q, y) (overdue_stays l qs ts (λ i j u v k. w (suc i) (suc j) u v (omega arith)) late (rw y at e)))
      (λ n. split (leb kit.patience (r.clock - t))
      (λ h. let g = le-leb kit.patience (r₁.clock - t) (omega (arith, leb-true kit.patience (r.clock - t) h)) in rw (same q, n, g) (rw (n, h) at e))
      (λ h. let f = overdue_first kit r qs ts late (rw (n, h) at e) in
      let up = w 0 (suc f.i) t f.tick (omega arith) refl f.waits.tick_at in
      absurd (omega (arith, leb-false kit.patience (r.clock - t) h, f.waits.long, up))))

-- who is overdue does not go by the late tick
overdue_late : (kit : Kit) (r : Room) (late : Option ℕ) (qs ts : List ℕ) → overdue kit (with_late r late) qs ts ≡ overdue kit r qs ts
unfolding with_late
overdue_late kit r late qs ts = overdue_same kit r (with_late r late) (answered_late kit r late) refl qs ts

-- lateness looks at the whole clock: what is overdue at it, if nothing was known to be late
tick_late
    : (kit : Kit) (r : Room) (gap : ℕ)
    → (tick kit r gap).late ≡ pick (is_some r.late) r.late (overdue kit (with_clock r (r.clock + gap)) r.submitted r.ticks)
unfolding tick with_clock with_late
tick_late kit r gap = refl

-- a late tick found at the first of two clocks, or there before, is the one found at the second
late_joined
    : (late first second : Option ℕ) → ((n : ℕ) → first ≡ Some n → second ≡ Some n)
    → pick (is_some (pick (is_some late) late first)) (pick (is_some late) late first) second ≡ pick (is_some late) late second
late_joined (Some n) first second h = refl
late_joined None None second h = refl
late_joined None (Some n) second h = sym (h n refl)

pub tick_joined : (kit : Kit) (r : Room) → NeverFall r.ticks → (a b : ℕ) → tick kit (tick kit r a) b ≡ tick kit r (a + b)
unfolding tick with_clock with_late
tick_joined kit r w a b =
    let sum : r.clock + a + b ≡ r.clock + (a + b) = omega arith in
    let first = with_clock r (r.clock + a) in
    let second = with_clock r (r.clock + (a + b)) in
    let same : (q : ℕ) → answered kit second q ≡ answered kit first q = λ q. answered_clock kit r _ q ∙ sym (answered_clock kit r _ q) in
    let late = late_joined r.late (overdue kit first r.submitted r.ticks) (overdue kit second r.submitted r.ticks)
    (overdue_stays kit first second same (omega arith) r.submitted r.ticks w) in
    rw (sum, overdue_late kit second (tick kit r a).late r.submitted r.ticks, late)

-- two idles leave the room, and have the answer, of one
pub idle_joined
    : (kit : Kit) (r : Room) → NeverFall r.ticks → (a b : ℕ) → step kit (step kit r (idle a)).room (idle b) ≡ step kit r (idle (a + b))
unfolding step on_event decide carried_out
idle_joined kit r w a b = ap taken (tick_joined kit r w a b)

-- in every room that a kit reaches
pub idle_joined_after
    : (kit : Kit) (n a b : ℕ) → step kit (step kit (after kit n) (idle a)).room (idle b) ≡ step kit (after kit n) (idle (a + b))
idle_joined_after kit n = idle_joined kit (after kit n) (timed kit n).rising

-- ---- an idle of 0

-- where there is no late tick, nobody is overdue
abbrev pub Quiet : Kit → Room → Type 0
Quiet kit r = r.late ≡ None → overdue kit r r.submitted r.ticks ≡ None

-- what lateness finds, where it leaves no late tick
found_none : (late found : Option ℕ) → pick (is_some late) late found ≡ None → found ≡ None
found_none None found e = e
found_none (Some n) found e = no_way (cc)

pub tick_quiet : (kit : Kit) (r : Room) (gap : ℕ) → Quiet kit (tick kit r gap)
unfolding tick with_clock with_late
tick_quiet kit r gap e =
    let later = with_clock r (r.clock + gap) in
    overdue_late kit later (tick kit r gap).late r.submitted r.ticks ∙ found_none r.late _ (sym (tick_late kit r gap) ∙ e)

module _ (kit : Kit) where
  -- who is not overdue is not made so by more answers at the same clock
  pub overdue_kept
      : (r r₁ : Room) → r₁.clock ≡ r.clock → ((q : ℕ) → answered kit r q ≡ true → answered kit r₁ q ≡ true) → (qs ts : List ℕ)
      → overdue kit r qs ts ≡ None → overdue kit r₁ qs ts ≡ None
  overdue_kept r r₁ c a [] ts e = refl
  overdue_kept r r₁ c a (q ∷ qs) [] e = refl
  overdue_kept r r₁ c a (q ∷ qs) (t ∷ ts) e =
      split (answered kit r q) (λ y. rw (a q y) (overdue_kept r r₁ c a qs ts (rw y at e)))
      (λ n. split (leb kit.patience (r.clock - t))
      (λ h. let z : Some (t + kit.patience) ≡ None = rw (n, h) at e in no_way (cc z))
      (λ h. let h₁ : leb kit.patience (r₁.clock - t) ≡ false = ap (λ (k : ℕ). leb kit.patience (k - t)) c ∙ h in
      rw (h₁, and-false (not (answered kit r₁ q))) (overdue_kept r r₁ c a qs ts (rw (n, h) at e))))

  -- nor by a submission at this very tick: its wait is 0
  overdue_more
      : (r : Room) → 1 ≤ kit.patience → (q : ℕ) (qs ts : List ℕ) → length ts ≡ length qs → overdue kit r qs ts ≡ None
      → overdue kit r (qs ++ (q ∷ [])) (ts ++ (r.clock ∷ [])) ≡ None
  overdue_more r low q [] [] l e = rw (lt-leb kit.patience (r.clock - r.clock) (omega arith), and-false (not (answered kit r q)))
  overdue_more r low q [] (t ∷ ts) l e = absurd (omega arith)
  overdue_more r low q (p ∷ qs) [] l e = absurd (omega arith)
  overdue_more r low q (p ∷ qs) (t ∷ ts) l e =
      split (not (answered kit r p) && leb kit.patience (r.clock - t))
      (λ y. let z : Some (t + kit.patience) ≡ None = rw y at e in no_way (cc z))
      (λ n. rw n (overdue_more r low q qs ts (omega arith) (rw n at e)))

  quiet_changed
      : 1 ≤ kit.patience → (r : Room) (cs : List Change) → length r.ticks ≡ length r.submitted → Quiet kit r → Quiet kit (changed r cs)
  unfolding with_replica with_history remember issue answered answered_at
  quiet_changed low r [] l w = w
  quiet_changed low r (recorded x p ∷ cs) l w =
      quiet_changed low (with_replica r x p) cs l (λ h. overdue_kept r (with_replica r x p) refl (λ q e. e) r.submitted r.ticks (w h))
  quiet_changed low r (issued x name content ∷ cs) l w =
      let more = issue r x name content in
      quiet_changed low more cs l
      (λ h. overdue_kept r more refl (answered_stays kit r more (grows_issue r x name content)) r.submitted r.ticks (w h))
  quiet_changed low r (filed h n ∷ cs) l w =
      quiet_changed low (with_history r h n) cs l (λ e. overdue_kept r (with_history r h n) refl (λ q y. y) r.submitted r.ticks (w e))
  quiet_changed low r (remembered request ∷ cs) l w =
      quiet_changed low (remember r request) cs (omega (arith, length-snoc r.ticks r.clock, length-snoc r.submitted request))
      (λ h. overdue_kept r (remember r request) refl (λ q e. e) (r.submitted ++ (request ∷ [])) (r.ticks ++ (r.clock ∷ []))
      (overdue_more r low request r.submitted r.ticks l (w h)))

  step_quiet : 1 ≤ kit.patience → (r : Room) (e : Entry) → Timed r → Quiet kit (step kit r e).room
  unfolding step
  step_quiet low r e w =
      let ticked = tick kit r e.gap in
      let f = (event_comes kit ticked e.event e.requests).few in
      rw f.gives (quiet_changed low ticked f.changes (timed_tick kit r e.gap w).paired (tick_quiet kit r e.gap))

  pub quiet : 1 ≤ kit.patience → (n : ℕ) → Quiet kit (after kit n)
  unfolding fresh_room after play
  quiet low n =
      (always_keeps kit (λ (r : Room). Timed r × Quiet kit r) (λ r e w. (step_timed kit r e w.0, step_quiet low r e w.0)) (timed kit 0, λ h. refl) n).1

-- where it leaves the late tick as it was
found_same : (late found : Option ℕ) → (late ≡ None → found ≡ None) → pick (is_some late) late found ≡ late
found_same None found h = h refl
found_same (Some n) found h = refl

-- in a quiet room a tick of 0 changes nothing
pub tick_zero : (kit : Kit) (r : Room) → Quiet kit r → tick kit r 0 ≡ r
unfolding tick with_clock with_late
tick_zero kit r w =
    let now : r.clock + 0 ≡ r.clock = omega arith in
    rw (now, found_same r.late (overdue kit r r.submitted r.ticks) w)

-- an idle of 0 leaves every room that a kit reaches as it is
pub idle_zero : (kit : Kit) → 1 ≤ kit.patience → (n : ℕ) → step kit (after kit n) (idle 0) ≡ taken (after kit n)
unfolding step on_event decide carried_out
idle_zero kit low n = ap taken (tick_zero kit (after kit n) (quiet kit low n))
