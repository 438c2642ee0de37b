-- The clock is the sum of the gaps; ticks never fall along the submissions and none is past the clock; late once is late for ever, at
-- that tick. Assumes nothing.
use Rattle.std.specs.Prelude.{◌≡◌, refl, List, [], ◌∷◌, ℕ, ◌+◌, ◌≤◌, length, take, Option, Some}
use Rattle.std.proofs.Common.{ap, ◌∙◌, ⊎_elim, arith}
use Rattle.terms.specs.Lists.{nth, is_some}
use Rattle.terms.specs.ListLaws.{nth-snoc_inv, nth-lt, length-snoc, no_way}
use Rattle.terms.specs.Kit.{Kit, Entry}
use Rattle.rules.specs.Room.{Room, fresh_room, with_replica, issue, with_history, remember}
use Rattle.rules.specs.Clock.{tick}
use Rattle.rules.specs.Play.{step, play, after}
use Rattle.rules.proofs.Laws.Changes.{Change, recorded, issued, filed, remembered, change, changed, event_comes}
use Rattle.rules.proofs.Laws.Refused.{tick_ticked}
use Rattle.rules.proofs.Laws.Moments.{later_keeps, always_keeps}

-- ---- an event moves neither clock nor late tick: only the tick before it does

change_time : (r : Room) (c : Change) → ((change r c).clock ≡ r.clock) × ((change r c).late ≡ r.late)
unfolding with_replica issue with_history remember
change_time r (recorded x p) = (refl, refl)
change_time r (issued x name content) = (refl, refl)
change_time r (filed h n) = (refl, refl)
change_time r (remembered request) = (refl, refl)

changed_time : (r : Room) (cs : List Change) → ((changed r cs).clock ≡ r.clock) × ((changed r cs).late ≡ r.late)
changed_time r [] = (refl, refl)
changed_time r (c ∷ cs) =
    let h = change_time r c in
    let k = changed_time (change r c) cs in
    (k.0 ∙ h.0, k.1 ∙ h.1)

pub step_clock : (kit : Kit) (r : Room) (e : Entry) → (step kit r e).room.clock ≡ r.clock + e.gap
unfolding step
step_clock kit r e =
    let ticked = tick kit r e.gap in
    let f = (event_comes kit ticked e.event e.requests).few in
    ap (λ (z : Room). z.clock) f.gives ∙ (changed_time ticked f.changes).0 ∙ (tick_ticked kit r e.gap).clock

pub step_late : (kit : Kit) (r : Room) (e : Entry) → (step kit r e).room.late ≡ (tick kit r e.gap).late
unfolding step
step_late kit r e =
    let ticked = tick kit r e.gap in
    let f = (event_comes kit ticked e.event e.requests).few in
    ap (λ (z : Room). z.late) f.gives ∙ (changed_time ticked f.changes).1

-- ---- the clock

abbrev pub gaps : List Entry → ℕ
gaps [] = 0
gaps (e ∷ es) = e.gap + gaps es

play_clock : (kit : Kit) (r : Room) (es : List Entry) → (play kit r es).clock ≡ r.clock + gaps es
unfolding play
play_clock kit r [] = omega arith
play_clock kit r (e ∷ es) = omega (arith, play_clock kit (step kit r e).room es, step_clock kit r e)

pub clock_is_sum : (kit : Kit) (n : ℕ) → (after kit n).clock ≡ gaps (take n kit.events)
unfolding after fresh_room
clock_is_sum kit n = omega (arith, play_clock kit (fresh_room kit) (take n kit.events))

-- ---- late

pub late_stays : (kit : Kit) (t m n : ℕ) → m ≤ n → (after kit m).late ≡ Some t → (after kit n).late ≡ Some t
late_stays kit t m n l =
    later_keeps kit (λ (r : Room). r.late ≡ Some t)
    (λ r e h. step_late kit r e ∙ (tick_ticked kit r e.gap).late (ap (λ (z : Option ℕ). is_some z) h) ∙ h) m n l

-- ---- the ticks

-- ticks that never fall
abbrev pub NeverFall : List ℕ → Type 0
NeverFall ticks = (i j t u : ℕ) → i ≤ j → nth ticks i ≡ Some t → nth ticks j ≡ Some u → t ≤ u

pub record Timed (r : Room) : Type 0 where
  -- each submission has its tick
  pub paired : length r.ticks ≡ length r.submitted
  -- none is past the clock
  pub past : (i t : ℕ) → nth r.ticks i ≡ Some t → t ≤ r.clock
  -- none is below an earlier one
  pub rising : NeverFall r.ticks

timed_remember : (r : Room) (request : ℕ) → Timed r → Timed (remember r request)
unfolding remember
timed_remember r request w =
    record {
      paired = omega (arith, length-snoc r.ticks r.clock, length-snoc r.submitted request, w.paired);
      past = λ i t e. ⊎_elim (λ p. w.past i t p) (λ p. omega (arith, p.1)) (nth-snoc_inv r.ticks r.clock i e);
      rising = λ i j t u l e d.
          ⊎_elim
          (λ q. ⊎_elim (λ p. w.rising i j t u l p q) (λ p. absurd (omega (arith, p.0, nth-lt r.ticks j q))) (nth-snoc_inv r.ticks r.clock i e))
          (λ q. ⊎_elim (λ p. omega (arith, q.1, w.past i t p)) (λ p. omega (arith, q.1, p.1)) (nth-snoc_inv r.ticks r.clock i e))
          (nth-snoc_inv r.ticks r.clock j d);
    }

timed_changed : (r : Room) (cs : List Change) → Timed r → Timed (changed r cs)
unfolding with_replica issue with_history
timed_changed r [] w = w
timed_changed r (recorded x p ∷ cs) w =
    timed_changed (with_replica r x p) cs (record { paired = w.paired; past = w.past; rising = w.rising })
timed_changed r (issued x name content ∷ cs) w =
    timed_changed (issue r x name content) cs (record { paired = w.paired; past = w.past; rising = w.rising })
timed_changed r (filed h n ∷ cs) w =
    timed_changed (with_history r h n) cs (record { paired = w.paired; past = w.past; rising = w.rising })
timed_changed r (remembered request ∷ cs) w = timed_changed (remember r request) cs (timed_remember r request w)

pub timed_tick : (kit : Kit) (r : Room) (gap : ℕ) → Timed r → Timed (tick kit r gap)
timed_tick kit r gap w =
    let t = tick_ticked kit r gap in
    record {
      paired = rw (t.ticks, t.submitted) w.paired;
      past = λ i u e. rw t.clock (omega (arith, w.past i u (rw t.ticks at e)));
      rising = λ i j u v l e d. w.rising i j u v l (rw t.ticks at e) (rw t.ticks at d);
    }

pub step_timed : (kit : Kit) (r : Room) (e : Entry) → Timed r → Timed (step kit r e).room
unfolding step
step_timed kit r e w =
    let ticked = tick kit r e.gap in
    let f = (event_comes kit ticked e.event e.requests).few in
    rw f.gives (timed_changed ticked f.changes (timed_tick kit r e.gap w))

pub timed : (kit : Kit) (n : ℕ) → Timed (after kit n)
unfolding fresh_room
timed kit = always_keeps kit Timed (step_timed kit) (record { paired = refl; past = λ i t e. no_way (cc); rising = λ i j t u l e d. no_way (cc) })
