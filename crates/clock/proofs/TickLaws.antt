-- Laws of Tick: where the search stops; and on a laid-out room what one submission is, where the search stops, and that the late tick found
-- there is the rules'. Assumes nothing.
use Rattle.std.proofs.Common.{◌≡◌, ℕ, zero, suc, ◌+◌, ◌-◌, ◌%◌, ◌^◌, ◌<◌, ◌≤◌, Bool, true, false, ◌&&◌, List, length, drop, ◌==◌, nat_le, nat_lt, slice_index, sym, ◌∙◌, mod-eq_of_lt, drop_of_length-le, arith, lt-ltb, le-ltb, le-leb, leb-false, eqb-true}
use Rattle.std.proofs.Math.Path.{ap}
use Rattle.std.proofs.Math.Logic.{by_cases}
use Rattle.std.specs.Prelude.{None, Some}
use Rattle.std.proofs.Math.Decide.{dec_lt}
use borrow.Author.Tests.{lt-leb, eqb-false}
use Rattle.terms.specs.Limits.{requests_max, ticks_max}
use Rattle.terms.specs.Lists.{pick, nth}
use Rattle.terms.specs.ListLaws.{split, and_r, nth_in, nth-lt, nth_drop, nth-get_or}
use Rattle.terms.specs.Kit.{Kit}
use Rattle.terms.specs.Padding.{pad, get_or_pad}
use Rattle.rules.specs.Room.{Room, with_clock}
use Rattle.rules.specs.Reading.{answered}
use Rattle.rules.specs.Clock.{overdue}
use Rattle.rules.proofs.Laws.Answered.{answered_clock}
use Rattle.ledger.specs.LedgerLayout.{lay_book}
use Rattle.room.specs.Layout.{lay_roles, lay_submissions}
use Rattle.room.specs.Bounds.{Bounds}
use Rattle.clock.proofs.AnsweredLaws.{answered_laid}
use Rattle.clock.specs.Tick.{due_at, is_due, passed, first_from}
use Rattle.clock.specs.Known.{Known}
use Rattle.clock.proofs.KnownLaws.{overdue_skip, overdue_none, overdue_here}

-- ---- the first number from i on that fails, of n

pub first_high : (t : ℕ → Bool) (i n : ℕ) → first_from t i n ≤ i + n
first_high t i zero = omega arith
first_high t i (suc n) = split (t i) (λ e. rw e (omega (arith, first_high t (i + 1) n))) (λ e. rw e (omega arith))

pub first_passed : (t : ℕ → Bool) (i n j : ℕ) → i ≤ j → j < first_from t i n → t j ≡ true
first_passed t i zero j l h = absurd (omega arith)
first_passed t i (suc n) j l h =
    split (t i)
    (λ e. split (i == j) (λ q. rw (← eqb-true i j q) e)
    (λ q. let ne = eqb-false i j q in
    first_passed t (i + 1) n j (omega arith) (rw e at h)))
    (λ e. let h₁ : j < i = rw e at h in absurd (omega arith))

pub first_fails : (t : ℕ → Bool) (i n : ℕ) → first_from t i n < i + n → t (first_from t i n) ≡ false
first_fails t i zero h = absurd (omega arith)
first_fails t i (suc n) h =
    split (t i)
    (λ e. let h₁ : first_from t (i + 1) n < i + suc n = rw e at h in rw e (first_fails t (i + 1) n (omega arith)))
    (λ e. rw e e)

-- ---- a room within bounds, and a gap of a kit: no sum of ticks reaches 2^64

-- a tick that is past is due when the wait is at least the patience
due_wait : (u patience clock : ℕ) → u ≤ clock → u + patience < 2 ^ 64 → is_due u patience clock ≡ nat_le patience (clock - u)
unfolding is_due due_at
due_wait u patience clock past small =
    rw (mod-eq_of_lt small)
    (by_cases (dec_lt clock (u + patience)) (λ h. rw (lt-leb (u + patience) clock h, lt-leb patience (clock - u) (omega arith)))
    (λ h. rw (le-leb (u + patience) clock (omega arith), le-leb patience (clock - u) (omega arith))))

-- an element of a list that is laid out
laid_at : (l : List ℕ) (i a : ℕ) → nth l i ≡ Some a → slice_index (pad requests_max l) i ≡ a
laid_at l i a e = let here = sym (nth-get_or l i 0 (nth-lt l i e)) ∙ e in get_or_pad requests_max l i ∙ cc (here)

module _ (kit : Kit) (r : Room) (known gap : ℕ) where
  -- submission i is due and answered, as the code tests it
  abbrev test_of : ℕ → Bool
  test_of =
      passed (r.clock + gap) (lay_roles kit) (lay_submissions r) (lay_book r.counter)

  -- where the search stops
  abbrev pub stop_of : ℕ
  stop_of = first_from test_of known (length r.submitted - known)

  -- whether the submission there is overdue, as the code tests it
  abbrev pub is_overdue : Bool
  is_overdue =
      nat_lt stop_of (length r.submitted) && (nat_lt stop_of requests_max && is_due (slice_index (pad requests_max r.ticks) stop_of) kit.patience (r.clock + gap))

module _ (kit : Kit) (r : Room) (known gap : ℕ) (b : Bounds kit r) (k : Known kit r known) (small : gap ≤ ticks_max) where
  abbrev clock : ℕ
  clock = r.clock + gap

  abbrev test : ℕ → Bool
  test = test_of kit r known gap

  abbrev stop : ℕ
  stop = stop_of kit r known gap

  pub no_wrap : (r.clock + gap) % 2 ^ 64 ≡ clock
  no_wrap = mod-eq_of_lt (omega (arith, b.clock_max))

  tick_small : (i u : ℕ) → nth r.ticks i ≡ Some u → (u ≤ clock) × (u + kit.patience < 2 ^ 64)
  tick_small i u e =
      let past = b.ticks_past i u e in
      (omega arith, omega (arith, b.clock_max, b.good.patience_high))

  -- one submission, as the code tests it and as the rules do
  passed_laid : (i q u : ℕ) → nth r.submitted i ≡ Some q → nth r.ticks i ≡ Some u → test i ≡ (nat_le kit.patience (clock - u) && answered kit r q)
  unfolding passed lay_roles lay_submissions
  passed_laid i q u e d =
      let room : i < requests_max = omega (arith, nth-lt r.submitted i e, b.submitted_max) in
      let fits = tick_small i u d in
      rw (
        lt-ltb i requests_max room,
        laid_at r.ticks i u d,
        laid_at r.submitted i q e,
        due_wait u kit.patience clock fits.0 fits.1,
        answered_laid kit r b q,
      )

  -- the submission that the search has come to, if there is one
  tick_of : (i : ℕ) → i < length r.submitted → (u : ℕ) × (nth r.ticks i ≡ Some u)
  tick_of i h = nth_in r.ticks i (rw b.ticks_length h)

  stop_high : stop ≤ length r.submitted
  stop_high = omega (arith, first_high test known (length r.submitted - known), k.within)

  -- what the search has passed is known to be answered
  pub stop_known : Known kit r stop
  stop_known =
      record {
        within = stop_high;
        all_answered = λ i q h e.
            by_cases (dec_lt i known) (λ before. k.all_answered i q before e)
            (λ after. let u = tick_of i (omega (arith, stop_high)) in
            and_r (nat_le kit.patience (clock - u.0)) (answered kit r q)
            (sym (passed_laid i q u.0 e u.1) ∙ first_passed test known (length r.submitted - known) i (omega arith) h));
      }

  abbrev later : Room
  later = with_clock r clock

  skips : overdue kit later r.submitted r.ticks ≡ overdue kit later (drop stop r.submitted) (drop stop r.ticks)
  skips = overdue_skip kit later r.submitted r.ticks stop (λ i q h e. answered_clock kit r clock q ∙ stop_known.all_answered i q h e)

  -- a later submission has waited no longer
  waits_less : (u i v : ℕ) → nth r.ticks stop ≡ Some u → nth (drop stop r.ticks) i ≡ Some v → nat_le kit.patience (clock - u) ≡ false
      → nat_le kit.patience (clock - v) ≡ false
  waits_less u i v d e w =
      let rises : u ≤ v = b.ticks_ascend stop (stop + i) u v (omega arith) d (sym (nth_drop stop r.ticks i) ∙ e) in
      lt-leb kit.patience (clock - v) (omega (arith, leb-false kit.patience (clock - u) w))

  -- the late tick of the rules is that of the submission at which the search stops
  pub overdue_found
      : overdue kit later r.submitted r.ticks
      ≡ pick (is_overdue kit r known gap) (Some (due_at (slice_index (pad requests_max r.ticks) stop) kit.patience)) None
  unfolding with_clock due_at
  overdue_found =
      by_cases (dec_lt stop (length r.submitted))
      (λ there.
      let q = nth_in r.submitted stop there in
      let u = tick_of stop there in
      let fits = tick_small stop u.0 u.1 in
      let test-is = passed_laid stop q.0 u.0 q.1 u.1 in
      let due-is = due_wait u.0 kit.patience clock fits.0 fits.1 in
      skips
      ∙ rw (lt-ltb stop (length r.submitted) there, lt-ltb stop requests_max (omega (arith, b.submitted_max)), laid_at r.ticks stop u.0 u.1, due-is)
      (split (nat_le kit.patience (clock - u.0))
      (λ w. let open-one : answered kit r q.0 ≡ false =
      rw w at (sym test-is ∙ first_fails test known (length r.submitted - known) (omega (arith, k.within))) in
      rw w
      (overdue_here kit later r.submitted r.ticks stop q.0 u.0 q.1 u.1 (answered_clock kit r clock q.0 ∙ open-one) w
      ∙ ap (λ (n : ℕ). Some n) (sym (mod-eq_of_lt fits.1))))
      (λ w. rw w (overdue_none kit later (drop stop r.submitted) (drop stop r.ticks) (λ i v e. waits_less u.0 i v u.1 e w)))))
      (λ over. let past : length r.submitted ≤ stop = omega arith in
      skips ∙ rw (drop_of_length-le r.submitted past, le-ltb stop (length r.submitted) past))
