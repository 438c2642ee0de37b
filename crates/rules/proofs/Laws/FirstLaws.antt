-- The first laws of the rules on one page: what holds at every moment of the play of a kit, whatever its events are. A moment is a number of
-- events played. The last group is of kits that document 01 allows. Each is proved in the file that its line of `use` names. Assumes nothing.
use Rattle.std.specs.Prelude.{◌≡◌, true, ◌≢◌, List, ℕ, suc, ◌+◌, ◌≤◌, ◌<◌, take, Some, Err}
use Rattle.terms.specs.Lists.{nth}
use Rattle.terms.specs.Kit.{Kit, Entry, GoodKit}
use Rattle.terms.specs.declared.Condition.TheVariants.{Halted}
use Rattle.terms.specs.declared.Event.TheVariants.{Build}
use Rattle.terms.specs.Numbers.{Answer}
use Rattle.terms.specs.Numbers.{Taken}
use Rattle.terms.specs.declared.Refusal.TheVariants.{CannotBuild}
use Rattle.rules.specs.Reading.{answered}
use Rattle.rules.specs.Clock.{tick}
use Rattle.rules.specs.Outcome.{taken}
use Rattle.rules.specs.Play.{step, after, answer}
use Rattle.rules.proofs.Laws.Growth.{Grows, after_grows}
use Rattle.rules.proofs.Laws.Filings.{build_once}
use Rattle.rules.proofs.Laws.Rising.{count_in}
use Rattle.rules.proofs.Laws.Refused.{Ticked, refused_after, refused_ticked}
use Rattle.rules.proofs.Laws.Certificates.{AtMostThree, at_most_three_after}
use Rattle.rules.proofs.Laws.Time.{gaps, clock_is_sum, late_stays, Timed, timed}
use Rattle.rules.proofs.Laws.Answered.{answered_after}
use Rattle.rules.proofs.Laws.Halting.{TakenPanic, halts_by_panic}
use Rattle.rules.proofs.Laws.Patience.{with_patience, ButLate, patience_room, patience_answer}
use Rattle.rules.proofs.Laws.Idle.{idle, idle_joined_after, idle_zero}
use Rattle.rules.proofs.Laws.IdleEdits.{OneIdleLess, PlaysWithout, GoodTogether, good_together}
use Rattle.rules.proofs.Laws.IdlePlays.{plays_without}
use Rattle.rules.specs.Deliver.{Delivery}
use Rattle.rules.proofs.Laws.Order.{is_issued, OrderFree, order_free}
use Rattle.rules.proofs.Laws.Exchange.{Exchanged, exchanged_back, PlaysExchanged, plays_exchanged, exchanged_good}
use Rattle.rules.proofs.Agreement.Sizes.{Bounds, bounds, settles_one}

pub record FirstLaws (kit : Kit) : Type 0 where
  -- an event with another answer than Taken leaves the ticked room
  pub refused
      : (n : ℕ) (e : Entry) (a : Answer) → nth kit.events n ≡ Some e → answer kit n ≡ Some a → a ≢ Taken
      → after kit (suc n) ≡ tick kit (after kit n) e.gap
  -- and so changes nothing but the clock and the late tick
  pub refused_only
      : (n : ℕ) (e : Entry) (a : Answer) → nth kit.events n ≡ Some e → answer kit n ≡ Some a → a ≢ Taken → Ticked (after kit n) e.gap (after kit (suc n))
  -- a replica halts only at a PANIC that it takes
  pub halts
      : (n : ℕ) (e : Entry) (a : Answer) (x : ℕ) → nth kit.events n ≡ Some e → answer kit n ≡ Some a
      → ((after kit n).replica x).condition ≢ Halted → ((after kit (suc n)).replica x).condition ≡ Halted → TakenPanic e.event a x
  -- the patience decides the late tick and nothing else
  pub patience_room : (patience n : ℕ) → ButLate (after kit n) (after (with_patience kit patience) n)
  pub patience_answer : (patience n : ℕ) → answer (with_patience kit patience) n ≡ answer kit n
  -- counters, submissions, ticks and histories only grow, and what stands at a value or place stays
  pub grows : (m n : ℕ) → m ≤ n → Grows (after kit m) (after kit n)
  -- no event adds more than three certificates
  pub certificates : (n : ℕ) (e : Entry) → nth kit.events n ≡ Some e → AtMostThree (after kit n) (after kit (suc n))
  -- the clock is the sum of the gaps
  pub clock : (n : ℕ) → (after kit n).clock ≡ gaps (take n kit.events)
  -- late once is late for ever at that tick
  pub late : (t m n : ℕ) → m ≤ n → (after kit m).late ≡ Some t → (after kit n).late ≡ Some t
  -- ticks never fall along the submissions, and none is past the clock
  pub ticks : (n : ℕ) → Timed (after kit n)
  -- an idle of a ticks and then one of b leave the room, and have the answer, of one of a+b
  pub idle_joined : (n a b : ℕ) → step kit (step kit (after kit n) (idle a)).room (idle b) ≡ step kit (after kit n) (idle (a + b))
  -- an idle of 0 is taken and changes nothing
  pub idle_zero : 1 ≤ kit.patience → (n : ℕ) → step kit (after kit n) (idle 0) ≡ taken (after kit n)
  -- with two idles from place n on made one, or an idle of 0 there taken out: all before is the same, all later too, numbered one lower
  pub idle_less : (n : ℕ) (kit₁ : Kit) → 1 ≤ kit.patience → OneIdleLess n kit kit₁ → PlaysWithout n kit kit₁
  -- and both are good kits or neither is, but for the count of events
  pub idle_good : (n : ℕ) (kit₁ : Kit) → OneIdleLess n kit kit₁ → GoodTogether kit kit₁
  -- two deliveries at one tick, to different receivers, of certificates that were issued before either: their order does not matter
  pub order
      : (n gap : ℕ) (a b : Delivery) → a.to ≢ b.to → is_issued (after kit n) a ≡ true → is_issued (after kit n) b ≡ true
      → OrderFree kit (after kit n) gap a b
  -- with two such deliveries from place n on exchanged: all rooms before and after them are the same, and each answer goes with its event
  pub exchange : (n : ℕ) (kit₁ : Kit) → Exchanged n kit kit₁ → PlaysExchanged n kit kit₁
  -- and both are good kits or neither is
  pub exchange_good : (n : ℕ) (kit₁ : Kit) → Exchanged n kit kit₁ → (GoodKit kit → GoodKit kit₁) × (GoodKit kit₁ → GoodKit kit)
  -- an answered request stays answered
  pub answers : (m n : ℕ) → m ≤ n → (request : ℕ) → answered kit (after kit m) request ≡ true → answered kit (after kit n) request ≡ true
  -- event 7 is taken at most once
  pub built_once
      : (m n gap gap₁ : ℕ) (list list₁ : List ℕ) → m < n → nth kit.events m ≡ Some (record { gap = gap; event = Build; requests = list })
      → answer kit m ≡ Some Taken → nth kit.events n ≡ Some (record { gap = gap₁; event = Build; requests = list₁ }) → answer kit n ≡ Some (Err CannotBuild)

pub record FirstBounds (kit : Kit) : Type 0 where
  -- a correct replica's counters hold at most 65, 65 and 1; at most 64 submitted, at most 8 histories filed
  pub room : (n : ℕ) → Bounds kit (after kit n)
  -- the settled count rises by at most one an event
  pub count : (n : ℕ) (e : Entry) → nth kit.events n ≡ Some e → (x : ℕ) → count_in kit (after kit (suc n)) x ≤ suc (count_in kit (after kit n) x)

pub first_laws : (kit : Kit) → FirstLaws kit
first_laws kit =
    record {
      refused = refused_after kit;
      refused_only = refused_ticked kit;
      halts = halts_by_panic kit;
      patience_room = patience_room kit;
      patience_answer = patience_answer kit;
      grows = after_grows kit;
      certificates = at_most_three_after kit;
      clock = clock_is_sum kit;
      late = late_stays kit;
      ticks = timed kit;
      idle_joined = idle_joined_after kit;
      idle_zero = idle_zero kit;
      idle_less = λ n kit₁ low i. plays_without low i;
      idle_good = λ n kit₁ i. good_together i;
      order = λ n. order_free kit (after kit n);
      exchange = λ n kit₁ x. plays_exchanged x;
      exchange_good = λ n kit₁ x. (exchanged_good x, exchanged_good (exchanged_back x));
      answers = answered_after kit;
      built_once = build_once kit;
    }

pub first_bounds : (kit : Kit) → GoodKit kit → FirstBounds kit
first_bounds kit good = record { room = bounds kit good; count = settles_one kit good }
