-- What an editor may do to the idle time of a kit: make two neighbouring idles one, cut one in two, take out an idle of 0 or put one in. Of the two
-- kits the one has an event less. They are good together; but for that event every room and every answer of the one is the other's, and the later ones
-- are numbered one lower. Places and moments are counted from 0: the line of the event at place n has the number n+1. Assumes nothing.
use Rattle.std.specs.Prelude.{◌≡◌, refl, [], ◌∷◌, ℕ, suc, ◌+◌, ◌≤◌, ◌<◌, length, drop, Some}
use Rattle.std.proofs.Common.{arith}
use Rattle.terms.specs.Limits.{replicas, ticks_max, events_max}
use Rattle.terms.specs.Lists.{nth}
use Rattle.terms.specs.ListLaws.{nth-lt}
use Rattle.terms.specs.Kit.{Kit, Entry, GoodEntry, GoodKit}
use Rattle.terms.specs.Numbers.{Taken}
use Rattle.rules.specs.Clock.{tick}
use Rattle.rules.specs.Play.{after, answer}
use Rattle.rules.proofs.Laws.Idle.{idle}
use Rattle.rules.proofs.Laws.Instead.{with_events, Instead, back, same_settings, each_none, each_first, replace, replaced, stands_none, stands_one, stands_two, place_within, instead_length, instead_good}

-- kit₁ is kit with one idle less at place n
pub data OneIdleLess (n : ℕ) (kit kit₁ : Kit) : Type 0 where
  -- for idle a at place n and idle b behind it stands one of a+b
  joined : (a b : ℕ) → a + b ≤ ticks_max → Instead n (idle a ∷ idle b ∷ []) (idle (a + b) ∷ []) kit kit₁ → OneIdleLess n kit kit₁
  -- the idle of 0 at place n is not there
  left_out : Instead n (idle 0 ∷ []) [] kit kit₁ → OneIdleLess n kit kit₁

-- ---- the plays

-- the event at place n is an idle of this gap: it is taken, and only the clock and the late tick move; of 0, nothing does
pub record IdlesAt (n gap : ℕ) (kit : Kit) : Type 0 where
  pub event : nth kit.events n ≡ Some (idle gap)
  pub taken : answer kit n ≡ Some Taken
  pub room : after kit (suc n) ≡ tick kit (after kit n) gap
  pub of_zero : gap ≡ 0 → after kit (suc n) ≡ after kit n

-- kit₁ plays as kit does without the event at place n, which is an idle
pub record PlaysWithout (n : ℕ) (kit kit₁ : Kit) : Type 0 where
  pub gap : ℕ
  pub gone : IdlesAt n gap kit
  -- all before it is the same
  pub room_before : (m : ℕ) → m ≤ n → after kit₁ m ≡ after kit m
  pub answer_before : (m : ℕ) → m < n → answer kit₁ m ≡ answer kit m
  -- so is all behind it, numbered one lower
  pub room_later : (m : ℕ) → n < m → after kit₁ m ≡ after kit (suc m)
  pub answer_later : (m : ℕ) → n ≤ m → answer kit₁ m ≡ answer kit (suc m)
  -- and the room in the end
  pub room_last : after kit₁ (length kit₁.events) ≡ after kit (length kit.events)

-- ---- the kits

idle_good : (size gap : ℕ) → gap ≤ ticks_max → GoodEntry size (idle gap)
idle_good size gap few = record { gap = few; event = refl }

-- the same settings, and one event less than kit has, at a place of kit
pub record OneEventLess (n : ℕ) (kit kit₁ : Kit) : Type 0 where
  pub settings : kit₁ ≡ with_events kit kit₁.events
  pub count : length kit.events ≡ suc (length kit₁.events)
  pub place : n < length kit.events

pub one_event_less : {n : ℕ} {kit kit₁ : Kit} → OneIdleLess n kit kit₁ → OneEventLess n kit kit₁
one_event_less (joined a b few i) =
    record { settings = same_settings i; count = omega (arith, instead_length i); place = omega (arith, instead_length i, place_within i) }
one_event_less (left_out i) =
    record { settings = same_settings i; count = omega (arith, instead_length i); place = omega (arith, instead_length i, place_within i) }

-- both are good or neither is, but for the count of events
pub record GoodTogether (kit kit₁ : Kit) : Type 0 where
  pub less : GoodKit kit → GoodKit kit₁
  pub more : GoodKit kit₁ → length kit.events ≤ events_max → GoodKit kit

pub good_together : {n : ℕ} {kit kit₁ : Kit} → OneIdleLess n kit kit₁ → GoodTogether kit kit₁
good_together {n} {kit} {kit₁} (joined a b few i) =
    let size = replicas kit.f in
    let size₁ = replicas kit₁.f in
    let second = each_first (GoodEntry size₁) (idle b) [] (idle_good size₁ b (omega arith)) (each_none (GoodEntry size₁)) in
    record {
      less = λ good.
          instead_good i good (each_first (GoodEntry size) (idle (a + b)) [] (idle_good size (a + b) few) (each_none (GoodEntry size)))
          (omega (arith, instead_length i, good.event_count));
      more = λ good. instead_good (back i) good (each_first (GoodEntry size₁) (idle a) (idle b ∷ []) (idle_good size₁ a (omega arith)) second);
    }
good_together {n} {kit} {kit₁} (left_out i) =
    let size₁ = replicas kit₁.f in
    record {
      less = λ good. instead_good i good (each_none (GoodEntry (replicas kit.f))) (omega (arith, instead_length i, good.event_count));
      more = λ good. instead_good (back i) good (each_first (GoodEntry size₁) (idle 0) [] (idle_good size₁ 0 (omega arith)) (each_none (GoodEntry size₁)));
    }

-- ---- the four edits of a kit in hand

module _ (kit : Kit) (n : ℕ) where
  inside : (e : Entry) → nth kit.events n ≡ Some e → n ≤ length kit.events
  inside e at = omega (arith, nth-lt kit.events n at)

  -- two idles at places n and n+1 made one
  pub join
      : (a b : ℕ) → nth kit.events n ≡ Some (idle a) → nth kit.events (suc n) ≡ Some (idle b) → a + b ≤ ticks_max
      → OneIdleLess n kit (replace n 2 (idle (a + b) ∷ []) kit)
  join a b e d few =
      joined a b few
      (replaced n (idle a ∷ idle b ∷ []) (idle (a + b) ∷ []) kit (inside (idle a) e) (stands_two kit.events n (idle a) (idle b) e d))

  -- an idle at place n cut in two
  pub cut : (a b : ℕ) → nth kit.events n ≡ Some (idle (a + b)) → a + b ≤ ticks_max → OneIdleLess n (replace n 1 (idle a ∷ idle b ∷ []) kit) kit
  cut a b e few =
      joined a b few
      (back (replaced n (idle (a + b) ∷ []) (idle a ∷ idle b ∷ []) kit (inside (idle (a + b)) e) (stands_one kit.events n (idle (a + b)) e)))

  -- an idle of 0 at place n taken out
  pub take_out : nth kit.events n ≡ Some (idle 0) → OneIdleLess n kit (replace n 1 [] kit)
  take_out e = left_out (replaced n (idle 0 ∷ []) [] kit (inside (idle 0) e) (stands_one kit.events n (idle 0) e))

  -- an idle of 0 put in at place n, which may be behind the last event
  pub put_in : n ≤ length kit.events → OneIdleLess n (replace n 0 (idle 0 ∷ []) kit) kit
  put_in l = left_out (back (replaced n [] (idle 0 ∷ []) kit l (stands_none (drop n kit.events))))
