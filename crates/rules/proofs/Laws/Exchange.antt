-- Two neighbouring deliveries of a kit exchanged, the second of which has gap 0, to different receivers and of certificates that were issued before
-- either; the gap stays in front. Both are good kits or neither is; every room before the two and after them is the same, the two answers go with
-- their events, and every other answer is the same. Places and moments are counted from 0. Assumes nothing.
use Rattle.std.specs.Prelude.{◌≡◌, true, ◌≢◌, List, [], ◌∷◌, ℕ, suc, ◌+◌, ◌-◌, ◌≤◌, ◌<◌, length, Some}
use Rattle.std.proofs.Math.Path.{sym}
use Rattle.std.proofs.Common.{ap, ◌∙◌, arith}
use Rattle.terms.specs.Limits.{replicas}
use Rattle.terms.specs.Lists.{nth}
use Rattle.terms.specs.ListLaws.{nth-lt}
use Rattle.terms.specs.Kit.{Kit, Entry, GoodEntry, GoodEntries, GoodKit}
use Rattle.rules.specs.Room.{Room}
use Rattle.rules.specs.Play.{step, play, after, answer}
use Rattle.rules.proofs.Laws.Growth.{after_suc}
use Rattle.rules.proofs.Laws.Time.{step_clock, step_late}
use Rattle.rules.proofs.Laws.Instead.{Instead, back, replace, replaced, stands_two, first_stands, second_stands, each_none, each_first, step_other, same_settings, rooms_before, answers_before, rooms_behind, answers_behind, instead_length, instead_good}
use Rattle.rules.specs.Deliver.{Delivery}
use Rattle.rules.proofs.Laws.Order.{delivery, is_issued, OrderFree, order_free}

-- kit₁ is kit with the deliveries at places n and n+1 exchanged
pub record Exchanged (n : ℕ) (kit kit₁ : Kit) : Type 0 where
  pub gap : ℕ
  pub first : Delivery
  pub second : Delivery
  pub instead
      : Instead n (delivery gap first ∷ delivery 0 second ∷ []) (delivery gap second ∷ delivery 0 first ∷ []) kit kit₁
  -- to different receivers
  pub apart : first.to ≢ second.to
  -- both certificates were issued before either event
  pub first_issued : is_issued (after kit n) first ≡ true
  pub second_issued : is_issued (after kit n) second ≡ true

-- and then kit is kit₁ with the two exchanged
pub exchanged_back : {n : ℕ} {kit kit₁ : Kit} → Exchanged n kit kit₁ → Exchanged n kit₁ kit
exchanged_back {n} {kit} {kit₁} x =
    let here : after kit₁ n ≡ after kit n = rooms_before x.instead n (omega arith) in
    record {
      gap = x.gap;
      first = x.second;
      second = x.first;
      instead = back x.instead;
      apart = λ e. x.apart (sym e);
      first_issued = rw here x.second_issued;
      second_issued = rw here x.first_issued;
    }

-- ---- the plays

-- kit₁ plays as kit does with the events at places n and n+1 exchanged
pub record PlaysExchanged (n : ℕ) (kit kit₁ : Kit) : Type 0 where
  -- every room before the two and after them is the same
  pub room_before : (m : ℕ) → m ≤ n → after kit₁ m ≡ after kit m
  pub room_later : (m : ℕ) → suc n < m → after kit₁ m ≡ after kit m
  pub room_last : after kit₁ (length kit₁.events) ≡ after kit (length kit.events)
  -- the one between them has the same clock and late tick
  pub clock_between : (after kit₁ (suc n)).clock ≡ (after kit (suc n)).clock
  pub late_between : (after kit₁ (suc n)).late ≡ (after kit (suc n)).late
  -- the two answers go with their events
  pub answer_first : answer kit₁ (suc n) ≡ answer kit n
  pub answer_second : answer kit₁ n ≡ answer kit (suc n)
  -- every other answer is the same
  pub answer_before : (m : ℕ) → m < n → answer kit₁ m ≡ answer kit m
  pub answer_later : (m : ℕ) → suc n < m → answer kit₁ m ≡ answer kit m

-- what the events at places n and n+1 of a kit come to
module _ {n : ℕ} {kit kit₁ : Kit} {e d : Entry} {new : List Entry} (i : Instead n (e ∷ d ∷ []) new kit kit₁) where
  room_between : after kit (suc n) ≡ (step kit (after kit n) e).room
  room_between = after_suc kit n e (first_stands i)

  answer_one : answer kit n ≡ Some (step kit (after kit n) e).answer
  unfolding answer
  answer_one = rw (first_stands i)

  answer_two : answer kit (suc n) ≡ Some (step kit (step kit (after kit n) e).room d).answer
  unfolding answer
  answer_two = rw (second_stands i, room_between)

module _ {n : ℕ} {kit kit₁ : Kit} (x : Exchanged n kit kit₁) where
  free : OrderFree kit (after kit n) x.gap x.first x.second
  free = order_free kit (after kit n) x.gap x.first x.second x.apart x.first_issued x.second_issued

  same_step : (r : Room) (e : Entry) → step kit₁ r e ≡ step kit r e
  same_step r e = ap (λ (k : Kit). step k r e) (same_settings x.instead) ∙ step_other kit kit₁.events r e

  same_here : after kit₁ n ≡ after kit n
  same_here = rooms_before x.instead n (omega arith)

  -- the first event of kit₁'s two, in kit's room
  between : after kit₁ (suc n) ≡ (step kit (after kit n) (delivery x.gap x.second)).room
  between = room_between (back x.instead) ∙ rw (same_here, same_step (after kit n) (delivery x.gap x.second))

  both_played
      : play kit (after kit n) (delivery x.gap x.second ∷ delivery 0 x.first ∷ [])
      ≡ play kit (after kit n) (delivery x.gap x.first ∷ delivery 0 x.second ∷ [])
  unfolding play
  both_played = sym free.room

  first_goes : answer kit₁ (suc n) ≡ answer kit n
  first_goes =
      answer_two (back x.instead)
      ∙ rw (
        same_here,
        same_step (after kit n) (delivery x.gap x.second),
        same_step (step kit (after kit n) (delivery x.gap x.second)).room (delivery 0 x.first),
      )
      (ap Some free.answer_a)
      ∙ sym (answer_one x.instead)

  second_goes : answer kit₁ n ≡ answer kit (suc n)
  second_goes =
      answer_one (back x.instead)
      ∙ rw (same_here, same_step (after kit n) (delivery x.gap x.second)) (ap Some (sym free.answer_b))
      ∙ sym (answer_two x.instead)

  -- as many events
  pub exchanged_count : length kit₁.events ≡ length kit.events
  exchanged_count = omega (arith, instead_length x.instead)

  pub plays_exchanged : PlaysExchanged n kit kit₁
  plays_exchanged =
      let place : (m : ℕ) → suc n < m → n + (2 + (m - suc (suc n))) ≡ m = λ m l. omega arith in
      let later : (m : ℕ) → suc n < m → after kit₁ m ≡ after kit m =
      λ m l. rw (place m l) at (rooms_behind x.instead both_played (m - suc (suc n))) in
      record {
        room_before = rooms_before x.instead;
        room_later = λ m l. later m (omega arith);
        room_last = rw exchanged_count (later (length kit.events) (nth-lt kit.events (suc n) (second_stands x.instead)));
        clock_between = rw (between, room_between x.instead) (step_clock kit (after kit n) _ ∙ sym (step_clock kit (after kit n) _));
        late_between = rw (between, room_between x.instead) (step_late kit (after kit n) _ ∙ sym (step_late kit (after kit n) _));
        answer_first = first_goes;
        answer_second = second_goes;
        answer_before = answers_before x.instead;
        answer_later = λ m l. rw (place m l) at (answers_behind x.instead both_played (m - suc (suc n)));
      }

-- ---- the kits

-- the exchanged kit is good; and so, by `exchanged_back`, is the one that it came of, if the exchanged one is
pub exchanged_good : {n : ℕ} {kit kit₁ : Kit} → Exchanged n kit kit₁ → GoodKit kit → GoodKit kit₁
exchanged_good {n} {kit} {kit₁} x good =
    let size = replicas kit.f in
    let one = good.events_good n (delivery x.gap x.first) (first_stands x.instead) in
    let two = good.events_good (suc n) (delivery 0 x.second) (second_stands x.instead) in
    let front : GoodEntry size (delivery x.gap x.second) = record { gap = one.gap; event = two.event } in
    let behind : GoodEntry size (delivery 0 x.first) = record { gap = two.gap; event = one.event } in
    let fresh : GoodEntries size (delivery x.gap x.second ∷ delivery 0 x.first ∷ []) =
    each_first (GoodEntry size) _ (delivery 0 x.first ∷ []) front (each_first (GoodEntry size) _ [] behind (each_none (GoodEntry size))) in
    instead_good x.instead good fresh (omega (arith, instead_length x.instead, good.event_count))

-- the deliveries at places n and n+1 of a kit in hand
pub exchange
    : (kit : Kit) (n gap : ℕ) (a b : Delivery) → nth kit.events n ≡ Some (delivery gap a) → nth kit.events (suc n) ≡ Some (delivery 0 b)
    → a.to ≢ b.to → is_issued (after kit n) a ≡ true → is_issued (after kit n) b ≡ true
    → Exchanged n kit (replace n 2 (delivery gap b ∷ delivery 0 a ∷ []) kit)
exchange kit n gap a b one two apart a-there b_there =
    let stand = stands_two kit.events n (delivery gap a) (delivery 0 b) one two in
    record {
      gap = gap;
      first = a;
      second = b;
      instead =
          replaced n (delivery gap a ∷ delivery 0 b ∷ []) (delivery gap b ∷ delivery 0 a ∷ []) kit (omega (arith, nth-lt kit.events n one)) stand;
      apart = apart;
      first_issued = a-there;
      second_issued = b_there;
    }
