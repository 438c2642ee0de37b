-- Some events of a kit replaced by others: up to them the play is the same; behind them it is the same, if the two stretches leave the same room;
-- and the kit with the others is a good kit if they are good events and not too many. Places are counted from 0. In order: the relation (`Instead`);
-- that no event looks at the kit's other events; a play seen from a stretch of it; the two plays; the kit itself (`instead_good`). Assumes nothing.
use Rattle.std.proofs.Common.{◌≡◌, ℕ, zero, suc, ◌+◌, ◌≤◌, ◌<◌, length, take, drop, sym, ◌∙◌, subst, take-append-drop, length-take-le, drop-drop, List, [], ◌∷◌, ◌++◌, arith}
use Rattle.std.proofs.Math.Path.{refl, ap}
use Rattle.std.proofs.Math.Logic.{⊎_elim}
use Rattle.std.specs.Prelude.{Option, None, Some}
use Rattle.std.proofs.Math.ListN.{length-append}
use Rattle.std.proofs.lemmas.List.{take-append-le}
use Rattle.std.proofs.Math.Seq.{take-append-add, take-length, drop-append_seam}
use Rattle.terms.specs.Limits.{replicas, events_max}
use Rattle.terms.specs.Lists.{nth, Sub}
use Rattle.terms.specs.ListLaws.{no_way, nth-append, nth_app_inv, nth_in, nth_drop, nth_behind, sub_prefix}
use Rattle.terms.specs.Kit.{Kit, Entry, GoodEntry, GoodEntries, GoodKit}
use Rattle.rules.specs.Table.{is_marked_faulty, actives}
use Rattle.rules.specs.Room.{Room, fresh_room, with_clock}
use Rattle.rules.specs.Reading.{answered, answered_at}
use Rattle.rules.specs.Clock.{overdue, tick}
use Rattle.rules.specs.Play.{on_event, step, play, after, answer_in, answer}
use Rattle.rules.proofs.Laws.Growth.{play_append}
use Rattle.rules.proofs.Laws.Settings.{same_table, event_same}

-- the kit with these events in place of its own
unfoldable pub with_events : Kit → List Entry → Kit
with_events kit events = same_table kit kit.patience events

-- kit₁ is kit with the events `old`, which stand from place n on, replaced by `new`
pub record Instead (n : ℕ) (old new : List Entry) (kit kit₁ : Kit) : Type 0 where
  pub before : List Entry
  pub later : List Entry
  pub place : length before ≡ n
  pub was : kit.events ≡ before ++ (old ++ later)
  pub is : kit₁ ≡ with_events kit (before ++ (new ++ later))

-- and then kit is kit₁ with `new` replaced by `old`
pub back : {n : ℕ} {old new : List Entry} {kit kit₁ : Kit} → Instead n old new kit kit₁ → Instead n new old kit₁ kit
unfolding with_events same_table
back {kit} i =
    record {
      before = i.before;
      later = i.later;
      place = i.place;
      was = ap (λ (k : Kit). k.events) i.is;
      is = rw (i.is, ← i.was);
    }

-- the kit with `many` of its events, from place n on, replaced by `new`
unfoldable pub replace : ℕ → ℕ → List Entry → Kit → Kit
replace n many new kit = with_events kit (take n kit.events ++ (new ++ drop (n + many) kit.events))

-- it is such a kit, if `old` stands from place n on
pub replaced
    : (n : ℕ) (old new : List Entry) (kit : Kit) → n ≤ length kit.events → Sub old (drop n kit.events)
    → Instead n old new kit (replace n (length old) new kit)
unfolding replace
replaced n old new kit l stands =
    let rest = sub_prefix old (drop n kit.events) stands in
    let later : drop (n + length old) kit.events ≡ rest.0 =
    sym (drop-drop (length old) n kit.events) ∙ ap (drop (length old)) (sym rest.1) ∙ drop-append_seam old rest.0 in
    record {
      before = take n kit.events;
      later = drop (n + length old) kit.events;
      place = length-take-le n kit.events l;
      was = rw (later, rest.1) (sym (take-append-drop n kit.events));
      is = refl;
    }

-- that events stand from a place on, said event by event
pub stands_none : (l : List Entry) → Sub [] l
stands_none l i e h = no_way (cc)

pub stands_first : (l : List Entry) (n : ℕ) (e : Entry) (es : List Entry) → nth l n ≡ Some e → Sub es (drop (suc n) l) → Sub (e ∷ es) (drop n l)
stands_first l n e es at rest zero d h = nth_drop n l 0 ∙ ap (nth l) (omega arith) ∙ at ∙ h
stands_first l n e es at rest (suc i) d h = nth_drop n l (suc i) ∙ ap (nth l) (omega arith) ∙ sym (nth_drop (suc n) l i) ∙ rest i d h

pub stands_one : (l : List Entry) (n : ℕ) (e : Entry) → nth l n ≡ Some e → Sub (e ∷ []) (drop n l)
stands_one l n e at = stands_first l n e [] at (stands_none (drop (suc n) l))

pub stands_two : (l : List Entry) (n : ℕ) (e d : Entry) → nth l n ≡ Some e → nth l (suc n) ≡ Some d → Sub (e ∷ d ∷ []) (drop n l)
stands_two l n e d at next = stands_first l n e (d ∷ []) at (stands_one l (suc n) d next)

-- every event of a list is such
abbrev pub Each {ℓ} : (Entry → Type ℓ) → List Entry → Type ℓ
Each P es = (j : ℕ) (e : Entry) → nth es j ≡ Some e → P e

pub each_none {ℓ} : (P : Entry → Type ℓ) → Each P []
each_none P j e at = no_way (cc)

pub each_first {ℓ} : (P : Entry → Type ℓ) (e : Entry) (es : List Entry) → P e → Each P es → Each P (e ∷ es)
each_first P e es first rest zero d at = let here : e ≡ d = cc in subst P here first
each_first P e es first rest (suc j) d at = rest j d at

-- ---- no event and no tick looks at the kit's other events

module _ (kit : Kit) (events : List Entry) where
  overdue_other : (r : Room) (qs ts : List ℕ) → overdue (with_events kit events) r qs ts ≡ overdue kit r qs ts
  unfolding with_events same_table answered answered_at actives
  overdue_other r [] ts = refl
  overdue_other r (q ∷ qs) [] = refl
  overdue_other r (q ∷ qs) (t ∷ ts) = rw (overdue_other r qs ts)

  tick_other : (r : Room) (gap : ℕ) → tick (with_events kit events) r gap ≡ tick kit r gap
  unfolding tick
  tick_other r gap = rw (overdue_other (with_clock r (r.clock + gap)) _ _)

  pub step_other : (r : Room) (e : Entry) → step (with_events kit events) r e ≡ step kit r e
  unfolding step with_events
  step_other r e =
      event_same kit kit.patience events (tick (with_events kit events) r e.gap) e.event e.requests
      ∙ ap (λ (z : Room). on_event kit z e.event e.requests) (tick_other r e.gap)

  play_other : (r : Room) (es : List Entry) → play (with_events kit events) r es ≡ play kit r es
  unfolding play
  play_other r [] = refl
  play_other r (e ∷ es) = rw (step_other r e) (play_other (step kit r e).room es)

  answer_other : (r : Room) (o : Option Entry) → answer_in (with_events kit events) r o ≡ answer_in kit r o
  answer_other r None = refl
  answer_other r (Some e) = rw (step_other r e)

  -- the room after the first m of these events, as the kit plays them
  after_other : (m : ℕ) → after (with_events kit events) m ≡ play kit (fresh_room kit) (take m events)
  unfolding after with_events same_table fresh_room is_marked_faulty
  after_other m = play_other (fresh_room kit) (take m events)

-- ---- a kit's play, seen from a stretch of its events

module _ (kit : Kit) (before stretch later : List Entry) where
  abbrev through : Kit
  through = with_events kit (before ++ (stretch ++ later))

  room_to : (m : ℕ) → m ≤ length before → after through m ≡ play kit (fresh_room kit) (take m before)
  room_to m l = after_other kit _ m ∙ ap (play kit (fresh_room kit)) (take-append-le m before (stretch ++ later) l)

  room_from
      : (m : ℕ) → after through (length before + (length stretch + m)) ≡ play kit (play kit (play kit (fresh_room kit) before) stretch) (take m later)
  room_from m =
      after_other kit _ _
      ∙ ap (play kit (fresh_room kit))
      (take-append-add before (stretch ++ later) (length stretch + m) ∙ ap (λ (z : List Entry). before ++ z) (take-append-add stretch later m))
      ∙ play_append kit (fresh_room kit) before (stretch ++ take m later)
      ∙ play_append kit (play kit (fresh_room kit) before) stretch (take m later)

  answer_to : (m : ℕ) → m < length before → answer through m ≡ answer_in kit (play kit (fresh_room kit) (take m before)) (nth before m)
  unfolding answer with_events same_table
  answer_to m l =
      let e = nth_in before m l in
      rw (room_to m (omega arith), e.1, nth-append before (stretch ++ later) m e.1) (answer_other kit _ _ (Some e.0))

  answer_from
      : (m : ℕ)
      → answer through (length before + (length stretch + m))
      ≡ answer_in kit (play kit (play kit (play kit (fresh_room kit) before) stretch) (take m later)) (nth later m)
  unfolding answer with_events same_table
  answer_from m =
      rw (room_from m, nth_behind before (stretch ++ later) (length stretch + m), nth_behind stretch later m) (answer_other kit _ _ (nth later m))

-- ---- the two plays

module _ {n : ℕ} {old new : List Entry} {kit kit₁ : Kit} (i : Instead n old new kit kit₁) where
  own : kit ≡ through kit i.before old i.later
  unfolding with_events same_table
  own = rw (← i.was)

  -- the stretch stands there, and what comes behind it
  pub stands_there : (k : ℕ) → nth kit.events (n + k) ≡ nth (old ++ i.later) k
  stands_there k = rw (← i.place, i.was) (nth_behind i.before (old ++ i.later) k)

  pub rooms_before : (m : ℕ) → m ≤ n → after kit₁ m ≡ after kit m
  rooms_before m l =
      let fits : m ≤ length i.before = omega (arith, i.place) in
      ap (λ (k : Kit). after k m) i.is
      ∙ room_to kit i.before new i.later m fits
      ∙ sym (ap (λ (k : Kit). after k m) own ∙ room_to kit i.before old i.later m fits)

  pub answers_before : (m : ℕ) → m < n → answer kit₁ m ≡ answer kit m
  answers_before m l =
      let fits : m < length i.before = omega (arith, i.place) in
      ap (λ (k : Kit). answer k m) i.is
      ∙ answer_to kit i.before new i.later m fits
      ∙ sym (ap (λ (k : Kit). answer k m) own ∙ answer_to kit i.before old i.later m fits)

  -- the room before the stretch
  here : play kit (fresh_room kit) i.before ≡ after kit n
  here =
      let all : take n i.before ≡ i.before = rw (← i.place) (take-length i.before) in
      sym (ap (λ (k : Kit). after k n) own ∙ room_to kit i.before old i.later n (omega (arith, i.place)) ∙ ap (play kit (fresh_room kit)) all)

  -- where the two stretches leave the same room
  module _ (same : play kit (after kit n) new ≡ play kit (after kit n) old) where
    both : play kit (play kit (fresh_room kit) i.before) new ≡ play kit (play kit (fresh_room kit) i.before) old
    both = rw here same

    pub rooms_behind : (m : ℕ) → after kit₁ (n + (length new + m)) ≡ after kit (n + (length old + m))
    rooms_behind m =
        rw (← i.place)
        (ap (λ (k : Kit). after k (length i.before + (length new + m))) i.is
        ∙ room_from kit i.before new i.later m
        ∙ ap (λ (r : Room). play kit r (take m i.later)) both
        ∙ sym (ap (λ (k : Kit). after k (length i.before + (length old + m))) own ∙ room_from kit i.before old i.later m))

    pub answers_behind : (m : ℕ) → answer kit₁ (n + (length new + m)) ≡ answer kit (n + (length old + m))
    answers_behind m =
        rw (← i.place)
        (ap (λ (k : Kit). answer k (length i.before + (length new + m))) i.is
        ∙ answer_from kit i.before new i.later m
        ∙ ap (λ (r : Room). answer_in kit (play kit r (take m i.later)) (nth i.later m)) both
        ∙ sym (ap (λ (k : Kit). answer k (length i.before + (length old + m))) own ∙ answer_from kit i.before old i.later m))

  -- ---- the kit itself

  pub same_settings : kit₁ ≡ with_events kit kit₁.events
  unfolding with_events same_table
  same_settings = rw i.is

  pub same_patience : {low : ℕ} → low ≤ kit.patience → low ≤ kit₁.patience
  unfolding with_events same_table
  same_patience l = rw i.is l

  -- the place is one of its places, or just behind the last
  pub place_within : n ≤ length kit₁.events
  unfolding with_events same_table
  place_within = rw i.is (omega (arith, i.place, length-append i.before (new ++ i.later)))

  -- as many events fewer or more as the stretches differ
  pub instead_length : length kit₁.events + length old ≡ length kit.events + length new
  unfolding with_events same_table
  instead_length =
      rw (i.is, i.was)
      (omega (
        arith,
        length-append i.before (new ++ i.later),
        length-append new i.later,
        length-append i.before (old ++ i.later),
        length-append old i.later,
      ))

  -- what stands before and behind the stretch stood in the kit
  stood_before : (j : ℕ) (e : Entry) → nth i.before j ≡ Some e → nth kit.events j ≡ Some e
  stood_before j e h = rw i.was (nth-append i.before (old ++ i.later) j h)

  stood_behind : (j : ℕ) (e : Entry) → nth i.later j ≡ Some e → nth kit.events (length i.before + (length old + j)) ≡ Some e
  stood_behind j e h = rw (i.was, nth_behind i.before (old ++ i.later) (length old + j), nth_behind old i.later j) h

  -- what every event of kit and every new one has, every event of kit₁ has
  pub instead_each {ℓ} : (P : Entry → Type ℓ) → Each P kit.events → Each P new → Each P kit₁.events
  unfolding with_events same_table
  instead_each P all fresh j e at =
      ⊎_elim (λ h. all j e (stood_before j e h))
      (λ h. ⊎_elim (λ g. fresh h.0 e g) (λ g. all _ e (stood_behind g.0 e g.2)) (nth_app_inv new i.later h.0 h.2))
      (nth_app_inv i.before (new ++ i.later) j (rw i.is at at))

  pub instead_good : GoodKit kit → GoodEntries (replicas kit.f) new → length kit₁.events ≤ events_max → GoodKit kit₁
  unfolding with_events same_table
  instead_good good fresh few =
      let entries : GoodEntries (replicas kit.f) kit₁.events = instead_each (GoodEntry (replicas kit.f)) good.events_good fresh in
      rw i.is
      (record {
        f_low = good.f_low;
        f_high = good.f_high;
        leader_below = good.leader_below;
        patience_low = good.patience_low;
        patience_high = good.patience_high;
        table_length = good.table_length;
        table_numbers = good.table_numbers;
        active_count = good.active_count;
        faulty_count = good.faulty_count;
        leader_active = good.leader_active;
        event_count = rw i.is at few;
        events_good = rw i.is at entries;
      })

-- ---- the first two events of the stretch

module _ {n : ℕ} {e : Entry} {more new : List Entry} {kit kit₁ : Kit} where
  pub first_stands : Instead n (e ∷ more) new kit kit₁ → nth kit.events n ≡ Some e
  first_stands i = ap (nth kit.events) (omega arith) ∙ stands_there i 0

  pub second_stands : {d : Entry} → Instead n (e ∷ d ∷ more) new kit kit₁ → nth kit.events (suc n) ≡ Some d
  second_stands i = ap (nth kit.events) (omega arith) ∙ stands_there i 1
