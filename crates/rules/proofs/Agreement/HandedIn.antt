-- A kit into which a hand of the history that event 7 built has been put, at a later place and with its own two values: it is a good kit, up to there it
-- plays as the kit does, and there the hand is taken. Places of events are counted from 0. Assumes nothing.
use Rattle.std.specs.Prelude.{◌≡◌, refl, [], ◌∷◌, ℕ, suc, ◌+◌, ◌≤◌, ◌<◌, length, drop, Some}
use Rattle.std.proofs.Math.Path.{ap}
use Rattle.std.proofs.Common.{◌∙◌, arith}
use Rattle.terms.specs.Limits.{replicas, ticks_max, events_max, requests_max}
use Rattle.terms.specs.Lists.{nth}
use Rattle.terms.specs.Kit.{Kit, Entry, GoodKit, GoodEntry}
use Rattle.terms.specs.Numbers.{Taken}
use Rattle.rules.specs.Room.{Room, Filing}
use Rattle.rules.specs.Outcome.{Outcome}
use Rattle.rules.specs.Play.{step, after, answer}
use Rattle.rules.proofs.Laws.Growth.{after_suc, after_grows}
use Rattle.rules.proofs.Laws.Time.{step_clock}
use Rattle.rules.proofs.Laws.Instead.{Instead, back, replace, replaced, stands_none, each_none, each_first, step_other, rooms_before}
use Rattle.rules.proofs.Laws.Instead.{answers_before, same_settings, instead_length, instead_good, first_stands}
use Rattle.rules.proofs.Agreement.Throughout.{at_moment}
use Rattle.rules.proofs.Agreement.Built.{BuiltAt}
use Rattle.rules.proofs.Agreement.Believed.{handing, OwnValues, Receiver, Believed, switch_leader_believed}

-- a hand that can be put in before the event at place n, or behind the last: of history `number`, which event m < n built, with its own two values, to a
-- replica of the kit that can be handed it there
pub record CanHandIn (kit : Kit) (n number gap p q to : ℕ) : Type 0 where
  pub m : ℕ
  pub filing : Filing
  pub built : BuiltAt kit m number filing
  pub later : m < n
  pub place : n ≤ length kit.events
  pub own : OwnValues kit (after kit n) number p q
  pub receiver : Receiver kit (after kit n) to
  pub is_replica : to < replicas kit.f
  pub gap_few : gap ≤ ticks_max
  pub fits : length kit.events < events_max

-- the kit with it
abbrev pub handed_in : Kit → ℕ → ℕ → ℕ → ℕ → ℕ → Kit
handed_in kit n gap p q to = replace n 0 (handing gap p q to [] ∷ []) kit

-- how kit₁ plays, into which the hand has been put
pub record PlaysHandedIn (kit kit₁ : Kit) (n number gap to : ℕ) : Type 0 where
  pub room_before : (i : ℕ) → i ≤ n → after kit₁ i ≡ after kit i
  pub answer_before : (i : ℕ) → i < n → answer kit₁ i ≡ answer kit i
  pub is_taken : answer kit₁ n ≡ Some Taken
  pub is_held : ((after kit₁ (suc n)).replica to).held ≡ Some number
  pub clock : (after kit₁ (suc n)).clock ≡ (after kit n).clock + gap
  pub count : length kit₁.events ≡ suc (length kit.events)

module _ {kit : Kit} {n number gap p q to : ℕ} (good : GoodKit kit) (c : CanHandIn kit n number gap p q to) where
  abbrev hand : Entry
  hand = handing gap p q to []

  abbrev kit₁ : Kit
  kit₁ = handed_in kit n gap p q to

  pub hand_instead : Instead n [] (hand ∷ []) kit kit₁
  hand_instead = replaced n [] (hand ∷ []) kit c.place (stands_none (drop n kit.events))

  -- what is proved of the moment
  now : Believed kit n number c.filing
  now = (switch_leader_believed kit good).believed c.m number c.filing c.built n c.later

  hand_stands : nth kit₁.events n ≡ Some hand
  hand_stands = first_stands (back hand_instead)

  -- the hand in the kit into which it is put
  hand_plays : step kit₁ (after kit₁ n) hand ≡ step kit (after kit n) hand
  hand_plays =
      ap (λ (r : Room). step kit₁ r hand) (rooms_before hand_instead n (omega arith))
      ∙ ap (λ (k : Kit). step k (after kit n) hand) (same_settings hand_instead)
      ∙ step_other kit kit₁.events (after kit n) hand

  room_then : after kit₁ (suc n) ≡ (step kit (after kit n) hand).room
  room_then = after_suc kit₁ n hand hand_stands ∙ ap (λ (o : Outcome). o.room) hand_plays

  more : length kit₁.events ≡ suc (length kit.events)
  more = omega (arith, instead_length hand_instead)

  pub plays_handed_in : PlaysHandedIn kit kit₁ n number gap to
  unfolding answer
  plays_handed_in =
      record {
        room_before = rooms_before hand_instead;
        answer_before = answers_before hand_instead;
        is_taken = rw hand_stands (ap (λ (o : Outcome). Some o.answer) hand_plays ∙ ap Some (now.is_taken p q c.own to c.receiver gap []));
        is_held = ap (λ (r : Room). (r.replica to).held) room_then ∙ now.is_held p q c.own to c.receiver gap [];
        clock = ap (λ (r : Room). r.clock) room_then ∙ step_clock kit (after kit n) hand;
        count = more;
      }

  pub good_handed_in : GoodKit kit₁
  good_handed_in =
      let is-good : GoodEntry (replicas kit.f) hand = record { gap = c.gap_few; event = (c.is_replica, refl) } in
      instead_good hand_instead good (each_first (GoodEntry (replicas kit.f)) hand [] is-good (each_none (GoodEntry (replicas kit.f))))
      (omega (arith, more, c.fits))

  -- its values are at most 65
  pub values_few : (p ≤ suc requests_max) × (q ≤ suc requests_max)
  values_few =
      let filed = (after_grows kit (suc c.m) n c.later).filings _ _ c.built.is_filed_lem in
      let fit = (at_moment kit good n).histories_fit number c.filing filed in
      (omega (arith, now.only_ag p c.own.0, fit.k_list, fit.list_max), omega (arith, now.only_up q c.own.1, fit.j_k, fit.k_list, fit.list_max))
