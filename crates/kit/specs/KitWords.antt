-- Each number of a kit is below 2^32 if those of its settings are, the count of its events, and those of each event. Assumes nothing.
use Rattle.std.specs.Prelude.{◌≡◌, refl, List, [], ◌∷◌, ℕ, zero, suc, ◌<◌, ◌^◌, length, Some}
use Rattle.std.proofs.Common.{subst}
use Rattle.terms.specs.Lists.{nth}
use Rattle.terms.specs.ListLaws.{no_way}
use Rattle.terms.specs.Kit.{Kit, Entry, entry_numbers, entries_numbers, kit_numbers}
use Rattle.kit.specs.Spelling.{Words}
use Rattle.kit.specs.SpellingLaws.{words_left, words_right, words_append, words_cons}

-- ---- events

-- the numbers of each event are below 2^32
abbrev pub EventWords : List Entry → Type 0
EventWords es = (i : ℕ) (e : Entry) → nth es i ≡ Some e → Words (entry_numbers e)

words_each : (es : List Entry) → Words (entries_numbers es) → EventWords es
words_each [] w i e h = no_way (cc)
words_each (d ∷ es) w zero e h = let z : d ≡ e = cc in subst (λ (x : Entry). Words (entry_numbers x)) z (words_left (entry_numbers d) (entries_numbers es) w)
words_each (d ∷ es) w (suc i) e h = words_each es (words_right (entry_numbers d) (entries_numbers es) w) i e h

each_words : (es : List Entry) → EventWords es → Words (entries_numbers es)
each_words [] all = λ i n h. no_way (cc)
each_words (d ∷ es) all = words_append (entry_numbers d) (entries_numbers es) (all 0 d refl) (each_words es (λ i e h. all (suc i) e h))

-- ---- a kit

module _ (kit : Kit) (words : Words (kit_numbers kit)) where
  abbrev behind : List ℕ
  behind = length kit.events ∷ entries_numbers kit.events

  settings_words : Words (kit.f ∷ kit.leader ∷ kit.patience ∷ kit.table)
  unfolding kit_numbers
  settings_words = words_left (kit.f ∷ kit.leader ∷ kit.patience ∷ kit.table) behind words

  pub event_words : EventWords kit.events
  unfolding kit_numbers
  event_words =
      words_each kit.events
      (words_right (length kit.events ∷ []) (entries_numbers kit.events) (words_right (kit.f ∷ kit.leader ∷ kit.patience ∷ kit.table) behind words))

  -- with other events
  pub other_words
      : (es : List Entry) → length es < 2 ^ 32 → EventWords es
      → Words (kit_numbers (record { f = kit.f; leader = kit.leader; patience = kit.patience; table = kit.table; events = es }))
  unfolding kit_numbers
  other_words es few all =
      words_append (kit.f ∷ kit.leader ∷ kit.patience ∷ kit.table) (length es ∷ entries_numbers es) settings_words
      (words_cons (length es) (entries_numbers es) few (each_words es all))
