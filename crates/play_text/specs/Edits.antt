-- What an editor may do to the idle time of a kit, over bytes and what they print: a kit with one idle less than an accepted one is accepted, and one
-- with one more if it has at most 4,096 events; each is printed as the other is, but for one line and the numbers of the later events. Places are
-- counted from 0. (That the programs take 65,536 bytes and no more is another matter: `program_text`.) Assumes nothing.
use Rattle.std.specs.Prelude.{◌≡◌, refl, List, [], ◌∷◌, ℕ, suc, ◌+◌, ◌≤◌, ◌<◌, length, Some}
use Rattle.std.proofs.Common.{◌∙◌, arith}
use Rattle.terms.specs.Limits.{ticks_max, events_max}
use Rattle.terms.specs.Lists.{nth}
use Rattle.terms.specs.ListLaws.{no_way}
use Rattle.terms.specs.Kit.{Kit, Entry, GoodKit, kit_numbers, entry_numbers}
use Rattle.rules.proofs.Laws.Settings.{same_table}
use Rattle.rules.proofs.Laws.Idle.{idle}
use Rattle.rules.proofs.Laws.Instead.{with_events, Instead, back, replace, same_settings, each_none, each_first, instead_each}
use Rattle.rules.proofs.Laws.IdleEdits.{OneIdleLess, joined, left_out, join, cut, take_out, put_in, PlaysWithout, one_event_less, good_together}
use Rattle.rules.proofs.Laws.IdlePlays.{plays_without}
use Rattle.kit.specs.Spelling.{spellings, Words, Spells}
use Rattle.kit.specs.SpellingLaws.{words_cons}
use Rattle.kit.specs.KitWords.{EventWords, event_words, other_words}
use Rattle.play_lines.specs.Without.{text_with, text_without}
use Rattle.play_lines.proofs.WithoutLaws.{text_with_lem, text_without_lem}
use Rattle.play_text.specs.Printed.{printed_text}
use Rattle.play_text.specs.PlayTheorem.{play_printed}

-- the bytes of a kit; of an accepted one they are the bytes that were accepted, since it has one spelling
abbrev pub bytes_of : Kit → List ℕ
bytes_of kit = spellings (kit_numbers kit)

-- kit₁ has one idle less than kit, at place n: the bytes of both spell good kits, and they play and print the same but for the event at place n of kit
pub record OneIdleApart (n : ℕ) (kit kit₁ : Kit) : Type 0 where
  pub spells : Spells (bytes_of kit) kit
  pub spells_less : Spells (bytes_of kit₁) kit₁
  pub plays : PlaysWithout n kit kit₁
  pub prints : printed_text (bytes_of kit) ≡ text_with n kit
  pub prints_less : printed_text (bytes_of kit₁) ≡ text_without n kit

apart : {n : ℕ} {kit kit₁ : Kit} → OneIdleLess n kit kit₁ → Spells (bytes_of kit) kit → Spells (bytes_of kit₁) kit₁ → OneIdleApart n kit kit₁
apart {n} {kit} {kit₁} i s s₁ =
    let low = s.good.patience_low in
    record {
      spells = s;
      spells_less = s₁;
      plays = plays_without low i;
      prints = play_printed (bytes_of kit) kit s ∙ text_with_lem kit n (one_event_less i).place;
      prints_less = play_printed (bytes_of kit₁) kit₁ s₁ ∙ text_without_lem low i;
    }

-- ---- the edited kit has a spelling

abbrev pub EntryWords : Entry → Type 0
EntryWords e = Words (entry_numbers e)

idle_words : (gap : ℕ) → gap ≤ ticks_max → EntryWords (idle gap)
idle_words gap few = words_cons gap (6 ∷ []) (omega arith) (words_cons 6 [] (omega arith) (λ i n at. no_way (cc)))

pub instead_words
    : {n : ℕ} {old new : List Entry} {kit kit₁ : Kit} → Instead n old new kit kit₁ → Words (kit_numbers kit) → EventWords new
    → length kit₁.events ≤ events_max → Words (kit_numbers kit₁)
unfolding with_events same_table
instead_words {kit} {kit₁} i words fresh few =
    let all = instead_each i EntryWords (event_words kit words) fresh in
    rw (same_settings i) (other_words kit words kit₁.events (omega arith) all)

less_words : {n : ℕ} {kit kit₁ : Kit} → OneIdleLess n kit kit₁ → Spells (bytes_of kit) kit → GoodKit kit₁ → Words (kit_numbers kit₁)
less_words (joined a b few i) s good =
    instead_words i s.words (each_first EntryWords (idle (a + b)) [] (idle_words (a + b) few) (each_none EntryWords)) good.event_count
less_words (left_out i) s good = instead_words i s.words (each_none EntryWords) good.event_count

more_words : {n : ℕ} {kit kit₁ : Kit} → OneIdleLess n kit kit₁ → Spells (bytes_of kit₁) kit₁ → GoodKit kit → Words (kit_numbers kit)
more_words (joined a b few i) s good =
    let second = each_first EntryWords (idle b) [] (idle_words b (omega arith)) (each_none EntryWords) in
    instead_words (back i) s.words (each_first EntryWords (idle a) (idle b ∷ []) (idle_words a (omega arith)) second) good.event_count
more_words (left_out i) s good =
    instead_words (back i) s.words (each_first EntryWords (idle 0) [] (idle_words 0 (omega arith)) (each_none EntryWords)) good.event_count

-- ---- the edits

-- from a kit to the one with one idle less
idle_less : {n : ℕ} {kit kit₁ : Kit} → Spells (bytes_of kit) kit → OneIdleLess n kit kit₁ → OneIdleApart n kit kit₁
idle_less s i =
    let good = (good_together i).less s.good in
    apart i s (record { good = good; words = less_words i s good; same = refl })

-- and to the one with one idle more, if there is room for it
idle_more : {n : ℕ} {kit kit₁ : Kit} → Spells (bytes_of kit₁) kit₁ → OneIdleLess n kit kit₁ → length kit₁.events < events_max → OneIdleApart n kit kit₁
idle_more s i few =
    let good = (good_together i).more s.good (omega (arith, (one_event_less i).count)) in
    apart i (record { good = good; words = more_words i s good; same = refl }) s

-- what an editor may do to a kit
pub record EditorMay (kit : Kit) : Type 0 where
  -- make the idles at places n and n+1 one
  pub join
      : (n a b : ℕ) → nth kit.events n ≡ Some (idle a) → nth kit.events (suc n) ≡ Some (idle b) → a + b ≤ ticks_max
      → OneIdleApart n kit (replace n 2 (idle (a + b) ∷ []) kit)
  -- cut the idle at place n in two
  pub cut
      : (n a b : ℕ) → nth kit.events n ≡ Some (idle (a + b)) → length kit.events < events_max
      → OneIdleApart n (replace n 1 (idle a ∷ idle b ∷ []) kit) kit
  -- take out the idle of 0 at place n
  pub take_out : (n : ℕ) → nth kit.events n ≡ Some (idle 0) → OneIdleApart n kit (replace n 1 [] kit)
  -- put in an idle of 0 before the event at place n, or behind the last event
  pub put_in
      : (n : ℕ) → n ≤ length kit.events → length kit.events < events_max → OneIdleApart n (replace n 0 (idle 0 ∷ []) kit) kit

pub editor_may : (kit : Kit) → Spells (bytes_of kit) kit → EditorMay kit
editor_may kit s =
    record {
      join = λ n a b e d few. idle_less s (join kit n a b e d few);
      cut = λ n a b e room. idle_more s (cut kit n a b e (s.good.events_good n (idle (a + b)) e).gap) room;
      take_out = λ n e. idle_less s (take_out kit n e);
      put_in = λ n l room. idle_more s (put_in kit n l) room;
    }
