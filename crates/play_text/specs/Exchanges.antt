-- Two simultaneous deliveries exchanged, over bytes and what they print: the kit with the two exchanged is accepted, and it is printed as the other is,
-- but that the two answers have changed places with their events; if both are the same, it is printed the same. Places are counted from 0. Assumes
-- nothing.
use Rattle.std.specs.Prelude.{◌≡◌, refl, true, ◌≢◌, [], ◌∷◌, ℕ, suc, Some}
use Rattle.std.proofs.Common.{sym, ◌∙◌}
use Rattle.terms.specs.Lists.{nth}
use Rattle.terms.specs.Kit.{Kit, Entry, GoodKit, kit_numbers}
use Rattle.rules.specs.Play.{after, answer}
use Rattle.rules.proofs.Laws.Instead.{replace, first_stands, second_stands, each_none, each_first}
use Rattle.rules.specs.Deliver.{Delivery}
use Rattle.rules.proofs.Laws.Order.{delivery, is_issued}
use Rattle.rules.proofs.Laws.Exchange.{Exchanged, exchange, exchanged_good, PlaysExchanged, plays_exchanged}
use Rattle.kit.specs.Spelling.{Words, Spells}
use Rattle.kit.specs.SpellingLaws.{words_cons}
use Rattle.kit.specs.KitWords.{EventWords, event_words}
use Rattle.play_lines.specs.PlayText.{text_of_play}
use Rattle.play_lines.specs.Exchanged.{text_exchanged}
use Rattle.play_lines.proofs.ExchangedLaws.{text_exchanged_lem, text_same}
use Rattle.play_text.specs.Printed.{printed_text}
use Rattle.play_text.specs.PlayTheorem.{play_printed}
use Rattle.play_text.specs.Edits.{bytes_of, EntryWords, instead_words}

-- kit₁ is kit with the deliveries at places n and n+1 exchanged: its bytes spell a good kit, and it plays and prints as kit does but for those two
pub record OneExchange (n : ℕ) (kit kit₁ : Kit) : Type 0 where
  pub spells : Spells (bytes_of kit₁) kit₁
  pub plays : PlaysExchanged n kit kit₁
  pub prints : printed_text (bytes_of kit) ≡ text_of_play kit
  pub prints_exchanged : printed_text (bytes_of kit₁) ≡ text_exchanged n kit
  pub prints_same : answer kit n ≡ answer kit (suc n) → printed_text (bytes_of kit₁) ≡ printed_text (bytes_of kit)

-- ---- the exchanged kit has a spelling: its numbers are those of the kit

-- a delivery with the gap of another event
gap_words : (d : Delivery) (gap : ℕ) (e : Entry) → EntryWords (delivery gap d) → EntryWords e → EntryWords (delivery e.gap d)
gap_words d gap e w v =
    words_cons e.gap (3 ∷ d.sender ∷ d.name ∷ d.value ∷ d.to ∷ []) (v 0 e.gap refl) (λ i m at. w (suc i) m at)

exchanged_words : {n : ℕ} {kit kit₁ : Kit} → Exchanged n kit kit₁ → Spells (bytes_of kit) kit → GoodKit kit₁ → Words (kit_numbers kit₁)
exchanged_words {n} {kit} {kit₁} x s good =
    let one = event_words kit s.words n (delivery x.gap x.first) (first_stands x.instead) in
    let two = event_words kit s.words (suc n) (delivery 0 x.second) (second_stands x.instead) in
    let front = gap_words x.second 0 (delivery x.gap x.first) two one in
    let behind = gap_words x.first x.gap (delivery 0 x.second) one two in
    let fresh : EventWords (delivery x.gap x.second ∷ delivery 0 x.first ∷ []) =
    each_first EntryWords _ (delivery 0 x.first ∷ []) front (each_first EntryWords _ [] behind (each_none EntryWords)) in
    instead_words x.instead s.words fresh good.event_count

-- ---- the exchange

one_exchange : {n : ℕ} {kit kit₁ : Kit} → Spells (bytes_of kit) kit → Exchanged n kit kit₁ → OneExchange n kit kit₁
one_exchange {n} {kit} {kit₁} s x =
    let good = exchanged_good x s.good in
    let s₁ : Spells (bytes_of kit₁) kit₁ = record { good = good; words = exchanged_words x s good; same = refl } in
    let prints = play_printed (bytes_of kit) kit s in
    let prints₁ = play_printed (bytes_of kit₁) kit₁ s₁ ∙ text_exchanged_lem x in
    record {
      spells = s₁;
      plays = plays_exchanged x;
      prints = prints;
      prints_exchanged = prints₁;
      prints_same = λ same. prints₁ ∙ text_same n kit same ∙ sym prints;
    }

-- two neighbouring deliveries a and b, the second with gap 0, to different receivers, of certificates that were issued before either, may be exchanged;
-- the gap stays in front
abbrev pub OrderIsFree : Kit → Type 0
OrderIsFree kit =
    (n gap : ℕ) (a b : Delivery) → nth kit.events n ≡ Some (delivery gap a) → nth kit.events (suc n) ≡ Some (delivery 0 b)
    → a.to ≢ b.to → is_issued (after kit n) a ≡ true → is_issued (after kit n) b ≡ true
    → OneExchange n kit (replace n 2 (delivery gap b ∷ delivery 0 a ∷ []) kit)

pub order_is_free : (kit : Kit) → Spells (bytes_of kit) kit → OrderIsFree kit
order_is_free kit s n gap a b one two apart a-there b_there = one_exchange s (exchange kit n gap a b one two apart a-there b_there)
