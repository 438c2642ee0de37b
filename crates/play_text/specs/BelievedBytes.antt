-- A correct switch leader is believed, over bytes and what they print: a hand of the history that event 7 built, with its own two values, is printed
-- with a 0, where it stands in an accepted kit and where it is put into one; the kit into which it is put is accepted. Places are counted from 0. Assumes
-- nothing.
use Rattle.std.specs.Prelude.{◌≡◌, refl, [], ◌∷◌, ℕ, suc, ◌+◌, ◌<◌, Some}
use Rattle.std.proofs.Common.{◌∙◌, arith}
use Rattle.terms.specs.Lists.{nth}
use Rattle.terms.specs.ListLaws.{no_way, nth-lt}
use Rattle.terms.specs.Kit.{Kit, GoodKit}
use Rattle.rules.specs.Room.{Filing}
use Rattle.rules.specs.Play.{after}
use Rattle.rules.proofs.Laws.Instead.{each_none, each_first}
use Rattle.rules.proofs.Agreement.Built.{BuiltAt}
use Rattle.rules.proofs.Agreement.Believed.{handing, OwnValues, Receiver, SwitchLeaderBelieved, switch_leader_believed}
use Rattle.rules.proofs.Agreement.HandedIn.{CanHandIn, handed_in, PlaysHandedIn, hand_instead, plays_handed_in, good_handed_in, values_few}
use Rattle.kit.specs.Spelling.{Spells}
use Rattle.kit.specs.SpellingLaws.{words_cons}
use Rattle.play_lines.specs.Taken.{text_taken}
use Rattle.play_lines.proofs.TakenLaws.{text_taken_lem, text_handed_in}
use Rattle.play_text.specs.Printed.{printed_text}
use Rattle.play_text.specs.PlayTheorem.{play_printed}
use Rattle.play_text.specs.Edits.{bytes_of, EntryWords, instead_words}

-- kit₁ is kit with the hand put in at place n: its bytes spell a good kit, it plays as kit does up to there, and there the hand is taken
pub record OneHandIn (kit kit₁ : Kit) (n number gap to : ℕ) : Type 0 where
  pub spells : Spells (bytes_of kit₁) kit₁
  pub plays : PlaysHandedIn kit kit₁ n number gap to
  pub prints : printed_text (bytes_of kit₁) ≡ text_taken n ((after kit n).clock + gap) kit kit₁

pub record BuiltIsBelieved (kit : Kit) : Type 0 where
  -- over the rules
  pub believed : SwitchLeaderBelieved kit
  -- a hand of the built history that stands in the kit is printed with a 0
  pub prints : (m number : ℕ) (filing : Filing) → BuiltAt kit m number filing → (n : ℕ) → m < n → (p q : ℕ) → OwnValues kit (after kit n) number p q
      → (to : ℕ) → Receiver kit (after kit n) to → (gap : ℕ) → nth kit.events n ≡ Some (handing gap p q to [])
      → printed_text (bytes_of kit) ≡ text_taken n (after kit (suc n)).clock kit kit
  -- and so is one that is put in
  pub put_in : (n number gap p q to : ℕ) → CanHandIn kit n number gap p q to → OneHandIn kit (handed_in kit n gap p q to) n number gap to

-- ---- the kit with the hand has a spelling

module _ {kit : Kit} {n number gap p q to : ℕ} (s : Spells (bytes_of kit) kit) (c : CanHandIn kit n number gap p q to) where
  hand_words : EntryWords (handing gap p q to [])
  hand_words =
      let few = values_few s.good c in
      words_cons gap (4 ∷ p ∷ q ∷ to ∷ []) (omega (arith, c.gap_few)) (words_cons 4 (p ∷ q ∷ to ∷ []) (omega arith)
      (words_cons p (q ∷ to ∷ []) (omega (arith, few.0)) (words_cons q (to ∷ []) (omega (arith, few.1))
      (words_cons to [] (omega (arith, c.is_replica, s.good.f_high)) (λ i m at. no_way (cc))))))

  abbrev kit₁ : Kit
  kit₁ = handed_in kit n gap p q to

  spells_handed_in : Spells (bytes_of kit₁) kit₁
  spells_handed_in =
      let good : GoodKit kit₁ = good_handed_in s.good c in
      let fresh = each_first EntryWords (handing gap p q to []) [] hand_words (each_none EntryWords) in
      record { good = good; words = instead_words (hand_instead s.good c) s.words fresh good.event_count; same = refl }

  one_hand_in : OneHandIn kit kit₁ n number gap to
  one_hand_in =
      let plays = plays_handed_in s.good c in
      record {
        spells = spells_handed_in;
        plays = plays;
        prints = play_printed (bytes_of kit₁) kit₁ spells_handed_in ∙ text_handed_in plays c.place;
      }

pub built_is_believed : (kit : Kit) → Spells (bytes_of kit) kit → BuiltIsBelieved kit
built_is_believed kit s =
    let rules = switch_leader_believed kit s.good in
    record {
      believed = rules;
      prints = λ m number filing b n later p q own to w gap at.
          play_printed (bytes_of kit) kit s
          ∙ text_taken_lem kit n (nth-lt kit.events n at) ((rules.believed m number filing b n later).is_answered p q own to w gap [] at);
      put_in = λ n number gap p q to c. one_hand_in s c;
    }
