-- The plays of two kits of which the one has an idle less (IdleEdits): but for that event every room and every answer of the one is the other's, and the
-- later ones are numbered one lower. Assumes nothing.
use Rattle.std.specs.Prelude.{◌≡◌, [], ◌∷◌, ℕ, suc, ◌+◌, ◌-◌, ◌≤◌, ◌<◌, length, Some}
use Rattle.std.proofs.Common.{sym, ap, ◌∙◌, ⊎_elim, arith}
use Rattle.terms.specs.Lists.{nth}
use Rattle.terms.specs.ListLaws.{nth-lt, same?}
use Rattle.terms.specs.Kit.{Kit}
use Rattle.rules.specs.Clock.{tick}
use Rattle.rules.specs.Outcome.{Outcome}
use Rattle.rules.specs.Decide.{decide, carried_out}
use Rattle.rules.specs.Play.{on_event, step, play, after, answer}
use Rattle.rules.proofs.Laws.Growth.{after_suc}
use Rattle.rules.proofs.Laws.Idle.{idle, idle_joined_after, idle_zero}
use Rattle.rules.proofs.Laws.Instead.{Instead, back, same_patience, first_stands, second_stands, rooms_before, answers_before, rooms_behind, answers_behind, place_within, instead_length}
use Rattle.rules.proofs.Laws.IdleEdits.{OneIdleLess, joined, left_out, IdlesAt, PlaysWithout}

idles_at : (kit : Kit) → 1 ≤ kit.patience → (n gap : ℕ) → nth kit.events n ≡ Some (idle gap) → IdlesAt n gap kit
unfolding answer step on_event decide carried_out
idles_at kit low n gap is =
    let room = after_suc kit n (idle gap) is in
    record {
      event = is;
      taken = rw is;
      room = room;
      of_zero = λ zero. room ∙ ap (tick kit (after kit n)) zero ∙ ap (λ (o : Outcome). o.room) (idle_zero kit low n);
    }

play_joined : (kit : Kit) (n a b : ℕ) → play kit (after kit n) (idle (a + b) ∷ []) ≡ play kit (after kit n) (idle a ∷ idle b ∷ [])
unfolding play
play_joined kit n a b = ap (λ (o : Outcome). o.room) (sym (idle_joined_after kit n a b))

play_zero : (kit : Kit) → 1 ≤ kit.patience → (n : ℕ) → play kit (after kit n) [] ≡ play kit (after kit n) (idle 0 ∷ [])
unfolding play
play_zero kit low n = ap (λ (o : Outcome). o.room) (sym (idle_zero kit low n))

-- if g₁ k events behind the shorter stretch is g k events behind the longer, then g₁ at m is g at m+1
shifted
    : {A : Type 0} (g g₁ : ℕ → A) (n many k : ℕ) → g₁ (n + (many + k)) ≡ g (n + (suc many + k)) → (m : ℕ) → m ≡ n + (many + k) → g₁ m ≡ g (suc m)
shifted g g₁ n many k same m at = let at₁ : suc m ≡ n + (suc many + k) = omega arith in rw (at₁, at) same

module _ {n : ℕ} {kit kit₁ : Kit} (low : 1 ≤ kit.patience) where
  joined_plays : (a b : ℕ) → Instead n (idle a ∷ idle b ∷ []) (idle (a + b) ∷ []) kit kit₁ → PlaysWithout n kit kit₁
  joined_plays a b i =
      let same = play_joined kit n a b in
      let low₁ : 1 ≤ kit₁.patience = same_patience i low in
      let one = first_stands (back i) in
      let both : answer kit₁ n ≡ answer kit (suc n) = (idles_at kit₁ low₁ n (a + b) one).taken ∙ sym (idles_at kit low (suc n) b (second_stands i)).taken in
      let count : length kit.events ≡ suc (length kit₁.events) = omega (arith, instead_length i) in
      let later : (m : ℕ) → n < m → after kit₁ m ≡ after kit (suc m) =
      λ m l. shifted (after kit) (after kit₁) n 1 (m - suc n) (rooms_behind i same (m - suc n)) m (omega arith) in
      record {
        gap = a;
        gone = idles_at kit low n a (first_stands i);
        room_before = rooms_before i;
        answer_before = answers_before i;
        room_later = λ m l. later m (omega arith);
        answer_later = λ m l.
            ⊎_elim (λ h. rw h both)
            (λ h. shifted (answer kit) (answer kit₁) n 1 (m - suc n) (answers_behind i same (m - suc n)) m (omega arith)) (same? m n);
        room_last = rw count (later (length kit₁.events) (nth-lt kit₁.events n one));
      }

  left_out_plays : Instead n (idle 0 ∷ []) [] kit kit₁ → PlaysWithout n kit kit₁
  left_out_plays i =
      let same = play_zero kit low n in
      let count : length kit.events ≡ suc (length kit₁.events) = omega (arith, instead_length i) in
      let later : (m : ℕ) → n ≤ m → after kit₁ m ≡ after kit (suc m) =
      λ m l. shifted (after kit) (after kit₁) n 0 (m - n) (rooms_behind i same (m - n)) m (omega arith) in
      record {
        gap = 0;
        gone = idles_at kit low n 0 (first_stands i);
        room_before = rooms_before i;
        answer_before = answers_before i;
        room_later = λ m l. later m (omega arith);
        answer_later = λ m l. shifted (answer kit) (answer kit₁) n 0 (m - n) (answers_behind i same (m - n)) m (omega arith);
        room_last = rw count (later (length kit₁.events) (place_within i));
      }

pub plays_without : {n : ℕ} {kit kit₁ : Kit} → 1 ≤ kit.patience → OneIdleLess n kit kit₁ → PlaysWithout n kit kit₁
plays_without low (joined a b few i) = joined_plays low a b i
plays_without low (left_out i) = left_out_plays low i
