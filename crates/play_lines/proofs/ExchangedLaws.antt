-- Laws of Exchanged: the kit with two deliveries exchanged prints this, and if both have the same answer it prints the same. Assumes nothing.
use Rattle.std.specs.Prelude.{◌≡◌, ℕ, suc, length}
use Rattle.std.proofs.Common.{ap, ⊎_elim, arith, eq-eqb, ne_eqb}
use Rattle.terms.specs.ListLaws.{same?, tri}
use Rattle.terms.specs.Kit.{Kit}
use Rattle.rules.specs.Room.{Room}
use Rattle.rules.specs.Play.{after, answer}
use Rattle.rules.proofs.Laws.Instead.{same_settings}
use Rattle.rules.proofs.Laws.Exchange.{Exchanged, PlaysExchanged, plays_exchanged, exchanged_count}
use Rattle.play_lines.specs.LinesLaws.{lines_ext}
use Rattle.play_lines.specs.PlayText.{event_said, text_after, text_of_play}
use Rattle.play_lines.specs.Exchanged.{exchanged_place, exchanged_said, text_exchanged}
use Rattle.play_lines.proofs.WithoutLaws.{end_same}

-- ---- what the exchanged kit prints

module _ {n : ℕ} {kit kit₁ : Kit} (p : PlaysExchanged n kit kit₁) where
  -- the clock after every event, the one between the two included
  clock_same : (m : ℕ) → (after kit₁ m).clock ≡ (after kit m).clock
  clock_same m =
      ⊎_elim (λ l. ap (λ (r : Room). r.clock) (p.room_before m (omega arith)))
      (⊎_elim (λ l. ap (λ (r : Room). r.clock) (p.room_later m (omega arith))) (λ e. rw e p.clock_between)) (tri m (suc n))

  answer_goes : (k : ℕ) → answer kit₁ k ≡ answer kit (exchanged_place n k)
  answer_goes k =
      ⊎_elim (λ l. rw (ne_eqb k n (λ e. omega arith), ne_eqb k (suc n) (λ e. omega arith)) (p.answer_before k l))
      (⊎_elim
      (λ l. ⊎_elim (λ e. rw (ne_eqb k n (λ d. omega arith), eq-eqb k (suc n) e, e) p.answer_first)
      (λ d. rw (ne_eqb k n (λ e. omega arith), ne_eqb k (suc n) d) (p.answer_later k (omega arith))) (same? k (suc n)))
      (λ e. rw (eq-eqb k n e, e) p.answer_second)) (tri k n)

  said_exchanged : (k : ℕ) → event_said kit₁ k ≡ exchanged_said n kit k
  unfolding event_said exchanged_said
  said_exchanged k = rw (clock_same (suc k), answer_goes k)

pub text_exchanged_lem : {n : ℕ} {kit kit₁ : Kit} → Exchanged n kit kit₁ → text_of_play kit₁ ≡ text_exchanged n kit
unfolding text_of_play text_after text_exchanged
text_exchanged_lem {n} {kit} {kit₁} x =
    let p = plays_exchanged x in
    let lines = lines_ext (length kit₁.events) 0 (event_said kit₁) (exchanged_said n kit) (λ k h. said_exchanged p k) in
    rw (lines, end_same kit kit₁ (same_settings x.instead) p.room_last, exchanged_count x)

-- two events with the same answer: nothing of the printed play differs
said_same : (n : ℕ) (kit : Kit) → answer kit n ≡ answer kit (suc n) → (k : ℕ) → exchanged_said n kit k ≡ event_said kit k
unfolding event_said exchanged_said
said_same n kit same k =
    ⊎_elim (λ e. rw (eq-eqb k n e, e, same))
    (λ d. ⊎_elim (λ e. rw (ne_eqb k n d, eq-eqb k (suc n) e, e, same)) (λ c. rw (ne_eqb k n d, ne_eqb k (suc n) c)) (same? k (suc n))) (same? k n)

pub text_same : (n : ℕ) (kit : Kit) → answer kit n ≡ answer kit (suc n) → text_exchanged n kit ≡ text_of_play kit
unfolding text_of_play text_after text_exchanged
text_same n kit same = rw (lines_ext (length kit.events) 0 (exchanged_said n kit) (event_said kit) (λ k h. said_same n kit same k))
