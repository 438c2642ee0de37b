-- What the fall-back gives, at any two moments of a good kit's play: one history, closed lists that never change, and nothing lost that a correct
-- replica had settled. Assumes nothing.
use Rattle.std.specs.Prelude.{◌≡◌, refl, true, ℕ, ◌≤◌, length, leb, Some}
use Rattle.std.proofs.Common.{sym, ◌∙◌, arith, length-append, leb-true, leb-false}
use Rattle.terms.specs.Lists.{nth, Sub, ◌⊑◌}
use Rattle.terms.specs.ListLaws.{split, sub_prefix}
use Rattle.terms.specs.Kit.{Kit, GoodKit}
use Rattle.rules.proofs.Laws.TableLaws.{roles}
use Rattle.rules.specs.Room.{Filing}
use Rattle.rules.specs.Reading.{is_closed}
use Rattle.rules.proofs.Laws.ReadingLaws.{closed_correct}
use Rattle.rules.specs.Switching.{is_valid_filing}
use Rattle.rules.specs.Play.{after}
use Rattle.rules.proofs.Laws.Growth.{after_grows}
use Rattle.rules.proofs.Laws.Holding.{after_keeps}
use Rattle.rules.proofs.Agreement.Invariant.{Backed, backed_grows}
use Rattle.rules.proofs.Agreement.OneRoom.{backed_one, closed_list, settled_in_closed}
use Rattle.rules.proofs.Agreement.Handover.{valid_filing_backed}
use Rattle.rules.proofs.Agreement.Throughout.{at_moment, between}
use Rattle.rules.proofs.Agreement.Theorem.{settled_at, Correct, settled_lists_agree}

-- history h, handed at ag value p and up value q, would be found valid when n events have been played
abbrev pub ValidAt : Kit → ℕ → ℕ → ℕ → ℕ → Type 0
ValidAt kit n p q h = is_valid_filing kit (after kit n) p q h (nth (after kit n).histories h) ≡ true

abbrev pub ClosedAt : Kit → ℕ → ℕ → Type 0
ClosedAt kit n p = is_closed ((after kit n).replica p).condition ≡ true

-- p has closed on a filed history, and its list is that history's
pub record ClosedOn (kit : Kit) (n p : ℕ) : Type 0 where
  pub number : ℕ
  pub filing : Filing
  pub filed : nth (after kit n).histories number ≡ Some filing
  pub is_list : settled_at kit n p ≡ filing.list

pub record NothingLost (kit : Kit) : Type 0 where
  -- at most one history is ever valid
  pub one_history : (m n p q p₁ q₁ h h₁ : ℕ) → ValidAt kit m p q h → ValidAt kit n p₁ q₁ h₁ → h ≡ h₁
  -- a closed list is a filed history's, and never changes
  pub closed_on : (n p : ℕ) → ClosedAt kit n p → ClosedOn kit n p
  pub closed_stays : (m n p : ℕ) → m ≤ n → ClosedAt kit m p → settled_at kit n p ≡ settled_at kit m p
  -- a settled list never shrinks
  pub never_shrinks : (m n p : ℕ) → m ≤ n → Correct kit p → length (settled_at kit m p) ≤ length (settled_at kit n p)
  -- what a correct replica settled at any moment, before or after, stands in every history that one closes on, at the same places
  pub kept_by_closing : (m n p q : ℕ) → Correct kit p → ClosedAt kit n q → settled_at kit m p ⊑ settled_at kit n q

module _ (kit : Kit) (good : GoodKit kit) where
  -- what is backed at two moments is one history
  backed_at : (m n h h₁ : ℕ) → m ≤ n → Backed kit (after kit m) h → Backed kit (after kit n) h₁ → h ≡ h₁
  backed_at m n h h₁ l w v = backed_one kit (after kit n) h h₁ (backed_grows kit (after_grows kit m n l) w) v

  valid_backed_at : (n p q h : ℕ) → ValidAt kit n p q h → Backed kit (after kit n) h
  valid_backed_at n p q h v = valid_filing_backed kit (after kit n) (at_moment kit good n) p q h (nth (after kit n).histories h) refl v

  closed_correct_at : (n p : ℕ) → ClosedAt kit n p → Correct kit p
  closed_correct_at n p c = sym ((at_moment kit good n).faulty_marked p) ∙ closed_correct ((after kit n).replica p).condition c

  closed_backed : (n p : ℕ) → ClosedAt kit n p → (h : ℕ) × (w : Backed kit (after kit n) h) × (settled_at kit n p ≡ w.filing.list)
  closed_backed n p c = closed_list kit (roles kit good) (after kit n) (at_moment kit good n) p (closed_correct_at n p c) c

  stays : (m n p : ℕ) → m ≤ n → ClosedAt kit m p → settled_at kit n p ≡ settled_at kit m p
  stays m n p l c =
      let s = closed_backed m p c in
      let t = closed_backed n p ((after_keeps kit m n l).closed p c) in
      let z : s.0 ≡ t.0 = backed_at m n s.0 t.0 l s.1 t.1 in
      let e : s.1.filing ≡ t.1.filing = cc (z, (after_grows kit m n l).filings _ _ s.1.is_filed_lem, t.1.is_filed_lem) in
      t.2 ∙ rw (← e) (sym s.2)

  kept : (m n p q : ℕ) → Correct kit p → ClosedAt kit n q → settled_at kit m p ⊑ settled_at kit n q
  kept m n p q fp c =
      split (leb m n)
      (λ t. sub_prefix (settled_at kit m p) (settled_at kit n q)
      (λ i a e. in_room n c i a ((between kit good m n (leb-true m n t)).settled_grows p fp i a e)))
      (λ t. let l : n ≤ m = omega (arith, leb-false m n t) in
      rw (← (stays n m q l c)) (sub_prefix (settled_at kit m p) (settled_at kit m q) (in_room m ((after_keeps kit n m l).closed q c))))
    where
      in_room : (i : ℕ) → ClosedAt kit i q → Sub (settled_at kit i p) (settled_at kit i q)
      in_room i d = settled_in_closed kit (roles kit good) (after kit i) (at_moment kit good i) p q fp (closed_correct_at i q d) d

  pub nothing_lost : NothingLost kit
  nothing_lost =
      record {
        one_history = λ m n p q p₁ q₁ h h₁ v w.
            let a = valid_backed_at m p q h v in
            let b = valid_backed_at n p₁ q₁ h₁ w in
            split (leb m n) (λ t. backed_at m n h h₁ (leb-true m n t) a b) (λ t. sym (backed_at n m h₁ h (omega (arith, leb-false m n t)) b a));
        closed_on = λ n p c. let s = closed_backed n p c in record { number = s.0; filing = s.1.filing; filed = s.1.is_filed_lem; is_list = s.2 };
        closed_stays = stays;
        never_shrinks = λ m n p l fp.
            let g = (settled_lists_agree kit good).grows m n p l fp in
            rw (← g.1) (omega (arith, length-append (settled_at kit m p) g.0));
        kept_by_closing = kept;
      }
