-- Demand 3 of document 01. In the play of any good kit, that is, of any kit that the reader accepts, take any two moments m and n and any two
-- replicas p and q that the table does not mark faulty. A moment is a number of events played, so `after kit n` of the rules is the room there.
-- The numbers p and q need not be below 2f+1. That accepted bytes are a good kit is proved where the reader is.
-- What it does not say: that anything is settled at all (Rows has plays where lists of different lengths are), or when.
-- Assumes nothing.
use Rattle.std.specs.Prelude.{◌≡◌, true, false, ◌⊎◌, List, ℕ, ◌≤◌, leb, Some}
use Rattle.std.proofs.Common.{inl, inr, ⊎_elim, arith, leb-true, leb-false}
use Rattle.terms.specs.Lists.{nth, holds, Once, ◌⊑◌}
use Rattle.terms.specs.ListLaws.{split, sub_prefix, agree_prefix}
use Rattle.terms.specs.Kit.{Kit, GoodKit}
use Rattle.rules.specs.Table.{is_marked_faulty}
use Rattle.rules.proofs.Laws.TableLaws.{roles}
use Rattle.rules.specs.Reading.{settled}
use Rattle.rules.specs.Play.{after}
use Rattle.rules.proofs.Agreement.OneRoom.{settled_agree, settled_once, settled_submitted}
use Rattle.rules.proofs.Agreement.Throughout.{at_moment, between}

-- what p has settled when n events have been played
abbrev pub settled_at : Kit → ℕ → ℕ → List ℕ
settled_at kit n p = settled kit (after kit n) p

abbrev pub Correct : Kit → ℕ → Type 0
Correct kit p = is_marked_faulty kit p ≡ false

pub record SettledListsAgree (kit : Kit) : Type 0 where
  -- one is a prefix of the other
  pub one_way : (m n p q : ℕ) → Correct kit p → Correct kit q → (settled_at kit m p ⊑ settled_at kit n q) ⊎ (settled_at kit n q ⊑ settled_at kit m p)
  -- of the same replica, the earlier is a prefix of the later
  pub grows : (m n p : ℕ) → m ≤ n → Correct kit p → settled_at kit m p ⊑ settled_at kit n p
  -- no request stands twice
  pub no_repeats : (n p : ℕ) → Correct kit p → Once (settled_at kit n p)
  -- each was submitted by then
  pub submitted : (n p : ℕ) → Correct kit p → (i request : ℕ) → nth (settled_at kit n p) i ≡ Some request
      → holds request (after kit n).submitted ≡ true

-- two moments in their order
ordered : (kit : Kit) → GoodKit kit → (m n p q : ℕ) → m ≤ n → Correct kit p → Correct kit q
    → (settled_at kit m p ⊑ settled_at kit n q) ⊎ (settled_at kit n q ⊑ settled_at kit m p)
ordered kit good m n p q l fp fq =
    agree_prefix (settled_at kit m p) (settled_at kit n q)
    (λ i a b e d. settled_agree kit (roles kit good) (after kit n) (at_moment kit good n) p q fp fq i a b
    ((between kit good m n l).settled_grows p fp i a e) d)

pub settled_lists_agree : (kit : Kit) → GoodKit kit → SettledListsAgree kit
settled_lists_agree kit good =
    record {
      one_way = λ m n p q fp fq.
          split (leb m n) (λ t. ordered kit good m n p q (leb-true m n t) fp fq)
          (λ t. ⊎_elim (λ a. inr a) (λ a. inl a) (ordered kit good n m q p (omega (arith, leb-false m n t)) fq fp));
      grows = λ m n p l fp. sub_prefix (settled_at kit m p) (settled_at kit n p) ((between kit good m n l).settled_grows p fp);
      no_repeats = λ n p fp. settled_once kit (roles kit good) (after kit n) (at_moment kit good n) p fp;
      submitted = λ n p fp. settled_submitted kit (roles kit good) (after kit n) (at_moment kit good n) p fp;
    }
