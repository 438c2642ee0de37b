-- On a room's own parts, within its bounds: what a counter's value is bound to, and that validity is the rules'. Assumes nothing.
use Rattle.std.specs.Prelude.{◌≡◌, refl, Bool, true, false, ◌&&◌, List, [], ◌∷◌, ℕ, zero, suc, ◌≤◌, ◌<◌, take, get_or, eqb, Option, None, Some}
use Rattle.std.proofs.Common.{ap, arith, le-leb, le-ltb}
use Rattle.std.proofs.Math.ListN.{length}
use borrow.Author.Tests.{lt-leb}
use Rattle.terms.specs.Lent.{no_history}
use Rattle.terms.specs.Limits.{replicas_max, ag, up, names, requests_max, histories_max}
use Rattle.terms.specs.Lists.{nth, holds, distinct, all_of, all_below}
use Rattle.terms.specs.ListLaws.{nth-lt, no_way}
use Rattle.terms.specs.Mark.{mark_of}
use Rattle.terms.specs.Padding.{pad, length_pad, take_pad, take_pad-le, get_or_pad}
use Rattle.terms.specs.Kit.{Kit}
use Rattle.terms.specs.declared.Content.{Content}
use Rattle.rules.specs.Table.{actives, switch_leader}
use Rattle.rules.proofs.Laws.TableLaws.{actives_ext}
use Rattle.rules.specs.Room.{Room, Filing}
use Rattle.rules.specs.Reading.{content_at, is_content}
use Rattle.rules.specs.Switching.{is_committed, is_settled_by, is_valid, is_valid_filing}
use Rattle.ledger.specs.LedgerLayout.{lay_book}
use Rattle.ledger.specs.Ledger.{content_on}
use Rattle.ledger.specs.LedgerLaws as Ledger
use Rattle.replica.specs.RecordLaws.{actives_laid}
use Rattle.room.specs.Layout.{lay_table, lay_roles, history_of, lay_histories}
use Rattle.room.specs.LayoutLaws.{history_laid}
use Rattle.rules.proofs.Agreement.Invariant.{FilingBounds}
use Rattle.room.specs.Bounds.{Bounds}
use Rattle.room.specs.GoodLaws.{size_max, leader_max, switch_max}
use Rattle.validity.specs.Validity.{is_committed_at, is_committed_on, is_common_to, is_settled_at, is_settled_on, is_listed, is_borne_out, is_filed_at, is_valid_on}
use Rattle.rules.proofs.Laws.ReadingLaws.{entry_at-suc}

-- ---- tests that agree where they are asked

all_below_ext : (n : ℕ) (s t : ℕ → Bool) → ((i : ℕ) → i < n → s i ≡ t i) → all_below n s ≡ all_below n t
all_below_ext zero s t e = refl
all_below_ext (suc n) s t e = rw (e n (omega arith), all_below_ext n s t (λ i h. e i (omega arith)))

and_none : (b : Bool) → (b && false) ≡ false
and_none true = refl
and_none false = refl

-- ---- looking up

past_end : {A : Type 0} (l : List A) (i : ℕ) → nth l i ≡ None → length l ≤ i
past_end [] i e = omega arith
past_end (x ∷ l) zero e = no_way (cc)
past_end (x ∷ l) (suc i) e = omega (arith, past_end l i e)

module _ (kit : Kit) (r : Room) (b : Bounds kit r) where
  pub content_laid : (x name value : ℕ) → x < replicas_max → name < names
      → content_on (lay_book r.counter) x name value ≡ content_at (r.counter x name) value
  content_laid x name value hx hn = Ledger.content_laid r.counter x name hx hn value (b.counter_max x name)

  -- ---- one history

  module _ (list : List ℕ) where
    committed_laid : (i : ℕ)
        → is_committed_on (lay_book r.counter) (lay_roles kit) (pad requests_max list) i
        ≡ is_committed kit r list (suc i)
    unfolding is_committed_on is_committed_at is_committed lay_roles
    committed_laid i =
        rw (
          get_or_pad requests_max list i,
          entry_at-suc list i,
          content_laid (switch_leader kit) ag (suc i) (switch_max b.good) (omega arith),
          content_laid kit.leader ag (suc i) (leader_max b.good) (omega arith),
        )

    settled_laid : (i : ℕ) → i < length list
        → is_settled_on (lay_book r.counter) (lay_roles kit) (pad requests_max list) i
        ≡ is_settled_by kit r list (suc i)
    unfolding is_settled_on is_settled_at is_settled_by is_common_to actives lay_roles lay_table
    settled_laid i h =
        rw (
          get_or_pad requests_max list i,
          entry_at-suc list i,
          take_pad-le requests_max (suc i) list h,
          content_laid (switch_leader kit) up (suc i) (switch_max b.good) (omega arith),
          actives_laid kit.table,
        )
        (ap (λ (t : Bool). t && is_content (nth (r.counter (switch_leader kit) up) i) (Content.Update (get_or list i 0) (mark_of (take (suc i) list))))
        (actives_ext kit.table 0 _ _ (λ y below. rw (content_laid y ag (suc i) (omega (arith, size_max b.good)) (omega arith)))))

  -- the tests of a history's numbers and list, in the rules' order
  is_borne : Filing → Bool
  is_borne filing =
      all_below filing.k (λ i. is_committed kit r filing.list (suc i))
      && (all_below filing.j (λ i. is_settled_by kit r filing.list (suc i))
      && (all_of filing.list (λ request. holds request r.submitted) && distinct filing.list))

  borne_out_laid : (filing : Filing) → FilingBounds filing
      → is_borne_out (lay_book r.counter) (lay_roles kit) r.submitted (history_of (Some filing))
      ≡ is_borne filing
  unfolding is_borne_out is_listed is_borne
  borne_out_laid filing f =
      let n = length filing.list in
      let long : n ≤ length (pad requests_max filing.list) = omega (arith, length_pad requests_max filing.list f.list_max, f.list_max) in
      let committed = all_below_ext filing.k _ _ (λ i h. committed_laid filing.list i) in
      let settled = all_below_ext filing.j _ _ (λ i h. settled_laid filing.list i (omega (arith, f.j_k, f.k_list))) in
      rw (
        le-ltb requests_max n f.list_max,
        le-ltb (length (pad requests_max filing.list)) n long,
        le-ltb n filing.k f.k_list,
        le-ltb filing.k filing.j f.j_k,
      )
      (rw (committed, settled, take_pad requests_max filing.list))

  few_histories : length r.histories ≤ histories_max
  few_histories = omega (arith, b.histories_filed, b.filed_max_lem)

  filed_laid : (h p q : ℕ) (filing : Filing) → nth r.histories h ≡ Some filing
      → is_filed_at (lay_book r.counter) (lay_roles kit) r.submitted
      (lay_histories r.histories) (length r.histories) h p q
      ≡ (eqb p (suc filing.k) && (eqb q (suc filing.j) && is_borne filing))
  unfolding is_filed_at
  filed_laid h p q filing e =
      let below : h < length r.histories = nth-lt r.histories h e in
      let eight : h < histories_max = omega (arith, few_histories) in
      rw (lt-leb (length r.histories) h below, lt-leb histories_max h eight, history_laid r.histories h no_history eight, e)
      (rw (borne_out_laid filing (b.filings h filing e)))

  unfiled_laid : (h p q : ℕ) → nth r.histories h ≡ None
      → is_filed_at (lay_book r.counter) (lay_roles kit) r.submitted
      (lay_histories r.histories) (length r.histories) h p q
      ≡ false
  unfolding is_filed_at
  unfiled_laid h p q e = rw (le-leb (length r.histories) h (past_end r.histories h e))

  by_filing : (h p q : ℕ) (o : Option Filing) → nth r.histories h ≡ o
      → (is_content (content_at (r.counter (switch_leader kit) ag) p) (Content.History h)
      && (is_content (content_at (r.counter (switch_leader kit) up) q) (Content.History h)
      && is_filed_at (lay_book r.counter) (lay_roles kit) r.submitted
      (lay_histories r.histories) (length r.histories) h p q))
      ≡ is_valid_filing kit r p q h o
  unfolding is_valid is_borne
  by_filing h p q None e =
      let first = is_content (content_at (r.counter (switch_leader kit) ag) p) (Content.History h) in
      let second = is_content (content_at (r.counter (switch_leader kit) up) q) (Content.History h) in
      rw (unfiled_laid h p q e, and_none second) (and_none first)
  by_filing h p q (Some filing) e = rw (filed_laid h p q filing e)

  -- the rules' validity
  pub valid_laid : (h p q : ℕ)
      → is_valid_on (lay_book r.counter) (lay_roles kit) r.submitted
      (lay_histories r.histories) (length r.histories) h p q
      ≡ is_valid_filing kit r p q h (nth r.histories h)
  unfolding is_valid_on lay_roles
  valid_laid h p q =
      rw (content_laid (switch_leader kit) ag p (switch_max b.good) (omega arith), content_laid (switch_leader kit) up q (switch_max b.good) (omega arith))
      (by_filing h p q (nth r.histories h) refl)
