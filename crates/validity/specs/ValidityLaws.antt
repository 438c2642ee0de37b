-- Laws of Validity: a history's list entry by entry, as the code's chains go over it. Assumes nothing.
use Rattle.std.specs.Prelude.{◌≡◌, Bool, not, ◌&&◌, List, ℕ, suc, ◌≤◌, length, take, get_or}
use Rattle.std.specs.List.{list_all, enumerate_from}
use Rattle.std.proofs.Common.{ap, ◌∙◌, sym, arith, le-ltb}
use Rattle.std.proofs.Math.Seq.{take-length}
use Rattle.std.proofs.lemmas.List.{length-take-le, get_or-take}
use Rattle.terms.specs.Lists.{holds, distinct, all_below}
use Rattle.terms.specs.Limits.{requests_max}
use Rattle.terms.specs.declared.History.{History}
use Rattle.terms.specs.declared.Roles.{Roles}
use Rattle.ledger.specs.declared.Book.{Book}
use Rattle.validity.specs.Entries.{all_of_entries, distinct_entries, all_below-and, all_below_ext, taken_twice, all_entries}
use Rattle.validity.specs.Validity.{is_committed_at, is_committed_on, is_settled_on, is_listed, is_borne_out}

-- the test of one entry: it does not stand before, and is submitted
abbrev pub is_new_entry : List ℕ → List ℕ → ℕ → Bool
is_new_entry submitted list i = not (holds (get_or list i 0) (take i list)) && holds (get_or list i 0) submitted

-- the same of a place with its entry
abbrev pub is_new : List ℕ → List ℕ → ℕ × ℕ → Bool
is_new submitted list entry = not (holds entry.1 (take entry.0 list)) && holds entry.1 submitted

pub listed_entries : (submitted list : List ℕ) (n : ℕ) → n ≤ length list → is_listed submitted (take n list) ≡ all_below n (is_new_entry submitted list)
unfolding is_listed
listed_entries submitted list n h =
    ap (λ (b : Bool). b && distinct (take n list)) (all_of_entries list (λ request. holds request submitted) n h)
    ∙ ap (λ (b : Bool). all_below n (λ i. holds (get_or list i 0) submitted) && b) (distinct_entries list n h)
    ∙ all_below-and n (λ i. holds (get_or list i 0) submitted) (λ i. not (holds (get_or list i 0) (take i list)))

pub listed_chain : (submitted list : List ℕ) → list_all (is_new submitted list) (enumerate_from 0 list) ≡ is_listed submitted list
listed_chain submitted list =
    let n = length list in
    let chain = all_entries list (is_new submitted list) n (omega arith) in
    let entries = listed_entries submitted list n (omega arith) in
    let e : list_all (is_new submitted list) (enumerate_from 0 (take n list)) ≡ is_listed submitted (take n list) = chain ∙ sym entries in
    rw take-length at e

pub committed_chain : (book : Book) (roles : Roles) (list : List ℕ) (k : ℕ) → k ≤ length list
    → list_all (λ (entry : ℕ × ℕ). is_committed_at book roles (suc entry.0) entry.1) (enumerate_from 0 (take k list))
    ≡ all_below k (is_committed_on book roles list)
unfolding is_committed_on
committed_chain book roles list k h = all_entries list (λ entry. is_committed_at book roles (suc entry.0) entry.1) k h

-- what settles a request is the list up to it
pub settled_taken : (book : Book) (roles : Roles) (list : List ℕ) (j : ℕ) → j ≤ length list
    → all_below (length (take j list)) (is_settled_on book roles (take j list)) ≡ all_below j (is_settled_on book roles list)
unfolding is_settled_on
settled_taken book roles list j h =
    rw (length-take-le j list h)
    (all_below_ext j _ _ (λ i below. rw (get_or-take j list i 0 below, taken_twice (suc i) j list below)))

-- a history whose numbers are those of a filed one is borne out where the chains over its list say so
pub borne_out_within : (book : Book) (roles : Roles) (submitted : List ℕ) (history : History) → length history.list ≡ requests_max
    → history.count ≤ requests_max → history.k ≤ history.count → history.j ≤ history.k
    → is_borne_out book roles submitted history
    ≡ (list_all (λ (entry : ℕ × ℕ). is_committed_at book roles (suc entry.0) entry.1) (enumerate_from 0 (take history.k history.list))
    && (all_below (length (take history.j history.list)) (is_settled_on book roles (take history.j history.list))
    && list_all (is_new submitted (take history.count history.list)) (enumerate_from 0 (take history.count history.list))))
unfolding is_borne_out
borne_out_within book roles submitted history whole n k j =
    rw (
      le-ltb requests_max history.count n,
      le-ltb (length history.list) history.count (omega arith),
      le-ltb history.count history.k k,
      le-ltb history.k history.j j,
      committed_chain book roles history.list history.k (omega arith),
      settled_taken book roles history.list history.j (omega arith),
      listed_chain submitted (take history.count history.list),
    )
