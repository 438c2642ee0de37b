-- The mark of a list as a fold, and the invariant of a loop by what is still to come, with one turn of it. Assumes nothing.
use Rattle.std.specs.List.{fold}
use Rattle.std.proofs.Common.{◌≡◌, refl, ◌∙◌, true, List, [], ◌∷◌, ℕ, ◌+◌, ◌<◌, add-one, length, drop, get_or, drop-cons, leb}
use Rattle.terms.specs.Limits.{requests_max}
use Rattle.terms.specs.Lists.{holds}
use Rattle.terms.specs.ListLaws.{split}
use Rattle.terms.specs.Mark.{next_mark, mark_from, mark_of}
use Rattle.rules.specs.Switching.{missing}
use Rattle.terms.specs.declared.History.{History}
use Rattle.carry_out.specs.Enter.{store_all, add_missing}

-- ---- the mark of a list

marked_from : (mark : ℕ) (list : List ℕ) → fold next_mark mark list ≡ mark_from mark list
marked_from mark [] = refl
marked_from mark (request ∷ later) = marked_from (next_mark mark request) later

pub marked : (list : List ℕ) → fold next_mark 0 list ≡ mark_of list
marked list = marked_from 0 list

-- ---- a history to which the missing ones of a list go

-- a full one stays as it is
full : (h : History) (l : List ℕ) → leb requests_max h.count ≡ true → store_all h l ≡ h
full h [] e = refl
full h (q ∷ qs) e = rw e

pub record Appending (noted list : List ℕ) (start h : History) (i : ℕ) : Type 0 where
  pub rest : store_all start (missing noted list) ≡ store_all h (missing noted (drop i list))

-- what a turn looks at
looks_at : (list : List ℕ) (i : ℕ) → i < length list → drop i list ≡ get_or list i 0 ∷ drop (i + 1) list
looks_at list i below = rw (drop-cons list i 0 below, add-one i)

module _ {noted list : List ℕ} {start h : History} {i : ℕ} (s : Appending noted list start h i) where
  pub next_appended : i < length list → Appending noted list start (add_missing noted (get_or list i 0) h) (i + 1)
  unfolding add_missing
  next_appended below =
      record {
        rest =
            s.rest
            ∙ rw (looks_at list i below)
            (split (holds (get_or list i 0) noted) (λ e. rw e)
            (λ e. split (leb requests_max h.count) (λ f. rw (e, f, full h (missing noted (drop (i + 1) list)) f)) (λ f. rw (e, f))));
      }
