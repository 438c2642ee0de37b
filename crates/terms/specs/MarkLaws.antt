-- Laws of Mark: one request more. Assumes nothing.
use Rattle.std.specs.Prelude.{◌≡◌, ℕ, suc, ◌<◌, List, [], ◌∷◌, ◌++◌, length, take, slice_index, refl}
use Rattle.std.proofs.Common.{ap, ◌∙◌, take-suc}
use Rattle.terms.specs.Mark.{next_mark, mark_from, mark_of}

mark_from-snoc : (m : ℕ) (l : List ℕ) (a : ℕ) → mark_from m (l ++ (a ∷ [])) ≡ next_mark (mark_from m l) a
mark_from-snoc m [] a = refl
mark_from-snoc m (x ∷ xs) a = mark_from-snoc (next_mark m x) xs a

pub mark_next : (l : List ℕ) (i : ℕ) → i < length l → mark_of (take (suc i) l) ≡ next_mark (mark_of (take i l)) (slice_index l i)
mark_next l i h = ap mark_of (take-suc l i 0 h) ∙ mark_from-snoc 0 (take i l) (slice_index l i)
