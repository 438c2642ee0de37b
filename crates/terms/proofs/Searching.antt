-- The search of a list from its newest end finds what the list holds. Assumes nothing.
use Rattle.std.proofs.Common.{◌≡◌, ℕ, ◌||◌, Bool, true, false, List, [], ◌∷◌, ◌==◌, reverse, refl, ap, ◌∙◌}
use Rattle.std.specs.List.{list_any}
use Rattle.std.proofs.lemmas.List.{reverse-append}
use Rattle.std.proofs.lemmas.List.Folds.{list_any-append}
use Rattle.terms.specs.Lists.{holds}

or_turned : (a b : Bool) → (b || (a || false)) ≡ (a || b)
or_turned true true = refl
or_turned true false = refl
or_turned false true = refl
or_turned false false = refl

pub holds_newest : (request : ℕ) (list : List ℕ) → list_any (λ noted. request == noted) (reverse list) ≡ holds request list
holds_newest request [] = refl
holds_newest request (x ∷ xs) =
    ap (list_any (λ noted. request == noted)) (reverse-append (x ∷ []) xs)
    ∙ (list_any-append (λ noted. request == noted) (reverse xs) (x ∷ []) ∙ rw (holds_newest request xs) (or_turned (request == x) (holds request xs)))
