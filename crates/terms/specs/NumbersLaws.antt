-- Laws of Numbers. Assumes nothing.
use Rattle.std.specs.Prelude.{Option, Some, None, Ok, Err, ◌≡◌, false, eqb, slice_index, refl, ok_or}
use Rattle.terms.specs.ListLaws.{no_way}
use Rattle.terms.specs.Numbers.{content_numbers, content_of, kit_refusal_number}
use Rattle.terms.specs.declared.Content.{Content}
use Rattle.terms.specs.declared.KitRefusal.{KitRefusal}
use Rattle.terms.specs.declared.Content.TheVariants.{Prepare, Commit, Update, History, Switch}

-- a content's numbers are that content's again
pub content_back : (c : Content) → content_of (slice_index (content_numbers c) 0) (slice_index (content_numbers c) 1) (slice_index (content_numbers c) 2) ≡ Some c
unfolding content_of
content_back (Prepare a) = refl
content_back (Commit a b) = refl
content_back (Update a b) = refl
content_back (History a) = refl
content_back (Switch a) = refl

-- ---- a result that is made of an option

pub of_ok : {A E : Type 0} (o : Option A) (e : E) (a : A) → ok_or o e ≡ Ok a → o ≡ Some a
of_ok None e a is = no_way (cc)
of_ok (Some b) e a is = cc

pub of_err : {A E : Type 0} (o : Option A) (e f : E) → ok_or o e ≡ Err f → o ≡ None
of_err None e f is = refl
of_err (Some b) e f is = no_way (cc)

-- a refused kit is not given 0
pub refused_number : (refusal : KitRefusal) → eqb (kit_refusal_number refusal) 0 ≡ false
refused_number KitRefusal.Cut = refl
refused_number KitRefusal.Misspelled = refl
refused_number KitRefusal.WrongSettings = refl
refused_number KitRefusal.WrongEvent = refl
refused_number KitRefusal.Excess = refl
refused_number KitRefusal.NoRoom = refl
refused_number KitRefusal.TooLong = refl
