-- Laws of contents: where `==` compares two, their numbers are compared. Assumes nothing.
use Rattle.std.specs.Prelude.{◌≡◌, Option, None, Some, refl, Bool, ◌&&◌, true, eqb}
use Rattle.std.specs.Option.{option_eq}
use Rattle.terms.specs.contracts.ContentPartialEq.TheImpl as Derived
use Rattle.terms.specs.declared.Content.{Content}
use Rattle.terms.specs.declared.Content.TheVariants.{Prepare, Commit, Update, History, Switch}
use Rattle.terms.specs.ListLaws.{split}
use Rattle.rules.specs.Reading.{same_content, is_content}

and_true : (t : Bool) → t ≡ (t && true)
and_true t = split t (λ e. rw e) (λ e. rw e)

pub content_eq : (c d : Content) → Derived.eq-value.it c d ≡ same_content c d
unfolding same_content
content_eq (Prepare a) (Prepare x) = and_true (eqb a x)
content_eq (Prepare a) (Commit x y) = refl
content_eq (Prepare a) (Update x y) = refl
content_eq (Prepare a) (History x) = refl
content_eq (Prepare a) (Switch x) = refl
content_eq (Commit a b) (Prepare x) = refl
content_eq (Commit a b) (Commit x y) = refl
content_eq (Commit a b) (Update x y) = refl
content_eq (Commit a b) (History x) = refl
content_eq (Commit a b) (Switch x) = refl
content_eq (Update a b) (Prepare x) = refl
content_eq (Update a b) (Commit x y) = refl
content_eq (Update a b) (Update x y) = refl
content_eq (Update a b) (History x) = refl
content_eq (Update a b) (Switch x) = refl
content_eq (History a) (Prepare x) = refl
content_eq (History a) (Commit x y) = refl
content_eq (History a) (Update x y) = refl
content_eq (History a) (History x) = and_true (eqb a x)
content_eq (History a) (Switch x) = refl
content_eq (Switch a) (Prepare x) = refl
content_eq (Switch a) (Commit x y) = refl
content_eq (Switch a) (Update x y) = refl
content_eq (Switch a) (History x) = refl
content_eq (Switch a) (Switch x) = and_true (eqb a x)

-- and so with a content that may not be there
pub found_eq : (found : Option Content) (c : Content) → option_eq Derived.eq-value.it found (Some c) ≡ is_content found c
found_eq None c = refl
found_eq (Some d) c = content_eq d c
