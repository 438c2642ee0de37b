-- Laws of chains over the table, numbered by replica: a test that all that are active pass. Assumes nothing.
use Rattle.std.specs.Prelude.{◌≡◌, refl, Bool, not, ◌||◌, List, [], ◌∷◌, ℕ, suc}
use Rattle.std.specs.List.{list_all, enumerate_from}
use Rattle.std.proofs.Common.{add-one}
use Rattle.terms.specs.Kit.{marks_active}
use Rattle.terms.specs.Lists.{all_of}
use Rattle.terms.specs.ListLaws.{split}
use Rattle.rules.specs.Table.{actives_from}

-- the chain: each entry, if it marks an active replica, passes
unfoldable pub asked_of : List ℕ → ℕ → (ℕ → Bool) → Bool
asked_of table x t = list_all (λ (entry : ℕ × ℕ). not (marks_active entry.1) || t entry.0) (enumerate_from x table)

pub all_actives : (table : List ℕ) (x : ℕ) (t : ℕ → Bool) → asked_of table x t ≡ all_of (actives_from table x) t
unfolding asked_of
all_actives [] x t = refl
all_actives (n ∷ ns) x t = split (marks_active n) (λ e. rw (e, add-one x, all_actives ns (suc x) t)) (λ e. rw (e, add-one x, all_actives ns (suc x) t))
