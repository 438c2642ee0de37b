-- What a kit's settings say of its replicas: active, passive, faulty, leader, switch leader.
-- Laws: TableLaws. Assumes nothing.
use Rattle.std.specs.Prelude.{Bool, List, [], ◌∷◌, ℕ, suc, get_or, eqb}
use Rattle.terms.specs.Lists.{pick}
use Rattle.terms.specs.Kit.{Kit, marks_active, marks_faulty}

-- f+1 replicas are active, the others passive
unfoldable pub is_active : Kit → ℕ → Bool
is_active kit x = marks_active (get_or kit.table x 0)

-- faulty replicas are marked in the table
unfoldable pub is_marked_faulty : Kit → ℕ → Bool
is_marked_faulty kit x = marks_faulty (get_or kit.table x 0)

-- the active ones of a part of the table whose first replica is x
abbrev pub actives_from : List ℕ → ℕ → List ℕ
actives_from [] x = []
actives_from (n ∷ ns) x = pick (marks_active n) (x ∷ actives_from ns (suc x)) (actives_from ns (suc x))

-- the active replicas, lowest number first
unfoldable pub actives : Kit → List ℕ
actives kit = actives_from kit.table 0

abbrev pub first_but : ℕ → List ℕ → ℕ
first_but l [] = 0
first_but l (y ∷ ys) = pick (eqb y l) (first_but l ys) y

-- the active replica of lowest number apart from the leader
unfoldable pub switch_leader : Kit → ℕ
switch_leader kit = first_but kit.leader (actives kit)
