-- The switch leader is sought from replica 0 on: those from x on decide. Assumes nothing.
use Rattle.std.proofs.Common.{◌≡◌, sym, ◌∙◌, true, false, ◌≢◌, List, ℕ, ◌+◌, ◌≤◌, ◌<◌, add-one, length, drop, get_or, drop_of_length-le, drop-cons, eq-eqb, ne_eqb}
use Rattle.terms.specs.Kit.{marks_active}
use Rattle.rules.specs.Table.{actives_from, first_but}

pub record Seeking (table : List ℕ) (leader x : ℕ) : Type 0 where
  pub rest : first_but leader (actives_from table 0) ≡ first_but leader (actives_from (drop x table) x)

module _ {table : List ℕ} {leader x : ℕ} (s : Seeking table leader x) (below : x < length table) where
  pub found : marks_active (get_or table x 0) ≡ true → (x ≢ leader) → x ≡ first_but leader (actives_from table 0)
  found e ne = sym (s.rest ∙ rw (drop-cons table x 0 below, e, ne_eqb x leader ne))

  pub is_leader : marks_active (get_or table x 0) ≡ true → x ≡ leader → Seeking table leader (x + 1)
  is_leader e q = record { rest = s.rest ∙ rw (drop-cons table x 0 below, e, eq-eqb x leader q, add-one x) }

  pub is_passive : marks_active (get_or table x 0) ≡ false → Seeking table leader (x + 1)
  is_passive e = record { rest = s.rest ∙ rw (drop-cons table x 0 below, e, add-one x) }

pub none_found : {table : List ℕ} {leader x : ℕ} → Seeking table leader x → length table ≤ x → 0 ≡ first_but leader (actives_from table 0)
none_found {table} s h = sym (s.rest ∙ rw (drop_of_length-le table h))
