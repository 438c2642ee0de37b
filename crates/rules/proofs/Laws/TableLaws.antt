-- Laws of Table: what a good kit's table says of the leader, the switch leader and the active replicas. Assumes nothing.
use Rattle.std.specs.Prelude.{◌≡◌, refl, Bool, true, false, ◌≢◌, List, [], ◌∷◌, ℕ, zero, suc, ◌+◌, ◌≤◌, ◌<◌, length, get_or, eqb}
use Rattle.std.proofs.Common.{subst, ◌∙◌, arith, eqb-true, ne_eqb}
use Rattle.std.proofs.Math.Bool.{or-true}
use Rattle.std.proofs.lemmas.Bool.{eqb-false}
use Rattle.terms.specs.Lists.{all_of, count_of, holds}
use Rattle.terms.specs.ListLaws.{split, pick_elim, no_way, eqb_same}
use Rattle.terms.specs.Kit.{Kit, GoodKit, marks_active, marks_faulty}
use Rattle.rules.specs.Table.{is_active, is_marked_faulty, actives_from, actives, first_but, switch_leader}

-- the roles of a kit's replicas
pub record Roles (kit : Kit) : Type 0 where
  pub leader_active : is_active kit kit.leader ≡ true
  pub switch_active : is_active kit (switch_leader kit) ≡ true
  pub switch_not_leader : switch_leader kit ≢ kit.leader
  pub active_listed : (y : ℕ) → is_active kit y ≡ true → holds y (actives kit) ≡ true
  pub some_correct : (a : ℕ) × (is_active kit a ≡ true) × (is_marked_faulty kit a ≡ false)

-- with fewer faulty than active ones, an active one is correct
correct_active : (t : List ℕ) → count_of marks_faulty t < count_of marks_active t
    → (i : ℕ) × (marks_active (get_or t i 0) ≡ true) × (marks_faulty (get_or t i 0) ≡ false)
correct_active [] h = absurd (omega arith)
correct_active (x ∷ xs) h =
    split (marks_active x)
    (λ a. split (marks_faulty x)
    (λ b. let h₁ : suc (suc (count_of marks_faulty xs)) ≤ suc (count_of marks_active xs) = rw (a, b) at h in
    let n = correct_active xs (omega arith) in
    (suc n.0, n.1, n.2))
    (λ b. (0, a, b)))
    (λ a. let n = correct_active xs (less a) in (suc n.0, n.1, n.2))
  where
    grow : count_of marks_faulty xs ≤ count_of marks_faulty (x ∷ xs)
    grow = pick_elim (λ n. count_of marks_faulty xs ≤ n) (marks_faulty x) (λ t. omega arith) (λ t. omega arith)

    less : marks_active x ≡ false → count_of marks_faulty xs < count_of marks_active xs
    less a = let h₁ : count_of marks_faulty (x ∷ xs) < count_of marks_active xs = rw a at h in omega (arith, grow)

-- those that the table marks active are listed
marked_listed : (t : List ℕ) (i y : ℕ) → marks_active (get_or t y 0) ≡ true → holds (i + y) (actives_from t i) ≡ true
marked_listed [] i y e = no_way (cc)
marked_listed (x ∷ xs) i zero e = let z : i + 0 ≡ i = omega arith in rw (e, z, eqb_same i)
marked_listed (x ∷ xs) i (suc y) e =
    let z : suc i + y ≡ i + suc y = omega arith in
    let h = subst (λ (n : ℕ). holds n (actives_from xs (suc i)) ≡ true) z (marked_listed xs (suc i) y e) in
    pick_elim (λ l. holds (i + suc y) l ≡ true) (marks_active x) (λ t. rw h (or-true (eqb (i + suc y) i))) (λ t. h)

-- and no others
listed_marked : (t : List ℕ) (i z : ℕ) → holds z (actives_from t i) ≡ true → (y : ℕ) × (z ≡ i + y) × (marks_active (get_or t y 0) ≡ true)
listed_marked [] i z e = no_way (cc)
listed_marked (x ∷ xs) i z e =
    let later : holds z (actives_from xs (suc i)) ≡ true → (y : ℕ) × (z ≡ i + y) × (marks_active (get_or (x ∷ xs) y 0) ≡ true) =
    λ h. let n = listed_marked xs (suc i) z h in (suc n.0, omega (arith, n.1), n.2) in
    split (marks_active x)
    (λ a. split (eqb z i) (λ t. let q = eqb-true z i t in (0, omega arith, a)) (λ t. later (rw (a, t) at e)))
    (λ a. later (rw a at e))

-- where a list has another than l, the first other one is in it and is not l
first_but_other : (l : ℕ) (ys : List ℕ) (y : ℕ) → holds y ys ≡ true → y ≢ l → (holds (first_but l ys) ys ≡ true) × (first_but l ys ≢ l)
first_but_other l [] y e d = no_way (cc)
first_but_other l (x ∷ xs) y e d =
    pick_elim (λ n. (holds n (x ∷ xs) ≡ true) × (n ≢ l)) (eqb x l)
    (λ t. let n : y ≢ x = λ z. d (z ∙ eqb-true x l t) in
    let m : holds y xs ≡ true = rw (ne_eqb y x n) at e in
    let h = first_but_other l xs y m d in
    (rw h.0 (or-true (eqb (first_but l xs) x)), h.1))
    (λ t. (rw (eqb_same x), eqb-false x l t))

one_marked : (t : List ℕ) → 1 ≤ count_of marks_active t → (y : ℕ) × (marks_active (get_or t y 0) ≡ true)
one_marked [] h = absurd (omega arith)
one_marked (x ∷ xs) h = split (marks_active x) (λ a. (0, a)) (λ a. let n = one_marked xs (rw a at h) in (suc n.0, n.1))

-- of two or more marked active one is not l
other_marked : (t : List ℕ) (l : ℕ) → 2 ≤ count_of marks_active t → (y : ℕ) × (marks_active (get_or t y 0) ≡ true) × (y ≢ l)
other_marked [] l h = absurd (omega arith)
other_marked (x ∷ xs) zero h =
    let h₁ : 1 ≤ count_of marks_active xs = pick_elim (λ n. 2 ≤ n → 1 ≤ count_of marks_active xs) (marks_active x) (λ t l. omega arith)
    (λ t l. omega arith) h in
    let n = one_marked xs h₁ in
    (suc n.0, n.1, omega arith)
other_marked (x ∷ xs) (suc l) h =
    split (marks_active x) (λ a. (0, a, omega arith))
    (λ a. let n = other_marked xs l (rw a at h) in let d = n.2 in (suc n.0, n.1, omega arith))

pub roles : (kit : Kit) → GoodKit kit → Roles kit
unfolding is_active is_marked_faulty actives switch_leader
roles kit good =
    record {
      leader_active = good.leader_active;
      switch_active =
          let n = listed_marked kit.table 0 (switch_leader kit) first.0 in
          let z : switch_leader kit ≡ n.0 = omega (arith, n.1) in
          rw z n.2;
      switch_not_leader = first.1;
      active_listed = λ y e. listed y e;
      some_correct = correct_active kit.table (omega (arith, good.active_count, good.faulty_count));
    }
  where
    listed : (y : ℕ) → marks_active (get_or kit.table y 0) ≡ true → holds y (actives_from kit.table 0) ≡ true
    listed y e = let z : 0 + y ≡ y = omega arith in rw z at (marked_listed kit.table 0 y e)

    other : (y : ℕ) × (marks_active (get_or kit.table y 0) ≡ true) × (y ≢ kit.leader)
    other = other_marked kit.table kit.leader (omega (arith, good.active_count, good.f_low))

    first : (holds (first_but kit.leader (actives_from kit.table 0)) (actives_from kit.table 0) ≡ true)
        × (first_but kit.leader (actives_from kit.table 0) ≢ kit.leader)
    first = first_but_other kit.leader (actives_from kit.table 0) other.0 (listed other.0 other.1) other.2

-- only what is said of the table's replicas counts
pub actives_ext : (l : List ℕ) (x : ℕ) (s t : ℕ → Bool) → ((y : ℕ) → y < x + length l → s y ≡ t y)
    → all_of (actives_from l x) s ≡ all_of (actives_from l x) t
actives_ext [] x s t e = refl
actives_ext (k ∷ l) x s t e =
    let rest = actives_ext l (suc x) s t (λ y h. e y (omega arith)) in
    split (marks_active k) (λ a. rw (a, rest, e x (omega arith))) (λ a. rw (a, rest))
