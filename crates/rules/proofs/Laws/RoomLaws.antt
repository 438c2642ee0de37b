-- Laws of Room: what is read back after one part of a room or of a record is made anew. Assumes nothing.
use Rattle.std.specs.Prelude.{◌≡◌, false, ◌&&◌, ◌≢◌, [], ◌∷◌, ◌++◌, ℕ, suc, ◌≤◌, eqb}
use Rattle.std.proofs.Common.{sym, ◌∙◌, arith, eqb-true, eq-eqb, ne_eqb}
use Rattle.std.proofs.Math.Path.{fun_ext}
use Rattle.std.proofs.Math.Bool.{and-false}
use Rattle.terms.specs.ListLaws.{split, eqb_same, and_l, and_r, pick_elim}
use Rattle.terms.specs.declared.Content.{Content}
use Rattle.rules.specs.Room.{Room, Replica, put1, put2, with_replica, issue}

-- ---- one value of a function anew

module _ {A : Type 0} (g : ℕ → A) where
  pub put_back : (x : ℕ) → put1 g x (g x) ≡ g
  put_back x = fun_ext (λ y. split (eqb y x) (λ e. rw (e, eqb-true y x e)) (λ e. rw e))

  pub put_again : (x : ℕ) (a b : A) → put1 (put1 g x a) x b ≡ put1 g x b
  put_again x a b = fun_ext (λ y. split (eqb y x) (λ e. rw e) (λ e. rw e))

  pub put_apart : (x y : ℕ) (a b : A) → x ≢ y → put1 (put1 g x a) y b ≡ put1 (put1 g y b) x a
  put_apart x y a b d =
      fun_ext (λ z. split (eqb z y) (λ e. let n : eqb z x ≡ false = ne_eqb z x (λ q. d (sym q ∙ eqb-true z y e)) in rw (e, n)) (λ e. rw e))

-- ---- records and counters of a room

pub replica_same : (r : Room) (x : ℕ) (p : Replica) → (with_replica r x p).replica x ≡ p
unfolding with_replica
replica_same r x p = rw (eqb_same x)

pub replica_other : (r : Room) (x : ℕ) (p : Replica) (y : ℕ) → y ≢ x → (with_replica r x p).replica y ≡ r.replica y
unfolding with_replica
replica_other r x p y d = rw (ne_eqb y x d)

pub counter_same : (r : Room) (x name : ℕ) (c : Content) → (issue r x name c).counter x name ≡ r.counter x name ++ (c ∷ [])
unfolding issue
counter_same r x name c = rw (eqb_same x, eqb_same name)

pub counter_other : (r : Room) (x name : ℕ) (c : Content) (y n : ℕ) → y ≢ x → (issue r x name c).counter y n ≡ r.counter y n
unfolding issue
counter_other r x name c y n d = rw (ne_eqb y x d, and-false (eqb n name))

-- ---- accepted values: v becomes the last of sender s and name n

pub accepted_at : (a : ℕ → ℕ → ℕ) (s n v y : ℕ) → y ≡ s → put2 a s n v y n ≡ v
accepted_at a s n v y e = rw (eq-eqb y s e, eqb_same n)

pub accepted_other : (a : ℕ → ℕ → ℕ) (s n v y m : ℕ) → y ≢ s → put2 a s n v y m ≡ a y m
accepted_other a s n v y m d = rw (ne_eqb y s d, and-false (eqb m n))

-- none falls where the new value is the old one plus 1
pub accepted_rises : (a : ℕ → ℕ → ℕ) (s n v y m : ℕ) → v ≡ suc (a s n) → a y m ≤ put2 a s n v y m
accepted_rises a s n v y m e =
    pick_elim (λ z. a y m ≤ z) (eqb m n && eqb y s)
    (λ t. rw (eqb-true m n (and_l (eqb m n) (eqb y s) t), eqb-true y s (and_r (eqb m n) (eqb y s) t)) (omega arith)) (λ t. omega arith)

-- and none rises by more than 1
pub accepted_by_one : (a : ℕ → ℕ → ℕ) (s n v y m : ℕ) → v ≡ suc (a s n) → put2 a s n v y m ≤ suc (a y m)
accepted_by_one a s n v y m e =
    pick_elim (λ z. z ≤ suc (a y m)) (eqb m n && eqb y s)
    (λ t. rw (eqb-true m n (and_l (eqb m n) (eqb y s) t), eqb-true y s (and_r (eqb m n) (eqb y s) t)) (omega arith)) (λ t. omega arith)
