-- A function of numbers laid out as a list, and a function of a replica and a counter's name as a list of 21 rows, with the laws of both.
-- Assumes nothing.
use Rattle.std.specs.Prelude.{◌≡◌, ℕ, zero, suc, ◌+◌, ◌*◌, ◌/◌, ◌%◌, ◌<◌, Bool, ◌&&◌, ◌≢◌, List, [], ◌∷◌, length, get_or, set, replicate, ◌==◌}
use Rattle.std.proofs.Common.{sym, ◌∙◌, le_of_suc-le-suc, length-set, ext_get_or, get_or-set_same, get_or-set_other, arith, eqb-true, eq-eqb, ne_eqb}
use Rattle.std.proofs.Math.Path.{refl, ap, fun_ext}
use borrow.Author.Tests.{eqb-false}
use Rattle.terms.specs.Limits.{replicas_max, names, counters}
use Rattle.terms.specs.Lists.{pick}
use Rattle.terms.specs.ListLaws.{split}

module _ {ℓ} {A : Type ℓ} where
  -- f 0, f 1, .. f (n - 1)
  unfoldable pub tab : ℕ → (ℕ → A) → List A
  tab zero f = []
  tab (suc n) f = f 0 ∷ tab n (λ i. f (suc i))

  pub length_tab : (n : ℕ) (f : ℕ → A) → length (tab n f) ≡ n
  unfolding tab
  length_tab zero f = refl
  length_tab (suc n) f = ap suc (length_tab n (λ i. f (suc i)))

  pub get_or_tab : (n : ℕ) (f : ℕ → A) (i : ℕ) (d : A) → i < n → get_or (tab n f) i d ≡ f i
  unfolding tab
  get_or_tab zero f i d h = absurd (omega arith)
  get_or_tab (suc n) f zero d h = refl
  get_or_tab (suc n) f (suc i) d h = get_or_tab n (λ j. f (suc j)) i d (le_of_suc-le-suc h)

  pub tab_ext : (n : ℕ) (f g : ℕ → A) → ((i : ℕ) → i < n → f i ≡ g i) → tab n f ≡ tab n g
  unfolding tab
  tab_ext zero f g e = refl
  tab_ext (suc n) f g e = cc (e 0 (omega arith), tab_ext n (λ i. f (suc i)) (λ i. g (suc i)) (λ i h. e (suc i) (omega arith)))

  -- one element anew is one value of the function anew
  pub set_tab : (n : ℕ) (f : ℕ → A) (i : ℕ) (v : A) → set (tab n f) i v ≡ tab n (λ j. pick (j == i) v (f j))
  set_tab n f i v =
      let g : ℕ → A = λ j. pick (j == i) v (f j) in
      ext_get_or v (set (tab n f) i v) (tab n g) (rw (length-set (tab n f) i v, length_tab n f, length_tab n g))
      (λ j h.
      let below : j < n = rw (length-set (tab n f) i v, length_tab n f) at h in
      split (j == i)
      (λ t. let e : i ≡ j = sym (eqb-true j i t) in
      rw (get_or_tab n g j v below, t, e) (get_or-set_same (tab n f) j v v (rw (length_tab n f) below)))
      (λ t. rw (get_or_tab n g j v below, t) (get_or-set_other (tab n f) i j v v (eqb-false j i t) ∙ get_or_tab n f j v below)))

  pub tab_constant : (n : ℕ) (a : A) → tab n (λ i. a) ≡ replicate n a
  unfolding tab
  tab_constant zero a = refl
  tab_constant (suc n) a = ap (λ (l : List A). a ∷ l) (tab_constant n a)

  -- replica x's counter of name m stands at names * x + m
  unfoldable pub grid : (ℕ → ℕ → A) → List A
  grid g = tab counters (λ i. g (i / names) (i % names))

  pub get_or_grid : (g : ℕ → ℕ → A) (x m : ℕ) (d : A) → x < replicas_max → m < names → get_or (grid g) (names * x + m) d ≡ g x m
  unfolding grid
  get_or_grid g x m d hx hm =
      let q : (names * x + m) / names ≡ x = omega arith in
      let r : (names * x + m) % names ≡ m = omega arith in
      get_or_tab counters (λ i. g (i / names) (i % names)) (names * x + m) d (omega arith) ∙ rw (q, r)

  pub set_grid : (g : ℕ → ℕ → A) (x m : ℕ) (v : A) → m < names → set (grid g) (names * x + m) v ≡ grid (λ y n. pick (n == m && y == x) v (g y n))
  unfolding grid
  set_grid g x m v hm =
      set_tab counters (λ i. g (i / names) (i % names)) (names * x + m) v
      ∙ tab_ext counters _ _ (λ i h. ap (λ (t : Bool). pick t v (g (i / names) (i % names))) (place_is i))
    where
      place_is : (i : ℕ) → (i == names * x + m) ≡ (i % names == m && i / names == x)
      place_is i =
          split (i == names * x + m)
          (λ t. let e : i ≡ names * x + m = eqb-true i (names * x + m) t in
          let q : i / names ≡ x = omega arith in
          let r : i % names ≡ m = omega arith in
          rw (t, eq-eqb (i % names) m r, eq-eqb (i / names) x q))
          (λ t. let e : i ≢ names * x + m = eqb-false i (names * x + m) t in
          split (i % names == m)
          (λ u. let r : i % names ≡ m = eqb-true (i % names) m u in
          rw (t, u, ne_eqb (i / names) x (λ q. e (omega arith))))
          (λ u. rw (t, u)))

  pub grid_constant : (a : A) → grid (λ x m. a) ≡ replicate counters a
  unfolding grid
  grid_constant a = tab_constant counters a

-- the same where every row is made of a value by h
pub set_grid_of {ℓ ℓ'} : {A : Type ℓ} {B : Type ℓ'} (h : A → B) (g : ℕ → ℕ → A) (x m : ℕ) (v : A) → m < names
    → set (grid (λ y n. h (g y n))) (names * x + m) (h v) ≡ grid (λ y n. h (pick (n == m && y == x) v (g y n)))
set_grid_of h g x m v hm =
    set_grid (λ y n. h (g y n)) x m (h v) hm
    ∙ ap grid (fun_ext (λ y. fun_ext (λ n. split (n == m && y == x) (λ t. rw t) (λ t. rw t))))
