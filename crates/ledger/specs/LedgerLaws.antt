-- Laws of the ledger: where the counters of a room are laid out, looking up, counting and issuing are the room's. Assumes nothing.
use Rattle.std.proofs.Common.{◌≡◌, refl, ap, ◌∙◌, false, List, [], ◌∷◌, ◌++◌, ℕ, zero, suc, ◌+◌, ◌*◌, ◌-◌, ◌≤◌, ◌<◌, length, set, ltb, eqb, le_of_suc-le-suc, arith, le-ltb, ltb-true, ltb-false, eqb-true, eq-eqb, ne_eqb}
use Rattle.std.proofs.lemmas.Bool.{lt-ltb, eqb-false}
use Rattle.std.specs.Prelude.{Option, None, Some}
use Rattle.std.proofs.Math.Nat.{suc_inj}
use Rattle.terms.specs.Limits.{replicas_max, names, places_max}
use Rattle.terms.specs.Lists.{pick, nth}
use Rattle.terms.specs.ListLaws.{split, length-snoc}
use Rattle.terms.specs.Tabulate.{get_or_tab, set_tab, tab_ext, tab_constant, get_or_grid, set_grid_of, grid_constant}
use Rattle.terms.specs.declared.Content.{Content}
use Rattle.rules.specs.Room.{put2}
use Rattle.rules.specs.Reading.{content_at}
use Rattle.ledger.specs.declared.Counter.{Counter}
use Rattle.ledger.specs.Ledger.{fresh_counter, fresh_book, place_index, counter_in, total_of, content_in, look_up, content_on, counter_after, issue_on}
use Rattle.ledger.specs.LedgerLayout.{lay_places, lay_counter, lay_book}

-- ---- one counter

place_there : (x m : ℕ) → x < replicas_max → m < names → place_index x m ≡ Some (names * x + m)
unfolding place_index
place_there x m hx hm = rw (lt-ltb x replicas_max hx, lt-ltb m names hm)

nth_past : (l : List Content) (i : ℕ) → length l ≤ i → nth l i ≡ None
nth_past [] i h = refl
nth_past (c ∷ l) zero h = absurd (omega arith)
nth_past (c ∷ l) (suc i) h = nth_past l i (le_of_suc-le-suc h)

some_value : (i : ℕ) → eqb (suc i) 0 ≡ false
some_value i = ne_eqb (suc i) 0 (λ e. omega arith)

-- what is issued stands after the others
nth_issued : (l : List Content) (c : Content) (i : ℕ) → nth (l ++ (c ∷ [])) i ≡ pick (eqb i (length l)) (Some c) (nth l i)
nth_issued [] c zero = refl
nth_issued [] c (suc i) = rw (some_value i)
nth_issued (d ∷ l) c zero = rw (ne_eqb 0 (suc (length l)) (λ e. omega arith))
nth_issued (d ∷ l) c (suc i) =
    nth_issued l c i
    ∙ split (eqb i (length l))
    (λ t. rw (t, eq-eqb (suc i) (suc (length l)) (ap suc (eqb-true i (length l) t))))
    (λ t. let ne = eqb-false i (length l) t in rw (t, ne_eqb (suc i) (suc (length l)) (λ e. ne (suc_inj e))))

places_issued : (l : List Content) (c : Content) → set (lay_places l) (length l) (Some c) ≡ lay_places (l ++ (c ∷ []))
unfolding lay_places
places_issued l c =
    set_tab places_max (λ i. nth l i) (length l) (Some c)
    ∙ tab_ext places_max _ _ (λ i h. rw (nth_issued l c i))

-- a value of a counter
content_laid_in : (l : List Content) (v : ℕ) → length l ≤ places_max → content_in (lay_counter l) v ≡ content_at l v
unfolding lay_places
content_laid_in l zero small = refl
content_laid_in l (suc i) small =
    split (ltb (length l) (suc i))
    (λ t. let past = nth_past l i (le_of_suc-le-suc (ltb-true (length l) (suc i) t)) in rw (some_value i, t, past))
    (λ t. let below : i < length l = ltb-false (length l) (suc i) t in
    let whole = le-ltb places_max (suc i) (omega arith) in
    let before : suc i - 1 ≡ i = omega arith in
    rw (some_value i, t, whole, before) (get_or_tab places_max (λ i. nth l i) i None (omega arith)))

counter_issued : (l : List Content) (c : Content) → length l < places_max → counter_after (lay_counter l) c ≡ lay_counter (l ++ (c ∷ []))
counter_issued l c room =
    let grown : length l + 1 ≡ length (l ++ (c ∷ [])) = omega (arith, length-snoc l c) in
    rw (lt-ltb (length l) places_max room, places_issued l c, grown)

-- ---- all counters

module _ (g : ℕ → ℕ → List Content) (x m : ℕ) (hx : x < replicas_max) (hm : m < names) where
  counter_at : counter_in (lay_book g) (names * x + m) ≡ lay_counter (g x m)
  unfolding lay_book
  counter_at = get_or_grid (λ y n. lay_counter (g y n)) x m fresh_counter hx hm

  pub total_laid : total_of (lay_book g) x m ≡ length (g x m)
  unfolding total_of
  total_laid = rw (place_there x m hx hm) (ap (λ (k : Counter). k.issued) counter_at)

  pub look_laid : (v : ℕ) → length (g x m) ≤ places_max → look_up (lay_book g) x m v ≡ content_at (g x m) v
  unfolding look_up
  look_laid v small = rw (place_there x m hx hm) (ap (λ (k : Counter). content_in k v) counter_at ∙ content_laid_in (g x m) v small)

  pub content_laid : (v : ℕ) → length (g x m) ≤ places_max → content_on (lay_book g) x m v ≡ content_at (g x m) v
  content_laid = look_laid

  pub issue_laid : (c : Content) → length (g x m) < places_max
      → issue_on (lay_book g) x m c ≡ lay_book (put2 g x m (g x m ++ (c ∷ [])))
  unfolding issue_on lay_book
  issue_laid c room =
      let l = g x m ++ (c ∷ []) in
      rw (place_there x m hx hm, counter_at, counter_issued (g x m) c room)
      (ap (λ (a : List Counter). record { counters = a }) (set_grid_of lay_counter g x m l hm))

-- ---- nothing issued yet

pub fresh_book_lem : lay_book (λ x m. []) ≡ fresh_book
unfolding lay_book lay_places
fresh_book_lem =
    let rows = grid_constant (lay_counter []) in
    rw rows (rw (tab_constant {A = Option Content} places_max None))
