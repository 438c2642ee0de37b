-- The late tick, in the paper's words: the earliest of the submissions that are unanswered and whose wait is at least the patience, plus the
-- patience; and none only where no submission is so. Assumes nothing.
use Rattle.std.specs.Prelude.{◌≡◌, refl, Bool, true, false, not, ◌&&◌, List, [], ◌∷◌, ℕ, zero, suc, ◌+◌, ◌-◌, ◌≤◌, leb, None, Some}
use Rattle.std.proofs.Common.{arith, leb-true, le-leb}
use Rattle.terms.specs.Lists.{nth}
use Rattle.terms.specs.ListLaws.{split, and_l, and_r, no_way, not_was_true}
use Rattle.terms.specs.Kit.{Kit}
use Rattle.rules.specs.Room.{Room}
use Rattle.rules.specs.Reading.{answered}
use Rattle.rules.specs.Clock.{overdue}
use Rattle.rules.proofs.Laws.Time.{Timed}

-- submission i, of this request at this tick, is unanswered and has waited at least the patience
pub record Waits (kit : Kit) (r : Room) (requests ticks : List ℕ) (i request tick : ℕ) : Type 0 where
  pub request_at_lem : nth requests i ≡ Some request
  pub tick_at : nth ticks i ≡ Some tick
  pub unanswered : answered kit r request ≡ false
  pub long : kit.patience ≤ r.clock - tick

-- the first that waits; no earlier one does
pub record First (kit : Kit) (r : Room) (requests ticks : List ℕ) (late : ℕ) : Type 0 where
  pub i : ℕ
  pub request : ℕ
  pub tick : ℕ
  pub waits : Waits kit r requests ticks i request tick
  pub is : late ≡ tick + kit.patience
  pub first : (j q t : ℕ) → Waits kit r requests ticks j q t → i ≤ j

module _ (kit : Kit) (r : Room) where
  -- the test that `overdue` makes of one submission
  abbrev is_late : ℕ → ℕ → Bool
  is_late q t = not (answered kit r q) && leb kit.patience (r.clock - t)

  first_waits : (q : ℕ) (qs : List ℕ) (t : ℕ) (ts : List ℕ) → is_late q t ≡ true → Waits kit r (q ∷ qs) (t ∷ ts) 0 q t
  first_waits q qs t ts e =
      record {
        request_at_lem = refl;
        tick_at = refl;
        unanswered = not_was_true (answered kit r q) (and_l (not (answered kit r q)) _ e);
        long = leb-true kit.patience (r.clock - t) (and_r (not (answered kit r q)) _ e);
      }

  waits_first : (q : ℕ) (qs : List ℕ) (t : ℕ) (ts : List ℕ) (p u : ℕ) → Waits kit r (q ∷ qs) (t ∷ ts) 0 p u → is_late q t ≡ true
  waits_first q qs t ts p u w =
      let a : q ≡ p = cc w.request_at_lem in
      let b : t ≡ u = cc w.tick_at in
      rw (a, b, w.unanswered) (le-leb kit.patience (r.clock - u) w.long)

  waits_later
      : (q : ℕ) (qs : List ℕ) (t : ℕ) (ts : List ℕ) (i p u : ℕ) → Waits kit r qs ts i p u → Waits kit r (q ∷ qs) (t ∷ ts) (suc i) p u
  waits_later q qs t ts i p u w = record { request_at_lem = w.request_at_lem; tick_at = w.tick_at; unanswered = w.unanswered; long = w.long }

  -- where the first does not wait, one that waits stands later
  waits_not_first
      : (q : ℕ) (qs : List ℕ) (t : ℕ) (ts : List ℕ) (i p u : ℕ) → is_late q t ≡ false → Waits kit r (q ∷ qs) (t ∷ ts) i p u
      → (k : ℕ) × (i ≡ suc k) × Waits kit r qs ts k p u
  waits_not_first q qs t ts zero p u e w = no_way (cc (e, waits_first q qs t ts p u w))
  waits_not_first q qs t ts (suc k) p u e w =
      (k, refl, record { request_at_lem = w.request_at_lem; tick_at = w.tick_at; unanswered = w.unanswered; long = w.long })

  pub overdue_first : (qs ts : List ℕ) (late : ℕ) → overdue kit r qs ts ≡ Some late → First kit r qs ts late
  overdue_first [] ts late e = no_way (cc)
  overdue_first (q ∷ qs) [] late e = no_way (cc)
  overdue_first (q ∷ qs) (t ∷ ts) late e =
      split (is_late q t)
      (λ y. let z : Some (t + kit.patience) ≡ Some late = rw y at e in
      record { i = 0; request = q; tick = t; waits = first_waits q qs t ts y; is = cc; first = λ j p u w. omega arith })
      (λ n. let h = overdue_first qs ts late (rw n at e) in
      record {
        i = suc h.i;
        request = h.request;
        tick = h.tick;
        waits = waits_later q qs t ts h.i h.request h.tick h.waits;
        is = h.is;
        first = λ j p u w. let k = waits_not_first q qs t ts j p u n w in omega (arith, k.1, h.first k.0 p u k.2);
      })

  pub overdue_none : (qs ts : List ℕ) → overdue kit r qs ts ≡ None → (i q t : ℕ) → Waits kit r qs ts i q t → ⊥
  overdue_none [] ts e i q t w = no_way (cc w.request_at_lem)
  overdue_none (x ∷ qs) [] e i q t w = no_way (cc w.tick_at)
  overdue_none (x ∷ qs) (u ∷ ts) e i q t w =
      split (is_late x u) (λ y. let z : Some (u + kit.patience) ≡ None = rw y at e in no_way (cc z))
      (λ n. let k = waits_not_first x qs u ts i q t n w in
      overdue_none qs ts (rw n at e) k.0 q t k.2)

-- the earliest: no submission that waits has an earlier tick
pub overdue_earliest
    : (kit : Kit) (r : Room) → Timed r → (late : ℕ) → overdue kit r r.submitted r.ticks ≡ Some late → (j q t : ℕ)
    → Waits kit r r.submitted r.ticks j q t → late ≤ t + kit.patience
overdue_earliest kit r w late e j q t h =
    let f = overdue_first kit r r.submitted r.ticks late e in
    omega (arith, f.is, w.rising f.i j f.tick t (f.first j q t h) f.waits.tick_at h.tick_at)
