-- The invariants of the two loops, each by what is still to come, and one turn of each. Assumes nothing.
use Rattle.std.proofs.Common.{◌≡◌, ℕ, zero, suc, ◌+◌, ◌-◌, ◌<◌, ◌≤◌, Bool, true, false, ◌||◌, sym, ◌∙◌, arith}
use Rattle.terms.specs.Lists.{any_below}
use Rattle.terms.specs.declared.Roles.{Roles}
use Rattle.rules.specs.Reading.{second_of}
use Rattle.ledger.specs.declared.Book.{Book}
use Rattle.ledger.specs.ActivesLaws.{asked_of, all_actives}
use Rattle.clock.specs.AnsweredOn.{up_value, has_updated, updated_by, answered_at_on}
use Rattle.clock.specs.Tick.{first_from}

-- ---- some value, going down: one that is at most v decides

pub record Seeking (whole : Bool) (t : ℕ → Bool) (v : ℕ) : Type 0 where
  pub rest : whole ≡ any_below v t

tries : (t : ℕ → Bool) (v : ℕ) → 0 < v → any_below v t ≡ (t (v - 1) || any_below (v - 1) t)
tries t zero h = absurd (omega arith)
tries t (suc v) h = let e : suc v - 1 ≡ v = omega arith in rw e

module _ {whole : Bool} {t : ℕ → Bool} {v : ℕ} (s : Seeking whole t v) where
  pub sought : 0 < v → t (v - 1) ≡ true → true ≡ whole
  sought h e = sym (s.rest ∙ rw (tries t v h, e))

  pub next_down : 0 < v → t (v - 1) ≡ false → Seeking whole t (v - 1)
  next_down h e = record { rest = s.rest ∙ rw (tries t v h, e) }

  pub none_left : v ≤ 0 → false ≡ whole
  none_left h = let e : v ≡ 0 = omega arith in sym (s.rest ∙ rw e)

pub at_value : (roles : Roles) (request : ℕ) (book : Book) (value : ℕ) → 0 < value
    → answered_at_on roles request book (value - 1)
    ≡ asked_of roles.table 0 (has_updated value request (second_of (up_value book value roles.leader)) book)
unfolding answered_at_on updated_by
at_value roles request book value h =
    let e : suc (value - 1) ≡ value = omega arith in
    rw (e, ← all_actives roles.table 0 (has_updated value request (second_of (up_value book value roles.leader)) book))

-- ---- the first that fails: the search from i on finds it

pub record Searching (t : ℕ → Bool) (first n i : ℕ) : Type 0 where
  pub rest : first_from t first (n - first) ≡ first_from t i (n - i)

module _ {t : ℕ → Bool} {first n i : ℕ} (s : Searching t first n i) where
  one_more : i < n → n - i ≡ suc (n - (i + 1))
  one_more h = omega arith

  pub next_passed : i < n → t i ≡ true → Searching t first n (i + 1)
  next_passed h e = record { rest = s.rest ∙ rw (one_more h, e) }

  pub stops : i < n → t i ≡ false → i ≡ first_from t first (n - first)
  stops h e = sym (s.rest ∙ rw (one_more h, e))

  pub all_passed : n ≤ i → i ≡ first_from t first (n - first)
  all_passed h = let e : n - i ≡ 0 = omega arith in sym (s.rest ∙ rw e)
