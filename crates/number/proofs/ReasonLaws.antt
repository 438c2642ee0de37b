-- Why a read has the answer that it has: each answer exactly by its reason (`cut_exactly`, `bad_exactly`, `number_exactly`, and by the kit's
-- numbers `one_exactly`, `two_exactly`), no two reasons at once, and that a fifth byte above 0F decides.
-- Definitions: `Number`. Assumes nothing.
use Rattle.std.specs.Prelude.{Ok, Err, ◌≡◌, refl, List, [], ◌∷◌, false, ◌&&◌, ◌↔◌, ◌⊎◌, ℕ, suc, ◌+◌, ◌*◌, ◌^◌, ◌<◌, ◌≤◌, ltb, leb, eqb, length, drop}
use Rattle.std.proofs.Common.{sym, ap, ◌∙◌, inl, inr, ⊎_elim, mod-eq_of_lt, mod-lt, mul_assoc, arith, lt-ltb, le-ltb, le-leb, ne_eqb, eq-eqb}
use Rattle.std.proofs.Math.Bool.{and-false}
use Rattle.std.proofs.Math.Logic.{by_cases}
use Rattle.std.proofs.Math.Nat.{pow-succ', pow-le-pow_right}
use Rattle.std.proofs.Math.Decide.{dec_lt}
use Rattle.std.proofs.lemmas.Bool.{lt-leb}
use Rattle.terms.specs.Lists.{pick}
use Rattle.terms.specs.ListLaws.{no_way}
use Rattle.number.specs.Number.{Reading, Number, Cut, Bad, going_on, last_group, head_value, ends_idle, judged, number_at, fault_number}
use Rattle.number.specs.Number.{TooLong, EndsTooSoon, Ends, TooLarge, NotShortest, Misspelled, Whole}
use Rattle.number.specs.declared.Fault.TheVariants as Fault
use Rattle.number.specs.Groups.{number_in}
use Rattle.number.proofs.GroupLaws.{number_at_in, same_value, same_next}

-- two facts of numbers, both or not
both : (a k : ℕ) → ((a ≡ 0) × (0 < k)) ⊎ (a ≡ 0 → 0 < k → ⊥)
both a k =
    by_cases (dec_lt 0 a)
    (λ some. inr (λ z h. omega arith))
    (λ no. by_cases (dec_lt 0 k) (λ h. inl (omega arith, h)) (λ h. inr (λ z h'. h h')))

not_both : (a k : ℕ) → (a ≡ 0 → 0 < k → ⊥) → (eqb a 0 && ltb 0 k) ≡ false
not_both a k h =
    by_cases (dec_lt 0 k)
    (λ some. simp (ne_eqb a 0 (λ z. h z some)))
    (λ no. simp (le-ltb 0 k (omega arith), and-false (eqb a 0)))

-- s are the bytes from `at` on
module _ (at : ℕ) (s : List ℕ) where
  abbrev answer : Reading
  answer = judged 5 (2 ^ 32) at s

  too_long : TooLong s → answer ≡ Bad
  too_long h = simp (le-leb 5 (going_on s) h)

  ends_too_soon : EndsTooSoon s → answer ≡ Cut
  ends_too_soon h = simp (lt-leb 5 (going_on s) h.few, le-leb (length s) (going_on s) h.all)

  -- with a last group in its place, the answer is by what the groups make
  ended : Ends s → answer ≡ pick (leb (2 ^ 32) (head_value s)) Bad (pick (ends_idle s) Bad (Number (head_value s) (at + (going_on s + 1))))
  ended h = simp (lt-leb 5 (going_on s) h.few, lt-leb (length s) (going_on s) h.there)

  too_large : TooLarge s → answer ≡ Bad
  too_large h = ended h.ends ∙ simp (le-leb (2 ^ 32) (head_value s) h.large)

  not_shortest : NotShortest s → answer ≡ Bad
  not_shortest h =
      by_cases (dec_lt (head_value s) (2 ^ 32))
      (λ small.
      ended h.ends
      ∙ simp (lt-leb (2 ^ 32) (head_value s) small, eq-eqb (last_group s) 0 h.idle, lt-ltb 0 (going_on s) h.longer))
      (λ large. too_large (record { ends = h.ends; large = omega arith }))

  whole : {v next : ℕ} → Whole at s v next → answer ≡ Number v next
  whole h =
      let small = lt-leb (2 ^ 32) (head_value s) (rw h.is at h.small) in
      rw h.counted (ended h.ends ∙ simp (small, not_both (last_group s) (going_on s) h.shortest, h.is))

  -- the five cases, and that one of them always is
  data Reason : Type 0 where
    is_long : TooLong s → Reason
    is_soon : EndsTooSoon s → Reason
    is_large : TooLarge s → Reason
    is_idle : NotShortest s → Reason
    is_whole : Whole at s (head_value s) (at + (going_on s + 1)) → Reason

  reason : Reason
  reason =
      by_cases (dec_lt (going_on s) 5)
      (λ few.
      by_cases (dec_lt (going_on s) (length s))
      (λ there.
      let ends : Ends s = record { few = few; there = there } in
      by_cases (dec_lt (head_value s) (2 ^ 32))
      (λ small.
      ⊎_elim
      (λ (b : (last_group s ≡ 0) × (0 < going_on s)). is_idle (record { ends = ends; idle = b.0; longer = b.1 }))
      (λ (n : last_group s ≡ 0 → 0 < going_on s → ⊥). is_whole (record { ends = ends; is = refl; small = small; shortest = n; counted = refl }))
      (both (last_group s) (going_on s)))
      (λ big. is_large (record { ends = ends; large = omega arith })))
      (λ cut. is_soon (record { few = few; all = omega arith })))
      (λ more. is_long (omega arith))

  cut_reason : Reason → answer ≡ Cut → EndsTooSoon s
  cut_reason (is_long h) e = no_way (cc (too_long h, e))
  cut_reason (is_soon h) e = h
  cut_reason (is_large h) e = no_way (cc (too_large h, e))
  cut_reason (is_idle h) e = no_way (cc (not_shortest h, e))
  cut_reason (is_whole h) e = no_way (cc (whole h, e))

  bad_reason : Reason → answer ≡ Bad → Misspelled s
  bad_reason (is_long h) e = inl h
  bad_reason (is_soon h) e = no_way (cc (ends_too_soon h, e))
  bad_reason (is_large h) e = inr (inl h)
  bad_reason (is_idle h) e = inr (inr h)
  bad_reason (is_whole h) e = no_way (cc (whole h, e))

  number_reason : {v next : ℕ} → Reason → answer ≡ Number v next → Whole at s v next
  number_reason (is_long h) e = no_way (cc (too_long h, e))
  number_reason (is_soon h) e = no_way (cc (ends_too_soon h, e))
  number_reason (is_large h) e = no_way (cc (too_large h, e))
  number_reason (is_idle h) e = no_way (cc (not_shortest h, e))
  number_reason {v} {next} (is_whole h) e =
      let f : Number (head_value s) (at + (going_on s + 1)) ≡ Number v next = sym (whole h) ∙ e in
      let ev : head_value s ≡ v = same_value f in
      let en : at + (going_on s + 1) ≡ next = same_next f in
      record { ends = h.ends; is = sym ev; small = rw (← ev) h.small; shortest = h.shortest; counted = sym en }

pub cut_exactly : (s : List ℕ) (at : ℕ) → (number_at s at ≡ Cut) ↔ EndsTooSoon (drop at s)
unfolding number_at
cut_exactly s at = (cut_reason at (drop at s) (reason at (drop at s)), ends_too_soon at (drop at s))

pub bad_exactly : (s : List ℕ) (at : ℕ) → (number_at s at ≡ Bad) ↔ Misspelled (drop at s)
unfolding number_at
bad_exactly s at =
    let t = drop at s in
    (bad_reason at t (reason at t), ⊎_elim (too_long at t) (⊎_elim (too_large at t) (not_shortest at t)))

pub number_exactly : (s : List ℕ) (at v next : ℕ) → (number_at s at ≡ Number v next) ↔ Whole at (drop at s) v next
unfolding number_at
number_exactly s at v next = (number_reason at (drop at s) (reason at (drop at s)), whole at (drop at s))

-- the same by the kit's numbers

one_cut : (f : Reading) → fault_number f ≡ 1 → f ≡ Cut
one_cut (Ok found) e = absurd (omega arith)
one_cut (Err Fault.Cut) e = refl
one_cut (Err Fault.Bad) e = absurd (omega arith)

two_bad : (f : Reading) → fault_number f ≡ 2 → f ≡ Bad
two_bad (Ok found) e = absurd (omega arith)
two_bad (Err Fault.Cut) e = absurd (omega arith)
two_bad (Err Fault.Bad) e = refl

pub one_exactly : (s : List ℕ) (at : ℕ) → (fault_number (number_at s at) ≡ 1) ↔ EndsTooSoon (drop at s)
one_exactly s at = (λ e. (cut_exactly s at).0 (one_cut (number_at s at) e), λ h. ap fault_number ((cut_exactly s at).1 h))

pub two_exactly : (s : List ℕ) (at : ℕ) → (fault_number (number_at s at) ≡ 2) ↔ Misspelled (drop at s)
two_exactly s at = (λ e. (bad_exactly s at).0 (two_bad (number_at s at) e), λ h. ap fault_number ((bad_exactly s at).1 h))

-- no two reasons at once; TooLarge, NotShortest and Whole each have an `Ends`

pub soon_not_long : (s : List ℕ) → EndsTooSoon s → TooLong s → ⊥
soon_not_long s h long = omega (arith, h.few)

pub ends_not_long : (s : List ℕ) → Ends s → TooLong s → ⊥
ends_not_long s h long = omega (arith, h.few)

pub ends_not_soon : (s : List ℕ) → Ends s → EndsTooSoon s → ⊥
ends_not_soon s h soon = omega (arith, h.there, soon.all)

-- what the groups make is below the weight that the last one ends at
head_below : (s : List ℕ) → head_value s < 128 ^ going_on s * suc (last_group s)
head_below [] = omega arith
head_below (b ∷ s) =
    by_cases (dec_lt b 128)
    (λ lt. simp (lt-ltb b 128 lt, mod-eq_of_lt lt) (omega arith))
    (λ ge.
    let weight : 128 ^ suc (going_on s) * suc (last_group s) ≡ 128 * (128 ^ going_on s * suc (last_group s))
    = rw (pow-succ' 128 (going_on s)) (mul_assoc 128 (128 ^ going_on s) (suc (last_group s))) in
    simp (le-ltb b 128 (omega arith)) (rw weight (omega (arith, head_below s, mod-lt b {m = 128} (omega arith)))))

pub large_not_idle : (s : List ℕ) → TooLarge s → NotShortest s → ⊥
large_not_idle s h idle =
    let below : head_value s < 128 ^ going_on s * 1 = rw idle.idle at (head_below s) in
    let most : 128 ^ going_on s ≤ 128 ^ 4 = pow-le-pow_right {n = 128} (omega arith) {i = going_on s} {j = 4} (omega (arith, h.ends.few)) in
    omega (arith, h.large)

-- after four bytes that go on, a fifth above 0F decides at once, whatever follows
pub fifth_decides : (s : List ℕ) (at a b c d e : ℕ) (rest : List ℕ) → drop at s ≡ a ∷ b ∷ c ∷ d ∷ e ∷ rest
    → 128 ≤ a → 128 ≤ b → 128 ≤ c → 128 ≤ d → 0x0f < e → number_at s at ≡ Bad
fifth_decides s at a b c d e rest is ha hb hc hd he =
    number_at_in s at ∙ ap (number_in 4 at) is ∙ simp (le-ltb a 128 ha, le-ltb b 128 hb, le-ltb c 128 hc, le-ltb d 128 hd, le-ltb e 16 he)
