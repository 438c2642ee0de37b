-- A read's first group, and the loop of `later` behind it, on plain values: s are the bytes, i the place, bits what the groups
-- before it make, below 2 ^ shift. What holds at the loop's head (`Head`): the groups from i on, over those bits, say what the whole says.
-- Assumes nothing.
use Rattle.std.proofs.Common.{zero, [], ◌∷◌, Ok, Err, ◌≡◌, refl, ap, ◌∙◌, List, false, ℕ, suc, ◌+◌, ◌-◌, ◌*◌, ◌%◌, ◌^◌, ◌<◌, ◌≤◌, add-mul, mul_assoc, add_assoc, mul_comm, mod-eq_of_lt, mod-lt, lt_of_lt_of_le, add-one, arith, le-ltb, ltb-true, true, eq-eqb, ne_eqb, ltb, eqb, length, get_or, drop, drop-cons, pow-add, pow_pos, pow_mono, shl_lt}
use Rattle.std.proofs.Math.Arith.{digits_lt}
use Rattle.std.proofs.Math.Decide.{dec_lt}
use Rattle.std.proofs.Math.Logic.{by_cases}
use Rattle.terms.specs.Lists.{pick}
use Rattle.number.specs.Number.{Reading, Number, number_at}
use Rattle.number.specs.Groups.{under, number_in}
use Rattle.number.proofs.GroupLaws.{number_at_in}

-- ---- one group at a place

in_more : (more i : ℕ) (s : List ℕ) → i < length s
    → number_in (suc more) i (drop i s)
    ≡ pick (ltb (get_or s i 0) 128) (Number (get_or s i 0) (i + 1)) (under 128 (get_or s i 0 % 128) (number_in more (i + 1) (drop (i + 1) s)))
in_more more i s h = rw (drop-cons s i 0 h, add-one i)

-- ---- the first group

module _ (s : List ℕ) (at : ℕ) (within : at < length s) where
  abbrev b₁ : ℕ
  b₁ = get_or s at 0

  pub first_alone : ltb b₁ 128 ≡ true → number_at s at ≡ Number (b₁ % 128) (at + 1)
  first_alone t = number_at_in s at ∙ simp (in_more 3 at s within, t, mod-eq_of_lt (ltb-true b₁ 128 t))

  pub first_more : ltb b₁ 128 ≡ false → number_at s at ≡ under 128 (b₁ % 128) (number_in 3 (at + 1) (drop (at + 1) s))
  first_more t = number_at_in s at ∙ simp (in_more 3 at s within, t)

-- ---- the loop

-- a group under the later ones, and bits under both, are the two together under the later ones
under_under : (weight low g : ℕ) (later : Reading) → 0 < weight → under weight low (under 128 g later) ≡ under (weight * 128) (g * weight + low) later
under_under weight low g (Err fault) h = refl
under_under weight low g (Ok found) h =
    by_cases (dec_lt 0 found.value)
    (λ some.
    let v = found.value in
    let e : eqb v 0 ≡ false = ne_eqb v 0 (λ z. omega arith) in
    let e' : eqb (v * 128 + g) 0 ≡ false = ne_eqb (v * 128 + g) 0 (λ z. omega arith) in
    let q : (v * 128 + g) * weight + low ≡ v * (weight * 128) + (g * weight + low) = simp (add-mul, mul_assoc, mul_comm 128 weight, add_assoc) in
    simp (e, e') (ap (λ (n : ℕ). Number n found.next) q))
    (λ no. simp (eq-eqb found.value 0 (omega arith)))

-- how far the groups after the first are shifted
pub shift_at : (k : ℕ) → k < 3 → get_or (7 ∷ 14 ∷ 21 ∷ []) k 0 ≡ 7 + 7 * k
shift_at zero h = refl
shift_at (suc zero) h = refl
shift_at (suc (suc zero)) h = refl
shift_at (suc (suc (suc k))) h = absurd (omega arith)

-- what holds at the loop's head; `more` groups may follow the one at i
pub record Head (s : List ℕ) (at first bits shift i : ℕ) : Type 0 where
  pub more : ℕ
  pub left : shift + 7 * more ≡ 28
  pub small : bits < 2 ^ shift
  pub same : under 128 first (number_in 3 at (drop at s)) ≡ under (2 ^ shift) bits (number_in more i (drop i s))

pub head_first : (s : List ℕ) (at first : ℕ) → first < 128 → Head s at first first 7 at
head_first s at first h = record { more = 3; left = refl; small = h; same = refl }

module _ {s : List ℕ} {at first bits shift i : ℕ} (head : Head s at first bits shift i) where
  -- what the function is to return
  abbrev whole : Reading
  whole = under 128 first (number_in 3 at (drop at s))

  -- one more group has room in 32 bits
  pub room : (g : ℕ) → g < 128 → shift < 28 → g * 2 ^ shift < 2 ^ 32
  room g h below = lt_of_lt_of_le (shl_lt 7 shift h) (pow_mono {i = 7 + shift} {j = 32} (omega (arith, head.left)))

  -- a turn
  module _ (below : shift < 28) (within : i < length s) where
    abbrev b : ℕ
    b = get_or s i 0

    abbrev m : ℕ
    m = head.more - 1

    turn : whole ≡ under (2 ^ shift) bits (pick (ltb b 128) (Number b (i + 1)) (under 128 (b % 128) (number_in m (i + 1) (drop (i + 1) s))))
    turn =
        let e : head.more ≡ suc m = omega (arith, head.left) in
        head.same ∙ ap (λ (k : ℕ). under (2 ^ shift) bits (number_in k i (drop i s))) e ∙ rw (in_more m i s within)

    pub goes_on : 128 ≤ b → Head s at first (b % 128 * 2 ^ shift + bits) (shift + 7) (i + 1)
    goes_on ge =
        record {
          more = m;
          left = omega (arith, head.left);
          small = rw (pow-add 2 shift 7, mul_comm (2 ^ shift) 128) (digits_lt (mod-lt b {m = 128} (omega arith)) head.small);
          same =
              turn ∙ simp (le-ltb b 128 ge)
              (under_under (2 ^ shift) bits (b % 128) (number_in m (i + 1) (drop (i + 1) s)) (pow_pos shift) ∙ rw (pow-add 2 shift 7));
        }
