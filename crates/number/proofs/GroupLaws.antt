-- What is read one group after the other, as the reader does (`number_in`), is the number that `number_at` says (`number_at_in`).
-- Assumes nothing.
use Rattle.std.specs.Prelude.{Ok, Err, ℕ, zero, suc, ◌+◌, ◌*◌, ◌%◌, ◌^◌, ◌<◌, ◌≤◌, List, [], ◌∷◌, ◌≡◌, refl, ◌&&◌, length, take, drop, get_or, ltb, leb, eqb}
use Rattle.std.proofs.Common.{sym, ap, ◌∙◌, pow-suc, mod-eq_of_lt, mod-lt, arith, lt-ltb, le-ltb, le-leb, eq-eqb, ne_eqb, get_or-take}
use Rattle.std.proofs.Math.Bool.{and-false}
use Rattle.std.proofs.Math.Logic.{by_cases}
use Rattle.std.proofs.Math.Nat.{one-le-pow}
use Rattle.std.proofs.Math.Decide.{dec_lt}
use Rattle.std.proofs.lemmas.Bool.{lt-leb}
use Rattle.terms.specs.Lists.{pick}
use Rattle.number.specs.Number.{Reading, Number, Cut, Bad, going_on, last_group, value, head_value, judged, number_at}
use Rattle.number.specs.declared.Found.{Found}
use Rattle.number.specs.Groups.{under, number_in}

-- the same reading is of the same number and the same place after it
found_in : Reading → Found
found_in (Ok found) = found
found_in (Err fault) = record { value = 0; next = 0 }

pub same_value : {v next v' next' : ℕ} → Number v next ≡ Number v' next' → v ≡ v'
unfolding found_in
same_value e = ap (λ (r : Reading). (found_in r).value) e

pub same_next : {v next v' next' : ℕ} → Number v next ≡ Number v' next' → next ≡ next'
unfolding found_in
same_next e = ap (λ (r : Reading). (found_in r).next) e

-- the byte after those that go on does not go on
pub last_below : (s : List ℕ) → last_group s < 128
last_below [] = omega arith
last_below (b ∷ s) =
    by_cases (dec_lt b 128)
    (λ lt. simp (lt-ltb b 128 lt) lt)
    (λ ge. simp (le-ltb b 128 (omega arith)) (last_below s))

-- groups that make 0 are all 0
value_zero : (s : List ℕ) (i : ℕ) → value s ≡ 0 → get_or s i 0 % 128 ≡ 0
value_zero [] i e = refl
value_zero (b ∷ s) zero e = omega arith
value_zero (b ∷ s) (suc i) e = value_zero s i (omega arith)

head_zero : (s : List ℕ) → head_value s ≡ 0 → last_group s ≡ 0
head_zero s e =
    let z = value_zero (take (suc (going_on s)) s) (going_on s) e in
    sym (mod-eq_of_lt (last_below s)) ∙ rw (get_or-take (suc (going_on s)) s (going_on s) 0 (omega arith)) at z

-- a last group of 0 that is the only one makes 0
head_alone : (s : List ℕ) → going_on s ≡ 0 → last_group s ≡ 0 → head_value s ≡ 0
head_alone [] e z = refl
head_alone (b ∷ s) e z =
    by_cases (dec_lt b 128)
    (λ lt.
    let q : b ≡ 0 = simp (lt-ltb b 128 lt) at z in
    simp q)
    (λ ge.
    let q : suc (going_on s) ≡ 0 = simp (le-ltb b 128 (omega arith)) at e in
    absurd (omega arith))

-- `judged` by the numbers alone: k groups go on, there are len bytes, the groups make v, the last is `last`
abbrev verdict : (most limit at k len v last : ℕ) → Reading
verdict most limit at k len v last =
    pick (leb most k) Bad
    (pick (leb len k) Cut (pick (leb limit v) Bad (pick (eqb last 0 && ltb 0 k) Bad (Number v (at + (k + 1))))))

-- one group more, below all others
verdict_under : (most limit at k len v last g : ℕ) → g < 128 → (v ≡ 0 → last ≡ 0) → (k ≡ 0 → last ≡ 0 → v ≡ 0)
    → verdict (suc most) (limit * 128) at (suc k) (suc len) (v * 128 + g) last ≡ under 128 g (verdict most limit (at + 1) k len v last)
verdict_under most limit at k len v last g h zero-last last-zero =
    by_cases (dec_lt k most)
    (λ few.
    let a = lt-leb (suc most) (suc k) (omega arith) in
    let a' = lt-leb most k few in
    by_cases (dec_lt k len)
    (λ there.
    let b = lt-leb (suc len) (suc k) (omega arith) in
    let b' = lt-leb len k there in
    by_cases (dec_lt v limit)
    (λ small.
    let c = lt-leb (limit * 128) (v * 128 + g) (omega arith) in
    let c' = lt-leb limit v small in
    by_cases (dec_lt 0 last)
    (λ some.
    let d = ne_eqb last 0 (λ z. omega arith) in
    let d' = ne_eqb v 0 (λ z. omega (arith, zero-last z)) in
    simp (a, a', b, b', c, c', d, d') (ap (Number (v * 128 + g)) (omega arith)))
    (λ none.
    let e = eq-eqb last 0 (omega arith) in
    by_cases (dec_lt 0 k)
    (λ longer. simp (a, a', b, b', c, c', e, lt-ltb 0 (suc k) (omega arith), lt-ltb 0 k longer))
    (λ only.
    let z : v ≡ 0 = last-zero (omega arith) (omega arith) in
    simp (a, a', b, b', c, c', e, lt-ltb 0 (suc k) (omega arith), le-ltb 0 k (omega arith), eq-eqb v 0 z))))
    (λ large. simp (a, a', b, b', le-leb (limit * 128) (v * 128 + g) (omega arith), le-leb limit v (omega arith))))
    (λ cut. simp (a, a', le-leb (suc len) (suc k) (omega arith), le-leb len k (omega arith))))
    (λ long. simp (le-leb (suc most) (suc k) (omega arith), le-leb most k (omega arith)))

-- a group that does not go on
judged_alone : (more limit at b : ℕ) (s : List ℕ) → b < 128 → judged (suc more) limit at (b ∷ s) ≡ pick (leb limit b) Bad (Number b (at + 1))
judged_alone more limit at b s h =
    let z : 0 * 128 + b ≡ b = omega arith in
    simp (lt-ltb b 128 h, lt-leb (suc more) 0 (omega arith), lt-leb (suc (length s)) 0 (omega arith), and-false (eqb b 0), mod-eq_of_lt h, z)

-- a group that goes on
judged_more : (more limit at b : ℕ) (s : List ℕ) → 128 ≤ b
    → judged (suc more) (limit * 128) at (b ∷ s) ≡ under 128 (b % 128) (judged more limit (at + 1) s)
judged_more more limit at b s h =
    simp (le-ltb b 128 h)
    (verdict_under more limit at (going_on s) (length s) (head_value s) (last_group s) (b % 128) (mod-lt b {m = 128} (omega arith)) (head_zero s) (head_alone s))

number_in_judged : (more at : ℕ) (s : List ℕ) → number_in more at s ≡ judged (suc more) (16 * 128 ^ more) at s
number_in_judged more at [] = simp (lt-leb (suc more) 0 (omega arith))
number_in_judged zero at (b ∷ s) =
    by_cases (dec_lt b 128)
    (λ lt.
    by_cases (dec_lt b 16)
    (λ in_four. simp (judged_alone 0 16 at b s lt, lt-ltb b 16 in_four, lt-leb 16 b in_four))
    (λ large. simp (judged_alone 0 16 at b s lt, le-ltb b 16 (omega arith), le-leb 16 b (omega arith))))
    (λ ge. simp (le-ltb b 16 (omega arith), le-ltb b 128 (omega arith), le-leb 1 (suc (going_on s)) (omega arith)))
number_in_judged (suc more) at (b ∷ s) =
    by_cases (dec_lt b 128)
    (λ lt.
    let below : b < 16 * 128 ^ suc more = rw (pow-suc 128 more) (omega (arith, one-le-pow more 128 (omega arith))) in
    rw (judged_alone (suc more) (16 * 128 ^ suc more) at b s lt) (simp (lt-ltb b 128 lt, lt-leb (16 * 128 ^ suc more) b below)))
    (λ ge.
    let limit : 16 * 128 ^ suc more ≡ 16 * 128 ^ more * 128 = rw (pow-suc 128 more) (omega arith) in
    rw (limit, judged_more (suc more) (16 * 128 ^ more) at b s (omega arith), number_in_judged more (at + 1) s) (simp (le-ltb b 128 (omega arith))))

-- a number is read group by group
pub number_at_in : (s : List ℕ) (at : ℕ) → number_at s at ≡ number_in 4 at (drop at s)
unfolding number_at
number_at_in s at = sym (number_in_judged 4 at (drop at s))
