-- Laws of a kit's numbers. In order: what is written reads back; the bytes that read as a number are its one spelling; a spelling's length and
-- bytes; where a read ends, and that it looks only at the bytes from its place on; what writing changes.
-- Definitions: `Number`. Why a read has its answer: `ReasonLaws`. Assumes nothing.
use Rattle.std.specs.Prelude.{Option, Some, None, Ok, Err, ◌≡◌, refl, List, [], ◌∷◌, ◌++◌, Bool, true, false, ℕ, zero, suc, ◌+◌, ◌-◌, ◌*◌, ◌/◌, ◌%◌, ◌^◌, ◌<◌, ◌≤◌, length, take, drop, get_or}
use Rattle.std.proofs.Common.{sym, ap, ◌∙◌, append_assoc, pow-suc, div-add-mod', add_assoc, arith, lt-ltb, le-ltb, le-leb, ne_eqb, eq-eqb, length-append, length-drop, drop_of_length-le, drop_at, take_at, length-take-le, get_or-drop, drop-drop}
use Rattle.std.proofs.Math.Logic.{by_cases}
use Rattle.std.proofs.Math.Nat.{one-le-pow}
use Rattle.std.proofs.Math.Decide.{dec_lt}
use Rattle.std.proofs.lemmas.Bool.{lt-leb}
use Rattle.std.proofs.Math.Seq.{drop-append_seam, drop-append-add}
use Rattle.terms.specs.Lists.{pick}
use Rattle.terms.specs.ListLaws.{no_way}
use Rattle.number.specs.Number.{Reading, Number, Cut, Bad, Bytes, judged, number_at, moved, spelling, spelling_in, over, Written}
use Rattle.number.specs.Groups.{under, number_in}
use Rattle.number.proofs.GroupLaws.{number_at_in, same_value, same_next}
use Rattle.number.proofs.ReasonLaws.{cut_exactly, number_exactly}

-- ---- what is written reads back

in_reads : (more at n : ℕ) (rest : List ℕ) → n < 16 * 128 ^ more
    → number_in more at (spelling_in more n ++ rest) ≡ Number n (at + length (spelling_in more n))
in_reads zero at n rest h = simp (lt-ltb n 16 h)
in_reads (suc more) at n rest h =
    by_cases (dec_lt n 128)
    (λ lt. simp (lt-ltb n 128 lt))
    (λ ge.
    let small : n < 16 * (128 ^ more * 128) = rw (pow-suc 128 more) at h in
    let later = in_reads more (at + 1) (n / 128) rest (omega arith) in
    let low : (128 + n % 128) % 128 ≡ n % 128 = omega arith in
    simp (le-ltb n 128 (omega arith), le-ltb (128 + n % 128) 128 (omega arith), later, ne_eqb (n / 128) 0 (λ z. omega arith), low, div-add-mod' n 128)
    (ap (Number n) (omega arith)))

-- where the bytes from a place on begin with a spelling, its number stands there, whatever follows
pub spelling_reads_from : (s : List ℕ) (at n : ℕ) (rest : List ℕ) → n < 2 ^ 32 → drop at s ≡ spelling n ++ rest
    → number_at s at ≡ Number n (at + length (spelling n))
unfolding spelling
spelling_reads_from s at n rest small e = number_at_in s at ∙ ap (number_in 4 at) e ∙ in_reads 4 at n rest small

pub spelling_reads : (front : List ℕ) (n : ℕ) (rest : List ℕ) → n < 2 ^ 32
    → number_at (front ++ spelling n ++ rest) (length front) ≡ Number n (length front + length (spelling n))
spelling_reads front n rest small =
    spelling_reads_from (front ++ spelling n ++ rest) (length front) n rest small
    (ap (drop (length front)) (append_assoc front (spelling n) rest) ∙ drop-append_seam front (spelling n ++ rest))

pub written_reads : (s : List ℕ) (at n : ℕ) → n < 2 ^ 32 → at + length (spelling n) ≤ length s
    → number_at (over s at (spelling n)) at ≡ Number n (at + length (spelling n))
written_reads s at n small fits =
    let rest = drop (at + length (spelling n)) s in
    spelling_reads_from (over s at (spelling n)) at n rest small
    (ap (drop at) (append_assoc (take at s) (spelling n) rest) ∙ drop_at (take at s) (spelling n ++ rest) at (length-take-le at s (omega arith)))

-- ---- the bytes that read as a number are its one spelling

pub spelling_in_last : (more n : ℕ) → n < 128 → spelling_in more n ≡ n ∷ []
spelling_in_last zero n h = refl
spelling_in_last (suc more) n h = simp (lt-ltb n 128 h)

pub spelling_in_more : (more n : ℕ) → 128 ≤ n → spelling_in (suc more) n ≡ (128 + n % 128) ∷ spelling_in more (n / 128)
spelling_in_more more n h = simp (le-ltb n 128 h)

-- what a number says of its later groups, where they stand over the lowest bits g
record Over (g v next : ℕ) (later : Reading) : Type 0 where
  pub rest : ℕ
  pub is : later ≡ Number rest next
  pub some : 0 < rest
  pub value : v ≡ rest * 128 + g

over_low : (g v next : ℕ) (later : Reading) → under 128 g later ≡ Number v next → Over g v next later
over_low g v next (Err fault) e = no_way (cc)
over_low g v next (Ok found) e =
    let w = found.value in
    let n = found.next in
    by_cases (dec_lt 0 w)
    (λ some.
    let e' : Number (w * 128 + g) n ≡ Number v next = simp (ne_eqb w 0 (λ z. omega arith)) at e in
    record { rest = w; is = ap (Number w) (same_next e'); some = some; value = sym (same_value e') })
    (λ no. let e' : Bad ≡ Number v next = simp (eq-eqb w 0 (omega arith)) at e in no_way (cc))

-- bytes that read as v, which may have `more` groups after the first, start with its spelling
record Spelled (more at v next : ℕ) (s : List ℕ) : Type 0 where
  pub rest : List ℕ
  pub bytes : s ≡ spelling_in more v ++ rest
  pub ends : next ≡ at + length (spelling_in more v)
  pub small : v < 16 * 128 ^ more

in_spelled : (more at v next : ℕ) (s : List ℕ) → Bytes s → number_in more at s ≡ Number v next → Spelled more at v next s
in_spelled more at v next [] bytes e = no_way (cc)
in_spelled zero at v next (b ∷ s) bytes e =
    by_cases (dec_lt b 16)
    (λ lt.
    let e' : Number b (at + 1) ≡ Number v next = simp (lt-ltb b 16 lt) at e in
    let ev : b ≡ v = same_value e' in
    let en : at + 1 ≡ next = same_next e' in
    record { rest = s; bytes = cc; ends = cc; small = omega arith })
    (λ ge. let e' : Bad ≡ Number v next = simp (le-ltb b 16 (omega arith)) at e in no_way (cc))
in_spelled (suc more) at v next (b ∷ s) bytes e =
    by_cases (dec_lt b 128)
    (λ lt.
    let e' : Number b (at + 1) ≡ Number v next = simp (lt-ltb b 128 lt) at e in
    let ev : b ≡ v = same_value e' in
    let en : at + 1 ≡ next = same_next e' in
    let sp : spelling_in (suc more) v ≡ v ∷ [] = spelling_in_last (suc more) v (omega arith) in
    record { rest = s; bytes = rw sp (cc); ends = rw sp (sym en); small = rw (pow-suc 128 more) (omega (arith, one-le-pow more 128 (omega arith))) })
    (λ ge.
    let e' : under 128 (b % 128) (number_in more (at + 1) s) ≡ Number v next = simp (le-ltb b 128 (omega arith)) at e in
    let o = over_low (b % 128) v next (number_in more (at + 1) s) e' in
    let t = in_spelled more (at + 1) o.rest next s (λ i. bytes (suc i)) o.is in
    let byte : b < 256 = bytes 0 in
    let q : v / 128 ≡ o.rest = omega (arith, o.value) in
    let r : 128 + v % 128 ≡ b = omega (arith, o.value) in
    let sp : spelling_in (suc more) v ≡ b ∷ spelling_in more o.rest = spelling_in_more more v (omega (arith, o.value, o.some)) ∙ rw (q, r) in
    record {
      rest = t.rest;
      bytes = rw sp (ap (λ (l : List ℕ). b ∷ l) t.bytes);
      ends = rw sp (omega (arith, t.ends));
      small = rw (pow-suc 128 more) (omega (arith, o.value, t.small));
    })

pub record OneSpelling (s : List ℕ) (at v next : ℕ) : Type 0 where
  pub small : v < 2 ^ 32
  pub ends : next ≡ at + length (spelling v)
  pub bytes : take (next - at) (drop at s) ≡ spelling v

pub one_spelling : (s : List ℕ) (at v next : ℕ) → Bytes s → number_at s at ≡ Number v next → OneSpelling s at v next
unfolding spelling
one_spelling s at v next bytes e =
    let t = in_spelled 4 at v next (drop at s) (λ i. rw (get_or-drop at s i 0) (bytes (at + i))) (sym (number_at_in s at) ∙ e) in
    let size : length (spelling_in 4 v) ≡ next - at = omega (arith, t.ends) in
    record { small = t.small; ends = t.ends; bytes = rw t.bytes (take_at (spelling_in 4 v) t.rest (next - at) size) }

-- ---- a spelling's length and bytes

in_length : (more n : ℕ) → (1 ≤ length (spelling_in more n)) × (length (spelling_in more n) ≤ suc more)
in_length zero n = (omega arith, omega arith)
in_length (suc more) n =
    by_cases (dec_lt n 128)
    (λ lt. rw (spelling_in_last (suc more) n lt) (omega arith, omega arith))
    (λ ge. rw (spelling_in_more more n (omega arith)) (omega arith, omega (arith, in_length more (n / 128))))

pub spelling_length_lem : (n : ℕ) → (1 ≤ length (spelling n)) × (length (spelling n) ≤ 5)
unfolding spelling
spelling_length_lem n = in_length 4 n

in_bytes : (more n : ℕ) → n < 16 * 128 ^ more → Bytes (spelling_in more n)
in_bytes zero n h zero = omega arith
in_bytes zero n h (suc i) = omega arith
in_bytes (suc more) n h i =
    by_cases (dec_lt n 128)
    (λ lt. rw (spelling_in_last (suc more) n lt) (at_last i lt))
    (λ ge.
    let small : n < 16 * (128 ^ more * 128) = rw (pow-suc 128 more) at h in
    rw (spelling_in_more more n (omega arith)) (at_more i (in_bytes more (n / 128) (omega arith))))
  where
    at_last : (i : ℕ) → n < 128 → get_or (n ∷ []) i 0 < 256
    at_last zero lt = omega arith
    at_last (suc i) lt = omega arith

    at_more : (i : ℕ) → Bytes (spelling_in more (n / 128)) → get_or ((128 + n % 128) ∷ spelling_in more (n / 128)) i 0 < 256
    at_more zero rest = omega arith
    at_more (suc i) rest = rest i

pub spelling_bytes : (n : ℕ) → n < 2 ^ 32 → Bytes (spelling n)
unfolding spelling
spelling_bytes n small = in_bytes 4 n small

-- ---- where a read ends, and what it looks at

pub moves_on_lem : (s : List ℕ) (at v next : ℕ) → number_at s at ≡ Number v next → (at < next) × (next ≤ length s)
moves_on_lem s at v next e =
    let h = (number_exactly s at v next).0 e in
    omega (arith, h.ends.there, h.counted, length-drop at s)

pub past_end : (s : List ℕ) (at : ℕ) → length s ≤ at → number_at s at ≡ Cut
past_end s at h = (cut_exactly s at).1 (rw (drop_of_length-le s h) (record { few = omega arith; all = omega arith }))

moved_pick : (far : ℕ) (t : Bool) (a b : Reading) → moved far (pick t a b) ≡ pick t (moved far a) (moved far b)
moved_pick far true a b = refl
moved_pick far false a b = refl

in_moved : (far at : ℕ) (s : List ℕ) → judged 5 (2 ^ 32) (far + at) s ≡ moved far (judged 5 (2 ^ 32) at s)
in_moved far at s = simp (moved_pick far, add_assoc)

-- a read looks only at the bytes from its place on: with others in front it says the same, that much further on
pub reads_moved : (front s : List ℕ) (at : ℕ) → number_at (front ++ s) (length front + at) ≡ moved (length front) (number_at s at)
unfolding number_at
reads_moved front s at = rw (drop-append-add front s at) (in_moved (length front) at (drop at s))

-- ---- what writing changes

module _ (s : List ℕ) (at : ℕ) (vs : List ℕ) (fits : at + length vs ≤ length s) where
  front : length (take at s ++ vs) ≡ at + length vs
  front = length-append (take at s) vs ∙ rw (length-take-le at s (omega arith))

  pub over_before : take at (over s at vs) ≡ take at s
  over_before = rw append_assoc (take_at (take at s) (vs ++ drop (at + length vs) s) at (length-take-le at s (omega arith)))

  pub over_after : drop (at + length vs) (over s at vs) ≡ drop (at + length vs) s
  over_after = drop_at (take at s ++ vs) (drop (at + length vs) s) (at + length vs) front

  pub length_over : length (over s at vs) ≡ length s
  length_over =
      length-append (take at s ++ vs) (drop (at + length vs) s) ∙ rw (front, length-drop (at + length vs) s) (omega arith)

  -- more bytes behind those are both at once
  pub over_over : (ws : List ℕ) → over (over s at vs) (at + length vs) ws ≡ over s at (vs ++ ws)
  over_over ws =
      let m = at + length vs in
      let before : take (at + length vs) (over s at vs) ≡ take at s ++ vs = take_at (take at s ++ vs) (drop m s) m front in
      let after : drop (at + length vs + length ws) (over s at vs) ≡ drop (at + length vs + length ws) s
      = sym (drop-drop (length ws) m (over s at vs)) ∙ ap (drop (length ws)) over_after ∙ drop-drop (length ws) m s in
      rw (before, after) (rw (length-append vs ws, append_assoc (take at s) vs ws, add_assoc at (length vs) (length ws)))

-- what a write that was asked for at a place did
module _ {s s' : List ℕ} {at n : ℕ} {r : Option ℕ} (w : Written s s' at n r) where
  pub written_next : at + length (spelling n) ≤ length s → (r ≡ Some (at + length (spelling n))) × (s' ≡ over s at (spelling n))
  written_next fits = let t = le-leb (at + length (spelling n)) (length s) fits in (w.answer ∙ simp t, w.bytes ∙ simp t)

  pub written_none : length s < at + length (spelling n) → (r ≡ None) × (s' ≡ s)
  written_none less = let t = lt-leb (at + length (spelling n)) (length s) less in (w.answer ∙ simp t, w.bytes ∙ simp t)

  -- the place after what was written is within the slice
  pub written_within : {next : ℕ} → r ≡ Some next → next ≤ length s'
  written_within {next} e =
      by_cases (dec_lt (length s) (at + length (spelling n)))
      (λ less. no_way (cc ((written_none less).0, e)))
      (λ fits.
      let w' = written_next (omega arith) in
      let f : at + length (spelling n) ≡ next = cc (w'.0, e) in
      rw (w'.1, length_over s at (spelling n) (omega arith)) (omega arith))

-- the promise fixes the answer and every byte
pub written_one : {s s₁ s₂ : List ℕ} {at n : ℕ} {r₁ r₂ : Option ℕ} → Written s s₁ at n r₁ → Written s s₂ at n r₂ → (r₁ ≡ r₂) × (s₁ ≡ s₂)
written_one v w = (v.answer ∙ sym w.answer, v.bytes ∙ sym w.bytes)
