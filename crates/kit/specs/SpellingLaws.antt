-- Bytes that are the spellings of some numbers are read as those numbers, and bytes that are read to their end are the spellings of what was
-- read. Assumes nothing.
use Rattle.std.specs.Prelude.{Ok, Err, ◌≡◌, refl, List, [], ◌∷◌, ◌++◌, ℕ, zero, suc, ◌+◌, ◌-◌, ◌<◌, ◌≤◌, ◌^◌, length, drop}
use Rattle.std.proofs.Common.{sym, ap, ◌∙◌, append_assoc, ⊎_elim, arith, le-leb, length-append, length-drop, take-append-drop, drop_of_length-le, drop-drop}
use Rattle.std.proofs.Math.Logic.{by_cases}
use Rattle.std.proofs.Math.Decide.{dec_lt}
use Rattle.std.proofs.lemmas.Bool.{lt-leb}
use Rattle.std.proofs.Math.Seq.{drop-append_seam}
use Rattle.terms.specs.ListLaws.{no_way, nth-append, nth_app_inv}
use Rattle.number.specs.Number.{Reading, Number, number_at, spelling, Bytes}
use Rattle.number.proofs.NumberLaws.{spelling_reads_from, one_spelling, spelling_length_lem, moves_on_lem}
use Rattle.number.specs.declared.Fault.TheVariants as Fault
use Rattle.kit.specs.Spelling.{spellings, Words}
use Rattle.kit.specs.Reader.{Numbers, Whole, gathered, numbers_from, taken_at, stretch_at}

-- ---- spellings and words of lists put together

pub spellings_append : (l m : List ℕ) → spellings (l ++ m) ≡ spellings l ++ spellings m
spellings_append [] m = refl
spellings_append (n ∷ l) m = rw (spellings_append l m) (sym (append_assoc (spelling n) (spellings l) (spellings m)))

pub words_right : (l m : List ℕ) → Words (l ++ m) → Words m
words_right [] m w = w
words_right (x ∷ l) m w = words_right l m (λ i n h. w (suc i) n h)

pub words_left : (l m : List ℕ) → Words (l ++ m) → Words l
words_left l m w = λ i n h. w i n (nth-append l m i h)

pub words_append : (l m : List ℕ) → Words l → Words m → Words (l ++ m)
words_append l m v w = λ i n h. ⊎_elim (λ p. v i n p) (λ p. w p.0 n p.2) (nth_app_inv l m i h)

pub words_cons : (n : ℕ) (ns : List ℕ) → n < 2 ^ 32 → Words ns → Words (n ∷ ns)
words_cons n ns small w zero m h = let z : n ≡ m = cc in rw (← z) small
words_cons n ns small w (suc i) m h = w i m h

-- ---- the numbers that stand from a place on

pub record Stands (s : List ℕ) (at : ℕ) (ns : List ℕ) : Type 0 where
  pub rest : drop at s ≡ spellings ns
  pub words : Words ns

module _ {s : List ℕ} {at n : ℕ} {ns : List ℕ} (h : Stands s at (n ∷ ns)) where
  pub stands_number : number_at s at ≡ Number n (at + length (spelling n))
  stands_number = spelling_reads_from s at n (spellings ns) (h.words 0 n refl) h.rest

  pub stands_later : Stands s (at + length (spelling n)) ns
  stands_later =
      record {
        rest = sym (drop-drop (length (spelling n)) at s) ∙ rw h.rest (drop-append_seam (spelling n) (spellings ns));
        words = λ i m e. h.words (suc i) m e;
      }

  pub stands_value : (taken_at s at).value ≡ n
  unfolding taken_at
  stands_value = rw stands_number

  pub stands_next : Stands s (taken_at s at).next ns
  unfolding taken_at
  stands_next = rw stands_number stands_later

pub stands_stretch : (l ns s : List ℕ) (at : ℕ) → Stands s at (l ++ ns)
    → ((stretch_at (length l) s at).numbers ≡ l) × Stands s (stretch_at (length l) s at).next ns
stands_stretch [] ns s at h = (refl, h)
stands_stretch (n ∷ l) ns s at h =
    let later = stands_stretch l ns s (taken_at s at).next (stands_next h) in
    (cc (stands_value h, later.0), later.1)

-- ---- read to the end

stands_none : (s : List ℕ) (at : ℕ) → Stands s at [] → length s ≤ at
stands_none s at h = omega (arith, length-drop at s, ap length h.rest)

stands_some : (s : List ℕ) (at n : ℕ) (ns : List ℕ) → Stands s at (n ∷ ns) → at < length s
stands_some s at n ns h =
    omega (arith, length-drop at s, ap length h.rest, length-append (spelling n) (spellings ns), spelling_length_lem n)

pub stands_read : (most : ℕ) (s : List ℕ) (at : ℕ) (ns : List ℕ) → length s ≤ at + most → Stands s at ns
    → numbers_from most s at ≡ record { list = ns; ending = Whole }
stands_read zero s at [] enough h = refl
stands_read zero s at (n ∷ ns) enough h = absurd (omega (arith, stands_some s at n ns h))
stands_read (suc most) s at [] enough h = rw (le-leb (length s) at (stands_none s at h))
stands_read (suc most) s at (n ∷ ns) enough h =
    let some_left = stands_some s at n ns h in
    rw (lt-leb (length s) at some_left, stands_number h)
    (rw (stands_read most s (at + length (spelling n)) ns (omega (arith, spelling_length_lem n)) (stands_later h)))

-- ---- and back

spelled : (s : List ℕ) (at v next : ℕ) → Bytes s → number_at s at ≡ Number v next → drop at s ≡ spelling v ++ drop next s
spelled s at v next bytes e =
    let o = one_spelling s at v next bytes e in
    let m = moves_on_lem s at v next e in
    let further : at + (next - at) ≡ next = omega arith in
    sym (take-append-drop (next - at) (drop at s)) ∙ rw (o.bytes, drop-drop (next - at) at s, further)

read_found : (s : List ℕ) (at : ℕ) (later : ℕ → Numbers) (f : Reading) → Bytes s → number_at s at ≡ f
    → ((v next : ℕ) → number_at s at ≡ Number v next → (later next).ending ≡ Whole → Stands s next (later next).list)
    → (gathered later f).ending ≡ Whole → Stands s at (gathered later f).list
read_found s at later (Ok found) bytes e go whole =
    let v = found.value in
    let next = found.next in
    let t = go v next e whole in
    record {
      rest = spelled s at v next bytes e ∙ ap (λ (l : List ℕ). spelling v ++ l) t.rest;
      words = words_cons v (later next).list (one_spelling s at v next bytes e).small t.words;
    }
read_found s at later (Err Fault.Cut) bytes e go whole = no_way (cc)
read_found s at later (Err Fault.Bad) bytes e go whole = no_way (cc)

nothing : (s : List ℕ) (at : ℕ) → length s ≤ at → Stands s at []
nothing s at h = record { rest = drop_of_length-le s h; words = λ i n e. no_way (cc) }

pub read_stands : (most : ℕ) (s : List ℕ) (at : ℕ) → Bytes s → length s ≤ at + most → (numbers_from most s at).ending ≡ Whole
    → Stands s at (numbers_from most s at).list
read_stands zero s at bytes enough whole = nothing s at (omega arith)
read_stands (suc most) s at bytes enough whole =
    by_cases (dec_lt at (length s))
    (λ lt.
    let w : (gathered (numbers_from most s) (number_at s at)).ending ≡ Whole = rw (lt-leb (length s) at lt) at whole in
    rw (lt-leb (length s) at lt)
    (read_found s at (numbers_from most s) (number_at s at) bytes refl
    (λ v next e w₁. read_stands most s next bytes (omega (arith, moves_on_lem s at v next e)) w₁) w))
    (λ ge. rw (le-leb (length s) at (omega arith)) (nothing s at (omega arith)))
