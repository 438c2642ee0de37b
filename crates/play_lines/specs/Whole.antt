-- Laws of a text in a lent buffer: it ends within the buffer, and one that ends before the buffer's end is whole, so that nothing is lost
-- unseen. Assumes nothing.
use Rattle.std.specs.Prelude.{◌≡◌, List, [], ◌∷◌, ℕ, suc, ◌+◌, ◌≤◌, ◌<◌, length, set, take, drop, ltb}
use Rattle.std.proofs.Common.{sym, ap, ◌∙◌, add-zero, add-one, arith, length-set, length-take, ltb-true, ltb-false}
use Rattle.std.proofs.lemmas.List.Edits.{sets, sets-eq}
use Rattle.std.proofs.Math.Seq.{take-append_seam}
use Rattle.terms.specs.ListLaws.{pick_elim}
use Rattle.text.specs.Text.{Put, put, put_byte, laid, Lays}
use Rattle.text.specs.Page.{Puts}
use Rattle.text.specs.declared.Page.{Page}
use Rattle.text.specs.TextLaws.{length_laid, length_after}

-- n counts bytes at the start of a buffer. The second part follows from the first: whoever takes these bytes needs both
abbrev pub Counts : ℕ → List ℕ → Type 0
Counts n x = (n ≤ length x) × (n ≡ length (take n x))

byte_within : (s : List ℕ) (at b : ℕ) → at ≤ length s → (put_byte s at b).next ≤ length s
byte_within s at b h =
    pick_elim (λ (p : Put). p.next ≤ length s) (ltb at (length s)) (λ e. let z = ltb-true at (length s) e in omega (arith, z)) (λ e. h)

byte_later : (s : List ℕ) (at b : ℕ) → at ≤ (put_byte s at b).next
byte_later s at b = pick_elim (λ (p : Put). at ≤ p.next) (ltb at (length s)) (λ e. omega arith) (λ e. omega arith)

laid_within : (t s : List ℕ) (at : ℕ) → at ≤ length s → (laid s at t).next ≤ length s
unfolding laid
laid_within [] s at h = h
laid_within (b ∷ t) s at h =
    let long : length (put_byte s at b).bytes ≡ length s = length_laid (b ∷ []) s at in
    let here = byte_within s at b h in
    let rest = laid_within t (put_byte s at b).bytes (put_byte s at b).next (omega (arith, long, here)) in
    omega (arith, long, rest)

laid_later : (t s : List ℕ) (at : ℕ) → at ≤ (laid s at t).next
unfolding laid
laid_later [] s at = omega arith
laid_later (b ∷ t) s at = omega (arith, byte_later s at b, laid_later t (put_byte s at b).bytes (put_byte s at b).next)

laid_whole : (t s : List ℕ) (at : ℕ) → (laid s at t).next < length s → laid s at t ≡ put (at + length t) (sets s at t)
unfolding laid
laid_whole [] s at h = rw (add-zero at)
laid_whole (b ∷ t) s at h =
    pick_elim
    (λ (p : Put).
    (laid p.bytes p.next t).next < length s → laid p.bytes p.next t ≡ put (at + suc (length t)) (sets (set s at b) (suc at) t))
    (ltb at (length s))
    (λ e ends. let z : at + 1 + length t ≡ at + suc (length t) = omega arith in
    laid_whole t (set s at b) (at + 1) (rw (length-set s at b) ends) ∙ rw (z, add-one at))
    (λ e ends. absurd (omega (arith, ltb-false at (length s) e, laid_later t s at, ends))) h

module _ {s x : List ℕ} {at r : ℕ} {t : List ℕ} (e : Lays s at t r x) where
  pub ends_within : at ≤ length s → Counts r x
  ends_within h =
      let n : r ≡ (laid s at t).next = ap (λ (p : Put). p.next) e.is in
      let w : r ≤ length x = omega (arith, n, length_after e, laid_within t s at h) in
      (w, omega (arith, w, length-take r x))

  pub ends_whole : r < length s → put r x ≡ put (at + length t) (sets s at t)
  ends_whole h =
      let n : r ≡ (laid s at t).next = ap (λ (p : Put). p.next) e.is in
      e.is ∙ laid_whole t s at (rw (← n) h)

-- a promise of this form leaves one place and one buffer
pub one_text : {s x y : List ℕ} {at r q : ℕ} {t : List ℕ} → Lays s at t r x → Lays s at t q y → put r x ≡ put q y
one_text e d = e.is ∙ sym d.is

-- and so does one on a page
pub one_page : {p q r : Page} {t : List ℕ} → Puts p t q → Puts p t r → put q.at q.out.now ≡ put r.at r.out.now
one_page e d = one_text e.lays d.lays

-- what was put from the buffer's start on is the text
pub whole_text : {s x : List ℕ} {r : ℕ} {t : List ℕ} → Lays s 0 t r x → r < length s → take r x ≡ t
whole_text {s} {x} {r} {t} e h =
    let w = ends_whole e h in
    let n : r ≡ 0 + length t = ap (λ (p : Put). p.next) w in
    let m : r ≡ length t = omega (arith, n) in
    let b : x ≡ sets s 0 t = ap (λ (p : Put). p.bytes) w in
    rw (m, b, sets-eq t s 0 (omega (arith, n, h))) (take-append_seam t (drop (0 + length t) s))
