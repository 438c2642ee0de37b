-- Laws of Lines: texts that are put line by line, and lists read in part. Assumes nothing.
use Rattle.std.specs.Prelude.{◌≡◌, refl, List, [], ◌∷◌, ◌++◌, length, get_or, drop, ℕ, zero, suc, ◌+◌, ◌-◌, ◌≤◌, ◌<◌}
use Rattle.std.proofs.Common.{◌∙◌, append_assoc, le_of_suc-le-suc, not-suc-le-zero, drop_of_length-le, drop-cons, arith, lt-ltb, le-ltb}
use Rattle.std.proofs.Math.Path.{sym, ap}
use Rattle.std.proofs.Math.Numerals.{add-one}
use Rattle.text.specs.Text.{Put, laid, Lays}
use Rattle.text.specs.TextLaws.{laid_append, length_after}
use Rattle.text.specs.Page.{Puts}
use Rattle.text.specs.PageLaws.{puts_as, puts_none}
use Rattle.text.specs.declared.Page.{Page}
use Rattle.play_lines.specs.Lines.{spaced, requests_text, lines_from, piece_of}

-- ---- a text that is partly put: what is still to come, put from here on, gives what the whole gives from the start

pub record Rest (s : List ℕ) (at : ℕ) (t x : List ℕ) (r : ℕ) (u : List ℕ) : Type 0 where
  pub long : length x ≡ length s
  pub same : laid s at t ≡ laid x r u

pub rest_start : (s : List ℕ) (at : ℕ) {t u : List ℕ} → t ≡ u → Rest s at t s at u
rest_start s at e = record { long = refl; same = ap (laid s at) e }

module _ {s : List ℕ} {at : ℕ} {t x : List ℕ} {r : ℕ} {u : List ℕ} (e : Rest s at t x r u) where
  pub rest_next : {v w y : List ℕ} {q : ℕ} → u ≡ v ++ w → Lays x r v q y → Rest s at t y q w
  rest_next {v} {w} d p =
      record {
        long = length_after p ∙ e.long;
        same = e.same ∙ ap (laid x r) d ∙ laid_append v w x r ∙ ap (λ (z : Put). laid z.bytes z.next w) (sym p.is);
      }

  pub rest_over : u ≡ [] → Lays s at t r x
  unfolding laid
  rest_over d = record { is = sym (e.same ∙ ap (laid x r) d) }

-- the same of a page: t put on page p gives what u gives put on q
pub record Awaits (p : Page) (t : List ℕ) (q : Page) (u : List ℕ) : Type 0 where
  pub same : q.out.ghost_name ≡ p.out.ghost_name
  pub rest : Rest p.out.now p.at t q.out.now q.at u

module _ {p : Page} {t : List ℕ} {q : Page} {u : List ℕ} (e : Awaits p t q u) where
  pub awaits_next : {v w : List ℕ} {r : Page} → u ≡ v ++ w → Puts q v r → Awaits p t r w
  awaits_next d n = record { same = n.same ∙ e.same; rest = rest_next e.rest d n.lays }

  pub awaits_over : u ≡ [] → Puts p t q
  awaits_over d = record { same = e.same; lays = rest_over e.rest d }

-- ---- one line more

-- a thing that there is has its piece
pub piece_there : (many : ℕ) (piece : ℕ → List ℕ) (i : ℕ) → i < many → piece_of many piece i ≡ piece i
unfolding piece_of
piece_there many piece i h = rw (lt-ltb i many h)

-- and one that there is not has none
pub piece_past : (many : ℕ) (piece : ℕ → List ℕ) (i : ℕ) → many ≤ i → piece_of many piece i ≡ []
unfolding piece_of
piece_past many piece i h = rw (le-ltb i many h)

-- put on a page
pub puts_there : {p q : Page} (many : ℕ) (piece : ℕ → List ℕ) (i : ℕ) → i < many → Puts p (piece i) q → Puts p (piece_of many piece i) q
puts_there many piece i h d = puts_as d (sym (piece_there many piece i h))

pub puts_past : (p : Page) (many : ℕ) (piece : ℕ → List ℕ) (i : ℕ) → many ≤ i → Puts p (piece_of many piece i) p
puts_past p many piece i h = puts_as (puts_none p) (sym (piece_past many piece i h))

module _ (i n : ℕ) (line : ℕ → List ℕ) where
  pub lines_next : i < n → lines_from i (n - i) line ≡ line i ++ lines_from (i + 1) (n - (i + 1)) line
  unfolding lines_from
  lines_next h = let e : n - i ≡ suc (n - (i + 1)) = omega arith in rw (e, add-one i)

  pub lines_over : n ≤ i → lines_from i (n - i) line ≡ []
  unfolding lines_from
  lines_over h = let e : n - i ≡ 0 = omega arith in rw e

pub lines_start : (n : ℕ) (line : ℕ → List ℕ) → lines_from 0 n line ≡ lines_from 0 (n - 0) line
lines_start n line = let e : n ≡ n - 0 = omega arith in ap (λ (m : ℕ). lines_from 0 m line) e

-- the same lines, said in another way
pub lines_ext : (m i : ℕ) (f g : ℕ → List ℕ) → ((k : ℕ) → k < i + m → f k ≡ g k) → lines_from i m f ≡ lines_from i m g
unfolding lines_from
lines_ext zero i f g e = refl
lines_ext (suc m) i f g e = rw (e i (omega arith), lines_ext m (suc i) f g (λ k h. e k (omega (arith, h))))

lines_append : (a b i : ℕ) (line : ℕ → List ℕ) → lines_from i (a + b) line ≡ lines_from i a line ++ lines_from (i + a) b line
unfolding lines_from
lines_append zero b i line = let here : i + 0 ≡ i = omega arith in let few : 0 + b ≡ b = omega arith in rw (here, few)
lines_append (suc a) b i line =
    let many : suc a + b ≡ suc (a + b) = omega arith in
    let there : i + suc a ≡ suc i + a = omega arith in
    rw (many, there, lines_append a b (suc i) line) (sym (append_assoc (line i) (lines_from (suc i) a line) (lines_from (suc i + a) b line)))

-- the first n of more lines, and the others behind them
pub lines_at : (n count : ℕ) (line : ℕ → List ℕ) → n ≤ count → lines_from 0 count line ≡ lines_from 0 n line ++ lines_from n (count - n) line
lines_at n count line l =
    let sum : count ≡ n + (count - n) = omega arith in
    let there : 0 + n ≡ n = omega arith in
    ap (λ (m : ℕ). lines_from 0 m line) sum ∙ lines_append n (count - n) 0 line ∙ ap (λ (m : ℕ). lines_from 0 n line ++ lines_from m (count - n) line) there

-- the same lines, from a number on that is one higher
pub lines_higher : (m i : ℕ) (f g : ℕ → List ℕ) → ((k : ℕ) → i ≤ k → f k ≡ g (suc k)) → lines_from i m f ≡ lines_from (suc i) m g
unfolding lines_from
lines_higher zero i f g e = refl
lines_higher (suc m) i f g e = rw (e i (omega arith), lines_higher m (suc i) f g (λ k h. e k (omega arith)))

-- one request more
pub requests_next : (l : List ℕ) (i : ℕ) → i < length l → requests_text (drop i l) ≡ spaced (get_or l i 0) ++ requests_text (drop (i + 1) l)
requests_next l i h = rw (drop-cons l i 0 h, add-one i)

pub requests_over : (l : List ℕ) (i : ℕ) → length l ≤ i → requests_text (drop i l) ≡ []
requests_over l i h = rw (drop_of_length-le l h)

-- the requests of a list one after the other
requests_from : (m i : ℕ) (l : List ℕ) → i + m ≡ length l → requests_text (drop i l) ≡ lines_from i m (λ k. spaced (get_or l k 0))
unfolding lines_from
requests_from zero i l e = requests_over l i (omega arith)
requests_from (suc m) i l e =
    requests_next l i (omega arith) ∙ rw (add-one i) (ap (λ (t : List ℕ). spaced (get_or l i 0) ++ t) (requests_from m (suc i) l (omega arith)))

pub requests_each : (l : List ℕ) → lines_from 0 (length l) (λ k. spaced (get_or l k 0)) ≡ requests_text l
requests_each l = sym (requests_from (length l) 0 l (omega arith))

-- ---- lists

-- what stands in a list does not hang on what would stand past its end
pub get_d_any {ℓ} : {A : Type ℓ} (l : List A) (i : ℕ) (d e : A) → i < length l → get_or l i d ≡ get_or l i e
get_d_any [] i d e h = absurd (not-suc-le-zero h)
get_d_any (x ∷ xs) zero d e h = refl
get_d_any (x ∷ xs) (suc i) d e h = get_d_any xs i d e (le_of_suc-le-suc h)
