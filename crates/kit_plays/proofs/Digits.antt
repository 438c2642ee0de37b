-- The loop of `put_hex`, on plain values: l are the digits, i the place among them, `high` the digit that waits, if one does. What holds at the loop's
-- head (`Head`): the bytes that the digits from i on spell, with the one that waits, put from here on, give what all of them give from the start.
-- Assumes nothing.
use Rattle.std.proofs.Common.{◌≡◌, Option, Some, None, IfSome, List, [], ◌∷◌, ◌++◌, ℕ, ◌+◌, ◌*◌, ◌<◌, ◌≤◌, length, get_or, drop, refl, ◌∙◌, drop_of_length-le}
use Rattle.text.specs.Page.{Puts}
use Rattle.text.specs.PageLaws.{puts_none}
use Rattle.text.specs.declared.Page.{Page}
use Rattle.play_lines.specs.LinesLaws.{Awaits, awaits_next, awaits_over}
use Rattle.kit_plays.specs.Hex.{digit_of, waiting, pair_bytes, hex_from, hex_next, digit_below}

pub record Head (p : Page) (l : List ℕ) (q : Page) (high : Option ℕ) (i : ℕ) : Type 0 where
  pub rest : Awaits p (hex_from None l) q (hex_from high (drop i l))
  pub digit : IfSome high (λ d. d < 16)

pub some_digit : (c d : ℕ) → Some d ≡ digit_of c → d < 16
some_digit c d e = rw (← e) at (digit_below c)

-- a turn, by the byte c at the place
module _ (l : List ℕ) (i : ℕ) (h : i < length l) where
  abbrev c : ℕ
  c = get_or l i 0

  passed_over : (high : Option ℕ) → None ≡ digit_of c → hex_from high (drop i l) ≡ [] ++ hex_from high (drop (i + 1) l)
  unfolding waiting pair_bytes
  passed_over high e = hex_next l i high h ∙ rw (← e) refl

  one_alone : (d : ℕ) → Some d ≡ digit_of c → hex_from None (drop i l) ≡ [] ++ hex_from (Some d) (drop (i + 1) l)
  unfolding waiting pair_bytes
  one_alone d e = hex_next l i None h ∙ rw (← e) refl

  two_digits : (high d : ℕ) → Some d ≡ digit_of c → hex_from (Some high) (drop i l) ≡ ((16 * high + d) ∷ []) ++ hex_from None (drop (i + 1) l)
  unfolding waiting pair_bytes
  two_digits high d e = hex_next l i (Some high) h ∙ rw (← e) refl

module _ {p : Page} {l : List ℕ} {q : Page} {high : Option ℕ} {i : ℕ} (head : Head p l q high i) where
  pub over : length l ≤ i → Puts p (hex_from None l) q
  unfolding hex_from
  over h = awaits_over head.rest (rw (drop_of_length-le l h))

  pub waits_below : (w : ℕ) → high ≡ Some w → w < 16
  waits_below w z = rw z at head.digit

  module _ (h : i < length l) where
    pub pass : None ≡ digit_of (get_or l i 0) → Head p l q high (i + 1)
    pass e = record { rest = awaits_next head.rest (passed_over l i h high e) (puts_none q); digit = head.digit }

    pub first : high ≡ None → (d : ℕ) → Some d ≡ digit_of (get_or l i 0) → Head p l q (Some d) (i + 1)
    first z d e = record { rest = awaits_next (rw z at head.rest) (one_alone l i h d e) (puts_none q); digit = some_digit _ d e }

    pub second : (w : ℕ) → high ≡ Some w → (d : ℕ) → Some d ≡ digit_of (get_or l i 0)
        → {r : Page} → Puts q ((16 * w + d) ∷ []) r → Head p l r None (i + 1)
    second w z d e p = record { rest = awaits_next (rw z at head.rest) (two_digits l i h w d e) p; digit = tt }
