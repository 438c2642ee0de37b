-- Laws of Asked: a word from one of its bytes on, and numbers that are cut off at a bound. Assumes nothing.
use Rattle.std.specs.Prelude.{◌≡◌, refl, Bool, not, ◌==◌, ltb, zero, suc, true, ◌&&◌, List, [], ◌∷◌, ℕ, ◌+◌, ◌≤◌, ◌<◌, min, length, get_or, drop}
use Rattle.std.specs.List.{list_all}
use Rattle.std.proofs.Common.{ne_eqb, lt-ltb, sym, ap, ◌∙◌, add-one, arith, drop_of_length-le, drop-cons}
use Rattle.terms.specs.Lists.{all_of}
use Rattle.room_text.specs.Asked.{is_digit, with_digit, with_digits, asked_max}

pub digits_all : (word : List ℕ) → list_all is_digit word ≡ all_of word is_digit
digits_all [] = refl
digits_all (byte ∷ word) = ap (λ (b : Bool). is_digit byte && b) (digits_all word)

-- a word with some byte
pub some_byte : (n : ℕ) → not (n == 0) ≡ ltb 0 n
some_byte zero = refl
some_byte (suc n) = rw (ne_eqb (suc n) 0 (λ e. omega arith), lt-ltb 0 (suc n) (omega arith))

pub digits_from : (word : List ℕ) (i : ℕ) → i < length word → all_of (drop i word) is_digit ≡ (is_digit (get_or word i 0) && all_of (drop (i + 1) word) is_digit)
digits_from word i h = rw (drop-cons word i 0 h, add-one i)

pub digits_end : (word : List ℕ) (i : ℕ) → length word ≤ i → all_of (drop i word) is_digit ≡ true
digits_end word i h = rw (drop_of_length-le word h)

pub asked_from : (n : ℕ) (word : List ℕ) (i : ℕ) → i < length word → with_digits n (drop i word) ≡ with_digits (with_digit n (get_or word i 0)) (drop (i + 1) word)
asked_from n word i h = rw (drop-cons word i 0 h, add-one i)

pub asked_end : (n : ℕ) (word : List ℕ) (i : ℕ) → length word ≤ i → with_digits n (drop i word) ≡ n
asked_end n word i h = rw (drop_of_length-le word h)

-- cut off, and then one more digit
cut_digit : (n byte : ℕ) → min (with_digit (min n asked_max) byte) asked_max ≡ min (with_digit n byte) asked_max
cut_digit n byte = omega arith

pub cut_digits : (word : List ℕ) (n : ℕ) → min (with_digits (min n asked_max) word) asked_max ≡ min (with_digits n word) asked_max
cut_digits [] n = omega arith
cut_digits (byte ∷ word) n =
    sym (cut_digits word (with_digit (min n asked_max) byte))
    ∙ ap (λ (m : ℕ). min (with_digits m word) asked_max) (cut_digit n byte)
    ∙ cut_digits word (with_digit n byte)
