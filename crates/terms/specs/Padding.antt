-- A list in an array of n places: the list, then zeros. Its laws are beside it. Assumes nothing.
use Rattle.std.specs.Prelude.{◌≡◌, ℕ, zero, suc, ◌-◌, ◌<◌, ◌≤◌, List, [], ◌∷◌, ◌++◌, length, take, replicate, slice_index, slice_index_or, slice_set, refl}
use Rattle.std.proofs.Common.{sym, ◌∙◌, arith, length-append}
use Rattle.std.proofs.lemmas.List.{length-replicate, take-append-le}
use Rattle.std.proofs.Math.Seq.{take-append_seam, set-append_seam, append_snoc}
use Rattle.terms.specs.ListLaws.{length-snoc}

unfoldable pub pad : ℕ → List ℕ → List ℕ
pad n l = l ++ replicate (n - length l) 0

pub length_pad : (n : ℕ) (l : List ℕ) → length l ≤ n → length (pad n l) ≡ n
unfolding pad
length_pad n l h = omega (arith, length-append l (replicate (n - length l) 0), length-replicate {A = ℕ} (n - length l) 0)

pub take_pad : (n : ℕ) (l : List ℕ) → take (length l) (pad n l) ≡ l
unfolding pad
take_pad n l = take-append_seam l (replicate (n - length l) 0)

pub take_pad-le : (n k : ℕ) (l : List ℕ) → k ≤ length l → take k (pad n l) ≡ take k l
unfolding pad
take_pad-le n k l h = take-append-le k l (replicate (n - length l) 0) h

-- zeros are what stands past the end of a list
get_or_zeros : (n i : ℕ) → slice_index_or {A = ℕ} (replicate n 0) i 0 ≡ slice_index [] i
get_or_zeros zero i = refl
get_or_zeros (suc n) zero = refl
get_or_zeros (suc n) (suc i) = get_or_zeros n i

get_or_then_zeros : (n : ℕ) (l : List ℕ) (i : ℕ) → slice_index (l ++ replicate n 0) i ≡ slice_index l i
get_or_then_zeros n [] i = get_or_zeros n i
get_or_then_zeros n (x ∷ xs) zero = refl
get_or_then_zeros n (x ∷ xs) (suc i) = get_or_then_zeros n xs i

pub get_or_pad : (n : ℕ) (l : List ℕ) (i : ℕ) → slice_index (pad n l) i ≡ slice_index l i
unfolding pad
get_or_pad n l i = get_or_then_zeros (n - length l) l i

-- the next place is written
pub set_pad : (n : ℕ) (l : List ℕ) (q : ℕ) → length l < n → slice_set (pad n l) (length l) q ≡ pad n (l ++ (q ∷ []))
unfolding pad
set_pad n l q h =
    let left : n - length l ≡ suc (n - length (l ++ (q ∷ []))) = omega (arith, length-snoc l q) in
    rw left (set-append_seam l 0 (replicate (n - length (l ++ (q ∷ []))) 0) q ∙ sym (append_snoc l q (replicate (n - length (l ++ (q ∷ []))) 0)))

pub pad-nil : (n : ℕ) → pad n [] ≡ replicate n 0
unfolding pad
pad-nil n = let e : n - 0 ≡ n = omega arith in rw e
