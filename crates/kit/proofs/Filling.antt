-- A turn of the loop that fills a lent list, on plain values: what is still to be stored makes of the list as it stands what all that is to be
-- stored makes of the list as it was. Assumes nothing.
use Rattle.std.proofs.Common.{◌≡◌, refl, ap, ◌∙◌, List, [], ◌++◌, ℕ, zero, suc, ◌+◌, ◌-◌, ◌<◌, ◌≤◌, add-one, arith, length, set, drop, drop_of_length-le, append-nil, zero-add}
use Rattle.std.proofs.Math.Seq.{sets, sets-eq}
use Rattle.kit.specs.Reader.{taken_at, stretch_at, Stretched}

pub stretch_length : (m : ℕ) (s : List ℕ) (at : ℕ) → length (stretch_at m s at).numbers ≡ m
stretch_length zero s at = refl
stretch_length (suc m) s at = ap suc (stretch_length m s (taken_at s at).next)

pub record Filling (s : List ℕ) (at : ℕ) (out₀ out : List ℕ) (i next : ℕ) : Type 0 where
  pub within : i ≤ length out₀
  pub ends : (stretch_at (length out₀ - i) s next).next ≡ (stretch_at (length out₀) s at).next
  pub same : sets out i (stretch_at (length out₀ - i) s next).numbers ≡ sets out₀ 0 (stretch_at (length out₀) s at).numbers

module _ {s : List ℕ} {at : ℕ} {out₀ out : List ℕ} {i next : ℕ} (f : Filling s at out₀ out i next) where
  pub filling_next : i < length out₀ → Filling s at out₀ (set out i (taken_at s next).value) (i + 1) (taken_at s next).next
  filling_next h =
      let one : length out₀ - i ≡ suc (length out₀ - suc i) = omega arith in
      record { within = omega arith; ends = rw (add-one i) (rw one at f.ends); same = rw (add-one i) (rw one at f.same) }

  pub filling_last : length out₀ ≤ i → Stretched (stretch_at (length out₀) s at) out next
  filling_last h =
      let none : length out₀ - i ≡ 0 = omega arith in
      let all = (stretch_at (length out₀) s at).numbers in
      let long : length all ≡ length out₀ = stretch_length (length out₀) s at in
      let over : sets out₀ 0 all ≡ all ++ drop (length all) out₀ = sets-eq all out₀ 0 (omega arith) ∙ rw (zero-add (length all)) in
      let rest : drop (length all) out₀ ≡ [] = drop_of_length-le out₀ (omega arith) in
      record { next = rw none at f.ends; filled = (rw none at f.same) ∙ over ∙ rw rest (append-nil all) }
