-- The loop of `put`, on plain values: out is what the slice holds, left what is left of the number, i the place for it.
-- What holds at the loop's head (`Head`) is that the rest's spelling, stored from i on, gives what the whole spelling gives stored from `at` on.
-- Assumes nothing.
use Rattle.std.proofs.Common.{◌≡◌, refl, ◌∙◌, List, ℕ, ◌+◌, ◌*◌, ◌^◌, ◌<◌, ◌≤◌, length, set}
use Rattle.std.proofs.Math.Seq.{sets, sets-eq}
use Rattle.number.specs.Number.{spelling, spelling_in, over}
use Rattle.number.proofs.NumberLaws.{spelling_in_last}

-- what holds at the loop's head; the rest has at most `more` groups after its first
pub record Head (out₀ : List ℕ) (at n : ℕ) (out : List ℕ) (left i : ℕ) : Type 0 where
  pub more : ℕ
  pub small : left < 16 * 128 ^ more
  pub long : length out ≡ length out₀
  pub ends : i + length (spelling_in more left) ≡ at + length (spelling n)
  pub same : sets out i (spelling_in more left) ≡ sets out₀ at (spelling n)

pub head_first : (out : List ℕ) (at n : ℕ) → n < 2 ^ 32 → Head out at n out n at
unfolding spelling
head_first out at n h = record { more = 4; small = h; long = refl; ends = refl; same = refl }

module _ {out₀ : List ℕ} {at n : ℕ} {out : List ℕ} {left i : ℕ} (head : Head out₀ at n out left i) (fits : at + length (spelling n) ≤ length out₀) where
  pub last : left < 128 → (i + 1 ≡ at + length (spelling n)) × (set out i left ≡ over out₀ at (spelling n))
  last h =
      let e = spelling_in_last head.more left h in
      (rw e at head.ends, (rw e at head.same) ∙ sets-eq (spelling n) out₀ at fits)
