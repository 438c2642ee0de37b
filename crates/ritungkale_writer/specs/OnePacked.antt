-- Two results that a promise of this crate allows are equal: the number and every lent byte or number. Assumes nothing.
use Rattle.std.specs.Prelude.{◌≡◌, List, ℕ}
use Rattle.std.proofs.Common.{sym, ◌∙◌}
use Rattle.ritungkale_writer.specs.Packed.{PackedWrite, PackedRead}

pub write_one : {numbers out o₁ o₂ : List ℕ} {r₁ r₂ : ℕ} → PackedWrite numbers out o₁ r₁ → PackedWrite numbers out o₂ r₂ → (r₁ ≡ r₂) × (o₁ ≡ o₂)
write_one v w = (v.answer ∙ sym w.answer, v.bytes ∙ sym w.bytes)

pub read_one : {bytes out o₁ o₂ : List ℕ} {r₁ r₂ : ℕ} → PackedRead bytes out o₁ r₁ → PackedRead bytes out o₂ r₂ → (r₁ ≡ r₂) × (o₁ ≡ o₂)
read_one v w = (v.answer ∙ sym w.answer, v.numbers ∙ sym w.numbers)
