-- Two results that a promise of this crate allows are equal: the answer and every lent number or byte. Assumes nothing.
use Rattle.std.specs.Prelude.{◌≡◌, List, ℕ}
use Rattle.std.proofs.Common.{sym, ◌∙◌}
use Rattle.kit.specs.Reader.{Stepped}
use Rattle.kit.specs.Writer.{Outcome, KitWritten, KitRead}
use Rattle.kit.specs.declared.Next.{Next}

pub stepped_one : {bytes list l₁ l₂ : List ℕ} {at : ℕ} {r₁ r₂ : Next} → Stepped bytes at list l₁ r₁ → Stepped bytes at list l₂ r₂ → (r₁ ≡ r₂) × (l₁ ≡ l₂)
stepped_one v w = (v.answer ∙ sym w.answer, v.filed ∙ sym w.filed)

pub written_one : {numbers out o₁ o₂ : List ℕ} {r₁ r₂ : Outcome} → KitWritten numbers out o₁ r₁ → KitWritten numbers out o₂ r₂ → (r₁ ≡ r₂) × (o₁ ≡ o₂)
written_one v w = (v.answer ∙ sym w.answer, v.bytes ∙ sym w.bytes)

pub read_one : {bytes out o₁ o₂ : List ℕ} {r₁ r₂ : Outcome} → KitRead bytes out o₁ r₁ → KitRead bytes out o₂ r₂ → (r₁ ≡ r₂) × (o₁ ≡ o₂)
read_one v w = (v.answer ∙ sym w.answer, v.numbers ∙ sym w.numbers)
