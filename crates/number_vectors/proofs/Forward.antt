-- A try goes on further on. Assumes nothing.
use Rattle.std.proofs.Common.{◌≡◌, refl, Ok, Err, List, ℕ, ◌<◌, length, arith}
use Rattle.number.specs.Number.{Reading, number_at}
use Rattle.number.proofs.NumberLaws.{moves_on_lem}
use Rattle.number_vectors.specs.Tries.{place_after}

after : (s : List ℕ) (at : ℕ) (found : Reading) → number_at s at ≡ found → place_after (length s) found < length s → at < place_after (length s) found
after s at (Ok found) e h = (moves_on_lem s at found.value found.next e).0
after s at (Err fault) e h = absurd (omega arith)

pub forward : (s : List ℕ) (at : ℕ) → place_after (length s) (number_at s at) < length s → at < place_after (length s) (number_at s at)
forward s at h = after s at (number_at s at) refl h
