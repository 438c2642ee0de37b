-- Where a try goes on: after the number that was read, or at the end of the bytes after a refusal. Assumes nothing.
use Rattle.std.specs.Prelude.{Ok, Err, ℕ}
use Rattle.number.specs.Number.{Reading}

abbrev pub place_after : ℕ → Reading → ℕ
place_after end (Ok found) = found.next
place_after end (Err fault) = end
