-- `number_asked`: the rest of the digits behind what is read gives what all of them give. Assumes nothing.
use Rattle.std.proofs.Common.{◌≡◌, ◌≤◌, min, length, drop}
use Rattle.room_text.specs.Asked.{with_digits, asked_max}
use Rattle.room_text.proofs.number_asked.Given as goal

abbrev pub invariant-loop-byte : goal.invariant-loop-byte
invariant-loop-byte l =
    record {
      within : l.byte-index ≤ length l.word;
      few : l.n ≤ asked_max;
      same : min (with_digits 0 l.word) asked_max ≡ min (with_digits l.n (drop l.byte-index l.word)) asked_max;
    }
