-- What is left of the word, put from here on, gives what the whole word gives put from the start. Assumes nothing.
use Rattle.std.proofs.Common.{◌≡◌, ◌≤◌, length, drop}
use Rattle.text.specs.Text.{laid}
use Rattle.text.proofs.Page.put_word.Given as goal

abbrev pub invariant-loop-byte : goal.invariant-loop-byte
invariant-loop-byte l =
    record {
      within : l.byte-index ≤ length l.word;
      buffer : l.self.out.ghost_name ≡ l.fn.self.out.ghost_name;
      same : laid l.fn.self.out.now l.fn.self.at l.word ≡ laid l.self.out.now l.self.at (drop l.byte-index l.word);
    }
