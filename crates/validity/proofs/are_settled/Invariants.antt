-- `are_settled`: all below i are settled, and the mark is that of the first i. Assumes nothing.
use Rattle.std.proofs.Common.{◌≡◌, true, take}
use Rattle.terms.specs.Lists.{all_below}
use Rattle.terms.specs.Mark.{mark_of}
use Rattle.validity.specs.Validity.{is_settled_on}
use Rattle.validity.proofs.are_settled.Given as goal

abbrev pub invariant-loop-i : goal.invariant-loop-i
invariant-loop-i l =
    record {
      settled : all_below l.i (is_settled_on l.book l.roles l.list) ≡ true;
      marked : l.mark ≡ mark_of (take l.i l.list);
    }
