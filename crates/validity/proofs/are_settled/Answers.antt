-- `are_settled`: one more passes, with the mark after it; where one is not settled, not all are. Assumes nothing.
use Rattle.std.proofs.Common.{◌≡◌, ◌<◌, ℕ, List, length, suc, get_or, take, sym, ◌∙◌, add-one, arith, true, false}
use Rattle.terms.specs.Mark.{mark_of, next_mark}
use Rattle.terms.specs.MarkLaws.{mark_next}
use Rattle.terms.specs.ListLaws.{and_both}
use Rattle.validity.specs.Entries.{all_below-not}
use Rattle.validity.specs.Validity.{is_settled_on}
use Rattle.validity.proofs.are_settled.Goals as goal

-- the mark after one more request
marked : (list : List ℕ) (i : ℕ) {mark old : ℕ} → i < length list → old ≡ mark_of (take i list)
    → mark ≡ next_mark old (get_or list i 0) → mark ≡ mark_of (take (suc i) list)
marked list i h e n = n ∙ rw e (sym (mark_next list i h))

pub loop-i-preserved : goal.loop-i-preserved
unfolding is_settled_on
loop-i-preserved c =
    let h = c.loop-i in
    let m = marked c.args.list.now h.i (omega arith) h.invariant.marked c.next_mark-mark.ensures in
    let passes : is_settled_on c.args.book.now c.args.roles.now c.args.list.now h.i ≡ true = rw (← m, ← add-one h.i) (sym c.if-not-is_settled.ensures) in
    record {
      settled = rw (add-one h.i) (and_both passes h.invariant.settled);
      marked = rw (add-one h.i) m;
    }

pub returns-then-not-is_settled : goal.returns-then-not-is_settled
unfolding is_settled_on
returns-then-not-is_settled c =
    let h = c.loop-i in
    let m = marked c.args.list.now h.i (omega arith) h.invariant.marked c.next_mark-mark.ensures in
    let fails : is_settled_on c.args.book.now c.args.roles.now c.args.list.now h.i ≡ false = rw (← m, ← add-one h.i) (sym c.is_settled.ensures ∙ c.if-not-is_settled.true) in
    sym (all_below-not (length c.args.list.now) (is_settled_on c.args.book.now c.args.roles.now c.args.list.now) h.i (omega arith) fails)
