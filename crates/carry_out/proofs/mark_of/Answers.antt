-- `mark_of`: the fold is the mark of the list that it goes over. Assumes nothing.
use Rattle.std.specs.List.{fold}
use Rattle.std.proofs.Common.{◌≡◌, ◌∙◌, rules}
use Rattle.std.proofs.lemmas.Iterator.{YieldsList-from_slice}
use Rattle.std.proofs.lemmas.Iterator.Consumers.{fold_from_yields_List}
use Rattle.terms.specs.Mark.{next_mark}
use Rattle.carry_out.proofs.Turns.{marked}
use Rattle.carry_out.proofs.mark_of.Goals as goal

pub returns : goal.returns
returns c =
    let list = c.args.list.now in
    let e : c.fold.result ≡ fold next_mark 0 list =
    fold_from_yields_List _ next_mark 0 _ c.fold.ensures.ran (YieldsList-from_slice list (search rules)) (λ a x b q k. search rules) in
    e ∙ marked list
