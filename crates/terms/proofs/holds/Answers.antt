-- `holds`: what is found from the newest end on is what the list holds. Assumes nothing.
use Rattle.std.specs.List.{list_any}
use Rattle.std.proofs.Common.{◌≡◌, ◌==◌, ◌∙◌, reverse, rules, arith}
use Rattle.std.proofs.lemmas.Grind.{common_steps}
use Rattle.std.proofs.lemmas.Iterator.Adapters.{YieldsList-from_rev_slice}
use Rattle.std.proofs.lemmas.Iterator.Search.{any_from_yields_List}
use Rattle.terms.proofs.Searching.{holds_newest}
use Rattle.terms.proofs.holds.Goals as goal

pub returns : goal.returns
returns c =
    let list = c.args.list.now in
    let e : c.any.result ≡ list_any (λ noted. c.args.request == noted) (reverse list) =
    any_from_yields_List (λ noted. c.args.request == noted) _ _ _ c.any.ensures.ran (YieldsList-from_rev_slice list (grind (arith, common_steps)))
    (λ x b q k. search rules) in
    e ∙ holds_newest c.args.request list
