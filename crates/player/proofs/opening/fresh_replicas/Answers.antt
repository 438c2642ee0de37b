-- `fresh_replicas`: what the map made of each number of the table. Assumes nothing.
use Rattle.std.proofs.Common.{◌≡◌, ◌∙◌, sym, ℕ, ◌<◌, get_or, arith, ext_get_or}
use Rattle.std.proofs.lemmas.Grind.{common_steps}
use Rattle.terms.specs.Limits.{replicas_max}
use Rattle.terms.specs.Kit.{marks_faulty}
use Rattle.terms.specs.Tabulate.{tab, length_tab, get_or_tab}
use Rattle.replica.specs.declared.Replica.{Replica}
use Rattle.replica.specs.Record.{fresh_record}
use Rattle.player.specs.Opening.{fresh_replicas}
use Rattle.player.specs.Turn.{no_replica}
use Rattle.player.proofs.opening.fresh_replicas.Goals as goal

pub returns : goal.returns
unfolding fresh_replicas
returns c =
    let m = c.map.ensures.items in
    let f : ℕ → Replica = λ x. fresh_record (marks_faulty (get_or c.args.table.now x 0)) in
    ext_get_or no_replica c.map.result (tab replicas_max f) (m.long ∙ sym (length_tab replicas_max f))
    (λ i h.
    let below : i < replicas_max = rw m.long at h in
    let called = m.at i 0 no_replica below in
    let made : get_or c.map.result i no_replica ≡ f i = grind (arith, common_steps) in
    made ∙ sym (get_or_tab replicas_max f i no_replica below))
