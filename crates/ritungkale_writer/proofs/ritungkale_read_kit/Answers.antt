-- `read_kit`: a kit has so few numbers that their count goes beside the kit number. Assumes nothing.
use Rattle.std.proofs.Common.{arith}
use Rattle.ritungkale_writer.specs.Lengths.{read_few}
use Rattle.ritungkale_writer.proofs.ritungkale_read_kit.Goals as goal

pub pack-requires : goal.pack-requires
pack-requires c = rw c.read_kit.ensures.answer (read_few c.args.bytes.now _ (λ i. omega (arith, c.type_inv.bytes i)))
