-- `write_kit`: a kit has so few bytes that their count goes beside the kit number. Assumes nothing.
use Rattle.ritungkale_writer.specs.Lengths.{write_few}
use Rattle.ritungkale_writer.proofs.ritungkale_write_kit.Goals as goal

pub pack-requires : goal.pack-requires
pack-requires c = rw c.write_kit.ensures.answer (write_few _ _)
