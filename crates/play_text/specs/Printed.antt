-- The text that a kit's bytes print. Laws: PlayTheorem. Assumes nothing.
use Rattle.std.specs.Prelude.{Err, List, ℕ, length, ltb, eqb}
use Rattle.terms.specs.Lists.{pick}
use Rattle.terms.specs.Limits.{bytes_max}
use Rattle.terms.specs.Numbers.{kit_number_of}
use Rattle.terms.specs.declared.KitRefusal.TheVariants.{TooLong}
use Rattle.kit.specs.Reader.{check_of, settings_in}
use Rattle.play_lines.specs.Lines.{kit_line}
use Rattle.played.specs.declared.View.TheVariants.{Play}
use Rattle.played.specs.Views.{view_text}

-- the play of all events of accepted bytes, and `kit` with its number for refused ones
unfoldable pub printed_text : List ℕ → List ℕ
printed_text bytes =
    let number = kit_number_of (check_of bytes) in
    pick (eqb number 0) (view_text Play bytes (settings_in bytes) (settings_in bytes).count) (kit_line number)

-- what the program prints of its input
unfoldable pub program_text : List ℕ → List ℕ
program_text bytes = pick (ltb bytes_max (length bytes)) (kit_line (kit_number_of (Err TooLong))) (printed_text bytes)
