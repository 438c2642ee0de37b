-- The room after the first n events of a kit's bytes, as text, and what the program prints of its input and its argument. Laws:
-- RoomTheorem. Assumes nothing.
use Rattle.std.specs.Prelude.{Option, Some, None, Err, List, [], ◌∷◌, ◌++◌, ℕ, length, ltb, eqb}
use Rattle.terms.specs.Lists.{pick}
use Rattle.terms.specs.Limits.{bytes_max}
use Rattle.terms.specs.Numbers.{kit_number_of}
use Rattle.terms.specs.declared.KitRefusal.TheVariants.{TooLong}
use Rattle.kit.specs.declared.Settings.{Settings}
use Rattle.kit.specs.Reader.{check_of, settings_in}
use Rattle.play_lines.specs.Lines.{spaced, kit_line}
use Rattle.played.specs.declared.View.TheVariants.{Room}
use Rattle.played.specs.Views.{view_text}
use Rattle.room_text.specs.Asked.{is_number, number_asked}

-- "the kit has", so many, "events"
unfoldable pub past_text : ℕ → List ℕ
past_text count =
    (0x74 ∷ 0x68 ∷ 0x65 ∷ 0x20 ∷ 0x6b ∷ 0x69 ∷ 0x74 ∷ 0x20 ∷ 0x68 ∷ 0x61 ∷ 0x73 ∷ [])
    ++ (spaced count ++ (0x20 ∷ 0x65 ∷ 0x76 ∷ 0x65 ∷ 0x6e ∷ 0x74 ∷ 0x73 ∷ 0xa ∷ []))

-- an accepted kit with these settings
unfoldable pub moment_text : List ℕ → Settings → ℕ → List ℕ
moment_text bytes s n = pick (ltb s.count n) (past_text s.count) (view_text Room bytes s n)

-- any bytes: `kit` with its number for refused ones
unfoldable pub printed_room : List ℕ → ℕ → List ℕ
printed_room bytes n =
    let number = kit_number_of (check_of bytes) in
    pick (eqb number 0) (moment_text bytes (settings_in bytes) n) (kit_line number)

-- ---- the program

unfoldable pub input_room : List ℕ → ℕ → List ℕ
input_room bytes n = pick (ltb bytes_max (length bytes)) (kit_line (kit_number_of (Err TooLong))) (printed_room bytes n)

-- "the argument is not a number of events"
abbrev pub no_number_text : List ℕ
no_number_text =
    0x74 ∷ 0x68 ∷ 0x65 ∷ 0x20 ∷ 0x61 ∷ 0x72 ∷ 0x67 ∷ 0x75 ∷ 0x6d ∷ 0x65 ∷ 0x6e ∷ 0x74 ∷ 0x20 ∷ 0x69 ∷ 0x73 ∷ 0x20 ∷ 0x6e ∷ 0x6f ∷ 0x74 ∷ 0x20 ∷
    0x61 ∷ 0x20 ∷ 0x6e ∷ 0x75 ∷ 0x6d ∷ 0x62 ∷ 0x65 ∷ 0x72 ∷ 0x20 ∷ 0x6f ∷ 0x66 ∷ 0x20 ∷ 0x65 ∷ 0x76 ∷ 0x65 ∷ 0x6e ∷ 0x74 ∷ 0x73 ∷ 0xa ∷ []

unfoldable pub asked_room : List ℕ → List ℕ → List ℕ
asked_room bytes word = pick (is_number word) (input_room bytes (number_asked word)) no_number_text

-- with no argument, after the last event
unfoldable pub program_room : List ℕ → Option (List ℕ) → List ℕ
program_room bytes None = input_room bytes (settings_in bytes).count
program_room bytes (Some word) = asked_room bytes word
