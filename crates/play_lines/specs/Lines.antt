-- The lines that are printed, as bytes. Laws: LinesLaws. Assumes nothing.
use Rattle.std.specs.Prelude.{Option, Some, None, List, [], ◌∷◌, ◌++◌, ℕ, zero, suc, length, ltb}
use Rattle.terms.specs.Lists.{pick}
use Rattle.terms.specs.Numbers.{condition_word}
use Rattle.terms.specs.declared.Condition.{Condition}
use Rattle.text.specs.Text.{decimal}

-- a number after a space
unfoldable pub spaced : ℕ → List ℕ
spaced n = 32 ∷ decimal n

-- a line's end
abbrev pub newline : List ℕ
newline = 10 ∷ []

-- requests, each after a space
abbrev pub requests_text : List ℕ → List ℕ
requests_text [] = []
requests_text (q ∷ qs) = spaced q ++ requests_text qs

-- event number, clock, answer
unfoldable pub event_line : ℕ → ℕ → ℕ → List ℕ
event_line number clock answer = decimal number ++ (spaced clock ++ (spaced answer ++ newline))

-- "replica", number, condition
unfoldable pub replica_name : ℕ → Condition → List ℕ
replica_name x condition = (0x72 ∷ 0x65 ∷ 0x70 ∷ 0x6c ∷ 0x69 ∷ 0x63 ∷ 0x61 ∷ []) ++ (spaced x ++ ((32 ∷ []) ++ condition_word condition))

-- and then settled count, mark, settled requests
unfoldable pub settled_line : ℕ → Condition → ℕ → List ℕ → List ℕ
settled_line x condition mark list = replica_name x condition ++ (spaced (length list) ++ (spaced mark ++ (requests_text list ++ newline)))

-- the late tick, or "none"
abbrev pub due_text : Option ℕ → List ℕ
due_text None = 0x20 ∷ 0x6e ∷ 0x6f ∷ 0x6e ∷ 0x65 ∷ 10 ∷ []
due_text (Some due) = spaced due ++ newline

-- "late" with the late tick, or with "none"
unfoldable pub late_text : Option ℕ → List ℕ
late_text late = (0x6c ∷ 0x61 ∷ 0x74 ∷ 0x65 ∷ []) ++ due_text late

-- "kit" and the number of a refused kit
unfoldable pub kit_line : ℕ → List ℕ
kit_line number = (0x6b ∷ 0x69 ∷ 0x74 ∷ []) ++ (spaced number ++ newline)

-- m lines one after the other, the first being line i
unfoldable pub lines_from : ℕ → ℕ → (ℕ → List ℕ) → List ℕ
lines_from i zero line = []
lines_from i (suc m) line = line i ++ lines_from (suc i) m line

-- the piece of thing i of so many, and nothing where there is none
unfoldable pub piece_of : ℕ → (ℕ → List ℕ) → ℕ → List ℕ
piece_of many piece i = pick (ltb i many) (piece i) []
