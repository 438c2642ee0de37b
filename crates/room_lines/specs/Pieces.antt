-- The pieces of the lines that show a room, as bytes. Laws: PieceLaws. Assumes nothing.
use Rattle.std.specs.Prelude.{Option, Some, None, Bool, false, not, ◌||◌, List, [], ◌∷◌, ◌++◌, ℕ, zero, suc, ◌/◌, ◌%◌, length, get_or, eqb}
use Rattle.terms.specs.Limits.{names, counters}
use Rattle.terms.specs.Lists.{pick}
use Rattle.terms.specs.Numbers.{content_numbers}
use Rattle.terms.specs.declared.Condition.{Condition}
use Rattle.terms.specs.declared.Content.{Content}
use Rattle.text.specs.Text.{decimal}
use Rattle.play_lines.specs.Lines.{spaced, newline, replica_name, late_text}

-- ---- lists

-- "-" stands for nothing
abbrev pub dash : List ℕ
dash = 45 ∷ []

-- numbers, each after a comma
abbrev pub commas : List ℕ → List ℕ
commas [] = []
commas (n ∷ ns) = ((44 ∷ []) ++ decimal n) ++ commas ns

-- numbers with commas between them
unfoldable pub listed : List ℕ → List ℕ
listed [] = dash
listed (n ∷ ns) = decimal n ++ commas ns

-- each element of a list in its turn, with its number, the first being number i
abbrev pub numbered {ℓ} : {A : Type ℓ} → (ℕ → A → List ℕ) → ℕ → List A → List ℕ
numbered text i [] = []
numbered text i (a ∷ l) = text i a ++ numbered text (suc i) l

-- ---- the event

-- "event" with its number, "clock" with the tick
unfoldable pub clock_text : ℕ → ℕ → List ℕ
clock_text n clock =
    (0x65 ∷ 0x76 ∷ 0x65 ∷ 0x6e ∷ 0x74 ∷ []) ++ (spaced n ++ ((0x20 ∷ 0x63 ∷ 0x6c ∷ 0x6f ∷ 0x63 ∷ 0x6b ∷ []) ++ spaced clock))

-- then "answer", and the late tick or none
unfoldable pub event_text : ℕ → ℕ → List ℕ → Option ℕ → List ℕ
event_text n clock answer late =
    clock_text n clock
    ++ ((0x20 ∷ 0x61 ∷ 0x6e ∷ 0x73 ∷ 0x77 ∷ 0x65 ∷ 0x72 ∷ 0x20 ∷ []) ++ (answer ++ ((32 ∷ []) ++ late_text late)))

-- ---- submissions

-- a request, "@", its tick
unfoldable pub submission_text : ℕ → ℕ → List ℕ
submission_text request tick = spaced request ++ ((64 ∷ []) ++ decimal tick)

-- "submitted" and the submissions
unfoldable pub submitted_text : List ℕ → List ℕ
submitted_text submissions =
    (0x73 ∷ 0x75 ∷ 0x62 ∷ 0x6d ∷ 0x69 ∷ 0x74 ∷ 0x74 ∷ 0x65 ∷ 0x64 ∷ []) ++ (submissions ++ newline)

-- ---- histories

-- "history", number, j, k, requests
unfoldable pub history_text : ℕ → ℕ → ℕ → List ℕ → List ℕ
history_text h j k list =
    (0x68 ∷ 0x69 ∷ 0x73 ∷ 0x74 ∷ 0x6f ∷ 0x72 ∷ 0x79 ∷ [])
    ++ (spaced h ++ (spaced j ++ (spaced k ++ (((32 ∷ []) ++ listed list) ++ newline))))

-- ---- counters

-- kind, a and b with ":" between them
unfoldable pub parts_text : ℕ → ℕ → ℕ → List ℕ
parts_text kind a b = spaced kind ++ ((58 ∷ []) ++ (decimal a ++ ((58 ∷ []) ++ decimal b)))

unfoldable pub content_text : Content → List ℕ
content_text c = parts_text (get_or (content_numbers c) 0 0) (get_or (content_numbers c) 1 0) (get_or (content_numbers c) 2 0)

-- "counter", replica, ".", name, and the contents; a counter that issued nothing has no line
unfoldable pub counter_text : ℕ → ℕ → ℕ → List ℕ → List ℕ
counter_text x name total contents =
    pick (eqb total 0) []
    ((0x63 ∷ 0x6f ∷ 0x75 ∷ 0x6e ∷ 0x74 ∷ 0x65 ∷ 0x72 ∷ []) ++ (spaced x ++ ((46 ∷ []) ++ (decimal name ++ (contents ++ newline)))))

-- ---- replicas

-- a number, or "-"
abbrev pub number_text : Option ℕ → List ℕ
number_text None = dash
number_text (Some n) = decimal n

-- "held=" and the number of the history that is held
unfoldable pub held_text : Option ℕ → List ℕ
held_text held = (0x20 ∷ 0x68 ∷ 0x65 ∷ 0x6c ∷ 0x64 ∷ 0x3d ∷ []) ++ number_text held

-- the last accepted value of entry c, which is sender c / 3 and name c % 3: nothing where it is 0, and a comma before it where others have
-- begun the list
unfoldable pub entry_text : Bool → ℕ → ℕ → List ℕ
entry_text begun c value =
    pick (eqb value 0) []
    (pick begun (44 ∷ []) [] ++ (decimal (c / names) ++ ((46 ∷ []) ++ (decimal (c % names) ++ ((58 ∷ []) ++ decimal value)))))

-- m entries from entry c on
unfoldable pub entries_from : (ℕ → ℕ) → Bool → ℕ → ℕ → List ℕ
entries_from accepted begun c zero = pick begun [] dash
entries_from accepted begun c (suc m) =
    entry_text begun c (accepted c) ++ entries_from accepted (begun || not (eqb (accepted c) 0)) (suc c) m

-- "accepted=" and the values of seven senders' three counters
unfoldable pub accepted_text : (ℕ → ℕ) → List ℕ
accepted_text accepted =
    (0x20 ∷ 0x61 ∷ 0x63 ∷ 0x63 ∷ 0x65 ∷ 0x70 ∷ 0x74 ∷ 0x65 ∷ 0x64 ∷ 0x3d ∷ []) ++ entries_from accepted false 0 counters

-- "replica", number, condition, "settled=", "mark="
unfoldable pub opening_text : ℕ → Condition → ℕ → ℕ → List ℕ
opening_text x condition settled mark =
    replica_name x condition
    ++ ((0x20 ∷ 0x73 ∷ 0x65 ∷ 0x74 ∷ 0x74 ∷ 0x6c ∷ 0x65 ∷ 0x64 ∷ 0x3d ∷ [])
    ++ (decimal settled ++ ((0x20 ∷ 0x6d ∷ 0x61 ∷ 0x72 ∷ 0x6b ∷ 0x3d ∷ []) ++ decimal mark)))

-- what it keeps: "held=", "noted=", "pairmarks=", "accepted="
unfoldable pub kept_text : Option ℕ → List ℕ → List ℕ → (ℕ → ℕ) → List ℕ
kept_text held noted marks accepted =
    held_text held
    ++ (((0x20 ∷ 0x6e ∷ 0x6f ∷ 0x74 ∷ 0x65 ∷ 0x64 ∷ 0x3d ∷ []) ++ listed noted)
    ++ (((0x20 ∷ 0x70 ∷ 0x61 ∷ 0x69 ∷ 0x72 ∷ 0x6d ∷ 0x61 ∷ 0x72 ∷ 0x6b ∷ 0x73 ∷ 0x3d ∷ []) ++ listed marks) ++ accepted_text accepted))

-- the line of a replica: how it stands, what it keeps, and "list=" with the requests that it has settled
unfoldable pub record_text : ℕ → Condition → ℕ → Option ℕ → List ℕ → List ℕ → (ℕ → ℕ) → List ℕ → List ℕ
record_text x condition mark held noted marks accepted list =
    opening_text x condition (length list) mark
    ++ (kept_text held noted marks accepted ++ (((0x20 ∷ 0x6c ∷ 0x69 ∷ 0x73 ∷ 0x74 ∷ 0x3d ∷ []) ++ listed list) ++ newline))
