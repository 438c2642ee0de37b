-- Which lists of numbers are a kit, and what the others are refused with: the numbers are read from left to right as document 01 says,
-- each judged once it is read, the table after its last replica. Knows no state and no phase. Laws: ParserLaws. Assumes nothing.
use Rattle.std.specs.Prelude.{Option, Some, None, Err, Bool, ◌&&◌, List, [], ◌∷◌, ◌++◌, ℕ, zero, suc, ◌+◌, eqb, leb, ltb, get_or}
use Rattle.terms.specs.Limits.{replicas, faults_max, ticks_max, events_max}
use Rattle.terms.specs.Lists.{pick, within, count_of}
use Rattle.terms.specs.Kit.{Kit, Entry, marks_active, marks_faulty, is_table_number, is_request}
use Rattle.terms.specs.declared.Kind.{Kind}
use Rattle.terms.specs.Numbers.{kind_of, KitAnswer, Accepted}
use Rattle.terms.specs.declared.KitRefusal.{KitRefusal}
use Rattle.terms.specs.declared.KitRefusal.TheVariants.{Cut, WrongSettings, WrongEvent, Excess}
use Rattle.grammar.specs.Operands.{operands_of, fits, filed_by, event_of}
use Rattle.grammar.specs.declared.operands.Operand.{Operand}

-- ---- reading

-- what was read and the numbers after it, or why it is refused
pub data Parsed (A : Type 0) : Type 0 where
  Refusal : KitRefusal → Parsed A
  Read : A → List ℕ → Parsed A

-- the next number, if it passes the test
abbrev pub number : {A : Type 0} → List ℕ → (ℕ → Bool) → KitRefusal → (ℕ → List ℕ → Parsed A) → Parsed A
number [] test fault go = Refusal Cut
number (n ∷ ns) test fault go = pick (test n) (go n ns) (Refusal fault)

-- one thing after another
abbrev pub and_then : {A B : Type 0} → Parsed A → (A → List ℕ → Parsed B) → Parsed B
and_then (Refusal fault) go = Refusal fault
and_then (Read a ns) go = go a ns

-- so many of the same
abbrev pub several : {A : Type 0} → ℕ → (List ℕ → Parsed A) → List ℕ → Parsed (List A)
several zero one ns = Read [] ns
several (suc m) one ns = and_then (one ns) (λ a ns₁. and_then (several m one ns₁) (λ l ns₂. Read (a ∷ l) ns₂))

-- a number by itself
abbrev pub alone : (ℕ → Bool) → KitRefusal → List ℕ → Parsed ℕ
alone test fault ns = number ns test fault Read

-- ---- events

-- the operands of a row, each judged by how many replicas there are and the operands before it
abbrev pub operands : ℕ → List Operand → List ℕ → List ℕ → Parsed (List ℕ)
operands size [] ops ns = Read ops ns
operands size (o ∷ row) ops ns = number ns (fits o size ops) WrongEvent (λ n ns₁. operands size row (ops ++ (n ∷ [])) ns₁)

-- what follows a gap and a kind
abbrev pub event_after : ℕ → ℕ → Option Kind → List ℕ → Parsed Entry
event_after size gap None ns = Refusal WrongEvent
event_after size gap (Some kind) ns =
    and_then (operands size (operands_of kind) [] ns) (λ ops ns₁.
    and_then (several (filed_by kind (get_or ops 1 0) (get_or ops 2 0)) (alone is_request WrongEvent) ns₁) (λ requests ns₂.
    Read (record { gap = gap; event = event_of kind ops; requests = requests }) ns₂))

-- a kind is a number that `kind_of` takes
abbrev pub kind_after : ℕ → ℕ → List ℕ → Parsed Entry
kind_after size gap [] = Refusal Cut
kind_after size gap (n ∷ ns) = event_after size gap (kind_of n) ns

abbrev pub entry : ℕ → List ℕ → Parsed Entry
entry size ns = number ns (λ gap. leb gap ticks_max) WrongEvent (λ gap ns₁. kind_after size gap ns₁)

-- ---- kits

-- f+1 replicas are active, at most f faulty, and the leader is active
abbrev pub table_right : ℕ → ℕ → List ℕ → Bool
table_right f leader table =
    marks_active (get_or table leader 0) && (eqb (count_of marks_active table) (f + 1) && leb (count_of marks_faulty table) f)

abbrev pub judged : {A : Type 0} → Bool → KitRefusal → Parsed A → Parsed A
judged right fault go = pick right go (Refusal fault)

unfoldable pub parse : List ℕ → Parsed Kit
parse ns =
    number ns (within 1 faults_max) WrongSettings (λ f ns₁.
    number ns₁ (λ leader. ltb leader (replicas f)) WrongSettings (λ leader ns₂.
    number ns₂ (within 1 ticks_max) WrongSettings (λ patience ns₃.
    and_then (several (replicas f) (alone is_table_number WrongSettings) ns₃) (λ table ns₄.
    judged (table_right f leader table) WrongSettings
    (number ns₄ (λ count. leb count events_max) WrongEvent (λ count ns₅.
    and_then (several count (entry (replicas f)) ns₅) (λ events ns₆.
    Read (record { f = f; leader = leader; patience = patience; table = table; events = events }) ns₆)))))))

-- ---- the answer for a list of numbers

abbrev pub answer_of : {A : Type 0} → Parsed A → KitAnswer
answer_of (Refusal fault) = Err fault
answer_of (Read kit []) = Accepted
answer_of (Read kit (n ∷ ns)) = Err Excess

unfoldable pub kit_answer : List ℕ → KitAnswer
kit_answer ns = answer_of (parse ns)
