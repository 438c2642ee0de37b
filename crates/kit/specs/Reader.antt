-- What a kit's bytes say, each defined on all bytes. In order: the numbers that they spell; their kit number and, of accepted ones, the kit
-- (`check_of`); one number after another from a place on; the settings (`settings_in`); the event at a place, and what it leaves in the list that is
-- lent for requests (`next_in`, `list_after`). Laws: SpellingLaws, Cursor. Assumes nothing.
use Rattle.std.specs.Prelude.{Result, Ok, Err, Option, Some, None, ◌≡◌, Bool, true, false, List, [], ◌∷◌, ◌++◌, ℕ, zero, suc, ◌-◌, leb, length, get_or, replicate}
use Rattle.terms.specs.Limits.{replicas, faults_max, requests_max}
use Rattle.terms.specs.Lists.{pick}
use Rattle.terms.specs.Kit.{Kit}
use Rattle.terms.specs.Numbers.{kind_of, KitAnswer}
use Rattle.terms.specs.declared.Event.{Event}
use Rattle.terms.specs.declared.Kind.{Kind}
use Rattle.terms.specs.declared.KitRefusal.{KitRefusal}
use Rattle.number.specs.Number.{Reading, number_at}
use Rattle.number.specs.declared.Found.{Found}
use Rattle.number.specs.declared.Fault.{Fault}
use Rattle.grammar.specs.Operands.{operands_of, filed_by, event_of}
use Rattle.grammar.specs.Parser.{Parsed, Refusal, Read, parse, kit_answer}
use Rattle.kit.specs.declared.Settings.{Settings}
use Rattle.kit.specs.declared.Next.{Next}

-- ---- the numbers that bytes spell

-- where the bytes end: after a number, within one, or at one that is spelled wrong
pub data Ending : Type 0 where
  Whole : Ending
  Part : Ending
  Wrong : Ending

pub record Numbers : Type 0 where
  pub list : List ℕ
  pub ending : Ending

abbrev pub gathered : (ℕ → Numbers) → Reading → Numbers
gathered later (Ok found) = record { list = found.value ∷ (later found.next).list; ending = (later found.next).ending }
gathered later (Err Fault.Cut) = record { list = []; ending = Part }
gathered later (Err Fault.Bad) = record { list = []; ending = Wrong }

-- from a place on; each number takes a byte, so there are at most as many as bytes
abbrev pub numbers_from : ℕ → List ℕ → ℕ → Numbers
numbers_from zero bytes at = record { list = []; ending = Whole }
numbers_from (suc most) bytes at =
    pick (leb (length bytes) at) (record { list = []; ending = Whole }) (gathered (numbers_from most bytes) (number_at bytes at))

unfoldable pub numbers_in : List ℕ → Numbers
numbers_in bytes = numbers_from (length bytes) bytes 0

-- ---- the kit number

-- a number that cannot be read, as what refuses a kit
abbrev pub refusal_of : Fault → KitRefusal
refusal_of Fault.Cut = KitRefusal.Cut
refusal_of Fault.Bad = KitRefusal.Misspelled

abbrev pub read_from : Reading → Result Found KitRefusal
read_from (Ok found) = Ok found
read_from (Err fault) = Err (refusal_of fault)

-- a number, or what refuses a kit that has none there
abbrev pub read_at : List ℕ → ℕ → Result Found KitRefusal
read_at bytes at = read_from (number_at bytes at)

-- an answer, where "accepted" and "ends too soon" become other refusals
abbrev pub instead : KitRefusal → KitRefusal → KitAnswer → KitAnswer
instead good short (Ok t) = Err good
instead good short (Err KitRefusal.Cut) = Err short
instead good short (Err KitRefusal.Misspelled) = Err KitRefusal.Misspelled
instead good short (Err KitRefusal.WrongSettings) = Err KitRefusal.WrongSettings
instead good short (Err KitRefusal.WrongEvent) = Err KitRefusal.WrongEvent
instead good short (Err KitRefusal.Excess) = Err KitRefusal.Excess
instead good short (Err KitRefusal.NoRoom) = Err KitRefusal.NoRoom
instead good short (Err KitRefusal.TooLong) = Err KitRefusal.TooLong

-- the answer for the numbers, with what stands behind them: bytes behind a whole kit are too many, whatever they are; a kit that wants one
-- more number meets the end of the bytes, or one that is spelled wrong
abbrev pub closed : Ending → KitAnswer → KitAnswer
closed Whole answer = answer
closed Part answer = instead KitRefusal.Excess KitRefusal.Cut answer
closed Wrong answer = instead KitRefusal.Excess KitRefusal.Misspelled answer

unfoldable pub check_of : List ℕ → KitAnswer
check_of bytes = closed (numbers_in bytes).ending (kit_answer (numbers_in bytes).list)

-- the kit that was read, or none
abbrev pub kit_from : Parsed Kit → Kit
kit_from (Refusal answer) = record { f = 0; leader = 0; patience = 0; table = []; events = [] }
kit_from (Read kit rest) = kit

unfoldable pub kit_of : List ℕ → Kit
kit_of bytes = kit_from (parse (numbers_in bytes).list)

-- ---- one number after another: one that cannot be read counts as 0 and takes no bytes

abbrev pub taken_from : ℕ → Reading → Found
taken_from at (Ok found) = found
taken_from at (Err fault) = record { value = 0; next = at }

unfoldable pub taken_at : List ℕ → ℕ → Found
taken_at bytes at = taken_from at (number_at bytes at)

-- so many numbers, and the place after them
pub record Stretch : Type 0 where
  pub numbers : List ℕ
  pub next : ℕ

abbrev pub stretch_at : ℕ → List ℕ → ℕ → Stretch
stretch_at zero bytes at = record { numbers = []; next = at }
stretch_at (suc m) bytes at =
    record {
      numbers = (taken_at bytes at).value ∷ (stretch_at m bytes (taken_at bytes at).next).numbers;
      next = (stretch_at m bytes (taken_at bytes at).next).next;
    }

-- a stretch filled in, and the place after it
pub record Stretched (s : Stretch) (out' : List ℕ) (r : ℕ) : Type 0 where
  pub next : r ≡ s.next
  pub filled : out' ≡ s.numbers

-- ---- the settings

abbrev pub size_of : ℕ → ℕ
size_of f = pick (leb f faults_max) (replicas f) 0

-- filled up with zeros
abbrev pub padded : ℕ → List ℕ → List ℕ
padded size l = l ++ replicate (size - length l) 0

module _ (bytes : List ℕ) where
  abbrev pub f_at : Found
  f_at = taken_at bytes 0

  abbrev pub leader_at : Found
  leader_at = taken_at bytes f_at.next

  abbrev pub patience_at : Found
  patience_at = taken_at bytes leader_at.next

  abbrev pub table_at : Stretch
  table_at = stretch_at (size_of f_at.value) bytes patience_at.next

  abbrev pub count_at : Found
  count_at = taken_at bytes table_at.next

unfoldable pub settings_in : List ℕ → Settings
settings_in bytes =
    record {
      f = (f_at bytes).value;
      size = size_of (f_at bytes).value;
      leader = (leader_at bytes).value;
      patience = (patience_at bytes).value;
      table = padded 7 (table_at bytes).numbers;
      count = (count_at bytes).value;
      first = (count_at bytes).next;
    }

-- ---- the event at a place

-- a gap, an event and its requests, and the place after them
pub record EntryAt : Type 0 where
  pub gap : ℕ
  pub event : Event
  pub requests : List ℕ
  pub next : ℕ

module _ (bytes : List ℕ) (kind : Kind) (at : ℕ) where
  abbrev pub operands_at : Stretch
  operands_at = stretch_at (length (operands_of kind)) bytes at

  abbrev pub requests_at : Stretch
  requests_at = stretch_at (filed_by kind (get_or operands_at.numbers 1 0) (get_or operands_at.numbers 2 0)) bytes operands_at.next

abbrev pub entry_of_kind : List ℕ → ℕ → Kind → ℕ → EntryAt
entry_of_kind bytes gap kind at =
    record {
      gap = gap;
      event = event_of kind (operands_at bytes kind at).numbers;
      requests = (requests_at bytes kind at).numbers;
      next = (requests_at bytes kind at).next;
    }

abbrev pub next_of : EntryAt → Next
next_of e = record { gap = e.gap; event = e.event; count = length e.requests; next = e.next }

-- what an event leaves in the list that is lent for requests: its own, filled up with zeros, if it files a history
abbrev pub filed_into : Event → List ℕ → List ℕ → List ℕ
filed_into (Event.Submit request) requests list = list
filed_into (Event.Issue replica name content) requests list = list
filed_into (Event.Deliver sender name value to) requests list = list
filed_into (Event.Hand ag up to) requests list = list
filed_into (Event.Panic to) requests list = list
filed_into Event.Idle requests list = list
filed_into Event.Build requests list = list
filed_into (Event.File j k) requests list = padded requests_max requests

abbrev pub is_file : Kind → Bool
is_file Kind.Submit = false
is_file Kind.Issue = false
is_file Kind.Deliver = false
is_file Kind.Hand = false
is_file Kind.Panic = false
is_file Kind.Idle = false
is_file Kind.Build = false
is_file Kind.File = true

-- so many requests, read behind the operands of a kind; only kind 8 has some
pub record RequestsRead (bytes : List ℕ) (kind : Kind) (at count : ℕ) (list list' : List ℕ) (r : ℕ) : Type 0 where
  pub next : r ≡ pick (is_file kind) (stretch_at count bytes at).next at
  pub filed : list' ≡ pick (is_file kind) (padded requests_max (stretch_at count bytes at).numbers) list

-- the event of a kind, with the lent list before and after
pub record OfKind (bytes : List ℕ) (gap : ℕ) (kind : Kind) (at : ℕ) (list list' : List ℕ) (r : Next) : Type 0 where
  pub answer : r ≡ next_of (entry_of_kind bytes gap kind at)
  pub filed : list' ≡ filed_into (entry_of_kind bytes gap kind at).event (entry_of_kind bytes gap kind at).requests list

-- a number that is no kind is an idle event
abbrev pub entry_of : List ℕ → ℕ → Option Kind → ℕ → EntryAt
entry_of bytes gap None at = record { gap = gap; event = Event.Idle; requests = []; next = at }
entry_of bytes gap (Some kind) at = entry_of_kind bytes gap kind at

abbrev pub kind_at : List ℕ → ℕ → Found
kind_at bytes at = taken_at bytes (taken_at bytes at).next

unfoldable pub entry_at : List ℕ → ℕ → EntryAt
entry_at bytes at = entry_of bytes (taken_at bytes at).value (kind_of (kind_at bytes at).value) (kind_at bytes at).next

unfoldable pub next_in : List ℕ → ℕ → Next
next_in bytes at = next_of (entry_at bytes at)

unfoldable pub list_after : List ℕ → ℕ → List ℕ → List ℕ
list_after bytes at list = filed_into (entry_at bytes at).event (entry_at bytes at).requests list

-- the event at a place, with the lent list before and after
pub record Stepped (bytes : List ℕ) (at : ℕ) (list list' : List ℕ) (r : Next) : Type 0 where
  pub answer : r ≡ next_in bytes at
  pub filed : list' ≡ list_after bytes at list
