-- A kit as a value: f, leader, patience, the table, the events; what its numbers are, and which values document 01 allows. Assumes nothing.
use Rattle.std.specs.Prelude.{◌≡◌, ℕ, ◌+◌, ◌-◌, ◌<◌, ◌≤◌, Bool, true, not, ◌||◌, List, [], ◌∷◌, ◌++◌, length, ◌==◌, nat_le, slice_index, Some}
use Rattle.terms.specs.Limits.{replicas, faults_max, ticks_max, events_max, name_max, requests_max}
use Rattle.terms.specs.Lists.{count_of, all_of, nth}
use Rattle.terms.specs.Numbers.{content_numbers}
use Rattle.terms.specs.declared.Event.{Event}
use Rattle.terms.specs.declared.Event.TheVariants.{Submit, Issue, Deliver, Hand, Panic, Idle, Build, File}

-- one event of a kit: its gap, what happens, and the requests of the history that it files (none for the other kinds)
pub record Entry : Type 0 where
  pub gap : ℕ
  pub event : Event
  pub requests : List ℕ

pub record Kit : Type 0 where
  pub f : ℕ
  pub leader : ℕ
  pub patience : ℕ
  pub table : List ℕ
  pub events : List Entry

-- a table's number is 1 if active, plus 2 if faulty
abbrev pub marks_active : ℕ → Bool
marks_active n = n == 1 || n == 3

abbrev pub marks_faulty : ℕ → Bool
marks_faulty n = n == 2 || n == 3

-- ---- the numbers of a kit, in their order

-- kind and operands
abbrev pub event_numbers : Event → List ℕ → List ℕ
event_numbers (Submit request) l = 1 ∷ request ∷ []
event_numbers (Issue replica name content) l = 2 ∷ replica ∷ name ∷ content_numbers content
event_numbers (Deliver sender name value to) l = 3 ∷ sender ∷ name ∷ value ∷ to ∷ []
event_numbers (Hand ag up to) l = 4 ∷ ag ∷ up ∷ to ∷ []
event_numbers (Panic to) l = 5 ∷ to ∷ []
event_numbers Idle l = 6 ∷ []
event_numbers Build l = 7 ∷ []
event_numbers (File j k) l = 8 ∷ j ∷ k ∷ (length l - k) ∷ l

abbrev pub entry_numbers : Entry → List ℕ
entry_numbers e = e.gap ∷ event_numbers e.event e.requests

abbrev pub entries_numbers : List Entry → List ℕ
entries_numbers [] = []
entries_numbers (e ∷ es) = entry_numbers e ++ entries_numbers es

unfoldable pub kit_numbers : Kit → List ℕ
kit_numbers k = k.f ∷ k.leader ∷ k.patience ∷ (k.table ++ (length k.events ∷ entries_numbers k.events))

-- ---- which kits there are

-- requests that a kit names are not 0
abbrev pub is_request : ℕ → Bool
is_request n = not (n == 0)

-- only event 8 has requests beside it
abbrev pub GoodEvent : ℕ → Event → List ℕ → Type 0
GoodEvent size (Submit request) l = (is_request request ≡ true) × (l ≡ [])
GoodEvent size (Issue replica name content) l = (replica < size) × (name ≤ name_max) × (l ≡ [])
GoodEvent size (Deliver sender name value to) l = (sender < size) × (name ≤ name_max) × (to < size) × (l ≡ [])
GoodEvent size (Hand ag up to) l = (to < size) × (l ≡ [])
GoodEvent size (Panic to) l = (to < size) × (l ≡ [])
GoodEvent size Idle l = l ≡ []
GoodEvent size Build l = l ≡ []
GoodEvent size (File j k) l = (j ≤ k) × (k ≤ length l) × (length l ≤ requests_max) × (all_of l is_request ≡ true)

pub record GoodEntry (size : ℕ) (e : Entry) : Type 0 where
  pub gap : e.gap ≤ ticks_max
  pub event : GoodEvent size e.event e.requests

abbrev pub GoodEntries : ℕ → List Entry → Type 0
GoodEntries size es = (i : ℕ) (e : Entry) → nth es i ≡ Some e → GoodEntry size e

abbrev pub is_table_number : ℕ → Bool
is_table_number n = nat_le n 3

-- the kits of document 01
pub record GoodKit (k : Kit) : Type 0 where
  pub f_low : 1 ≤ k.f
  pub f_high : k.f ≤ faults_max
  pub leader_below : k.leader < replicas k.f
  pub patience_low : 1 ≤ k.patience
  pub patience_high : k.patience ≤ ticks_max
  pub table_length : length k.table ≡ replicas k.f
  pub table_numbers : all_of k.table is_table_number ≡ true
  pub active_count : count_of marks_active k.table ≡ k.f + 1
  pub faulty_count : count_of marks_faulty k.table ≤ k.f
  pub leader_active : marks_active (slice_index k.table k.leader) ≡ true
  pub event_count : length k.events ≤ events_max
  pub events_good : GoodEntries (replicas k.f) k.events
