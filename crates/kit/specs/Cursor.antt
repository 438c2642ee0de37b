-- The kit that accepted bytes spell, read from the bytes: its settings, and its events one after another by a cursor. In order: accepted bytes and
-- their kit; the settings (`opened`) and where the first event stands; an event, from its numbers; the cursor, which goes from an event to the next
-- (`first_cursor`, `next_cursor`). Assumes nothing.
use Rattle.std.specs.Prelude.{Ok, Err, ◌≡◌, refl, List, [], ◌∷◌, ◌++◌, ℕ, zero, suc, ◌+◌, ◌-◌, length, drop, get_or, Some}
use Rattle.std.proofs.Common.{sym, ◌∙◌, append_assoc, arith, le-leb}
use Rattle.std.proofs.Math.Path.{ap}
use Rattle.terms.specs.Limits.{replicas, faults_max, requests_max}
use Rattle.terms.specs.Lists.{nth}
use Rattle.terms.specs.ListLaws.{no_way}
use Rattle.terms.specs.Kit.{Kit, Entry, GoodKit, GoodEvent, kit_numbers, entry_numbers, entries_numbers, event_numbers}
use Rattle.terms.specs.Numbers.{kind_of, kind_number, content_of, KitAnswer, Accepted}
use Rattle.terms.specs.declared.Content.TheVariants as Content
use Rattle.terms.specs.declared.Event.{Event}
use Rattle.terms.specs.declared.Kind.{Kind}
use Rattle.terms.specs.declared.KitRefusal.{KitRefusal}
use Rattle.number.specs.Number.{Bytes}
use Rattle.grammar.specs.Operands.{operands_of, event_of, filed_by, filed_of}
use Rattle.grammar.specs.Parser.{kit_answer}
use Rattle.grammar.specs.ParserLaws.{accepted_good, accepted_numbers, good_accepted, answer_accepted}
use Rattle.kit.specs.Spelling.{spellings, Words, Spells}
use Rattle.kit.specs.SpellingLaws.{Stands, stands_value, stands_next, stands_stretch, stands_read, read_stands}
use Rattle.kit.specs.Reader.{Ending, Whole, Part, Wrong, numbers_in, instead, closed, check_of, kit_of, size_of, padded, settings_in, f_at, patience_at, table_at, entry_at, entry_of_kind, kind_at, operands_at, requests_at, next_in, filed_into, list_after}
use Rattle.kit.specs.declared.Settings.{Settings}

-- ---- accepted bytes and the kit that they spell

spells_stands : (bytes : List ℕ) (kit : Kit) → Spells bytes kit → Stands bytes 0 (kit_numbers kit)
spells_stands bytes kit s = record { rest = s.same; words = s.words }

pub spells_numbers : (bytes : List ℕ) (kit : Kit) → Spells bytes kit → numbers_in bytes ≡ record { list = kit_numbers kit; ending = Whole }
unfolding numbers_in
spells_numbers bytes kit s = stands_read (length bytes) bytes 0 (kit_numbers kit) (omega arith) (spells_stands bytes kit s)

pub spells_accepted : (bytes : List ℕ) (kit : Kit) → Spells bytes kit → check_of bytes ≡ Accepted
unfolding check_of kit_answer
spells_accepted bytes kit s = rw (spells_numbers bytes kit s, good_accepted kit s.good)

pub spells_kit : (bytes : List ℕ) (kit : Kit) → Spells bytes kit → kit_of bytes ≡ kit
unfolding kit_of
spells_kit bytes kit s = rw (spells_numbers bytes kit s, good_accepted kit s.good)

-- "accepted" is said only where the bytes end with the kit
instead_accepted : (short : KitRefusal) (a : KitAnswer) → instead KitRefusal.Excess short a ≡ Accepted → ⊥
instead_accepted short (Ok t) h = no_way (cc)
instead_accepted short (Err KitRefusal.Cut) h = no_way (cc)
instead_accepted short (Err KitRefusal.Misspelled) h = no_way (cc)
instead_accepted short (Err KitRefusal.WrongSettings) h = no_way (cc)
instead_accepted short (Err KitRefusal.WrongEvent) h = no_way (cc)
instead_accepted short (Err KitRefusal.Excess) h = no_way (cc)
instead_accepted short (Err KitRefusal.NoRoom) h = no_way (cc)
instead_accepted short (Err KitRefusal.TooLong) h = no_way (cc)

closed_accepted : (e : Ending) (a : KitAnswer) → closed e a ≡ Accepted → (e ≡ Whole) × (a ≡ Accepted)
closed_accepted Whole a h = (refl, h)
closed_accepted Part a h = absurd (instead_accepted KitRefusal.Cut a h)
closed_accepted Wrong a h = absurd (instead_accepted KitRefusal.Misspelled a h)

pub accepted_spells : (bytes : List ℕ) → Bytes bytes → check_of bytes ≡ Accepted → Spells bytes (kit_of bytes)
unfolding check_of kit_of numbers_in
accepted_spells bytes are e =
    let c = closed_accepted (numbers_in bytes).ending (kit_answer (numbers_in bytes).list) e in
    let k = answer_accepted (numbers_in bytes).list c.1 in
    let t = read_stands (length bytes) bytes 0 are (omega arith) c.0 in
    let is = accepted_numbers (numbers_in bytes).list k.0 k.1 in
    rw k.1 (record { good = accepted_good (numbers_in bytes).list k.0 k.1; words = rw (← is) t.words; same = rw (← is) t.rest })

-- ---- the settings

-- the settings are the kit's
pub record Opened (kit : Kit) (s : Settings) : Type 0 where
  pub f : s.f ≡ kit.f
  pub size : s.size ≡ replicas kit.f
  pub leader : s.leader ≡ kit.leader
  pub patience : s.patience ≡ kit.patience
  pub table : s.table ≡ padded 7 kit.table
  pub count : s.count ≡ length kit.events

-- the bytes from `at` on are the events from i on
pub record CursorAt (bytes : List ℕ) (kit : Kit) (i at : ℕ) : Type 0 where
  pub rest : drop at bytes ≡ spellings (entries_numbers (drop i kit.events))
  pub words : Words (entries_numbers (drop i kit.events))

module _ (bytes : List ℕ) (kit : Kit) (s : Spells bytes kit) where
  stands_f : Stands bytes 0 (kit.f ∷ kit.leader ∷ kit.patience ∷ (kit.table ++ (length kit.events ∷ entries_numbers kit.events)))
  unfolding kit_numbers
  stands_f = spells_stands bytes kit s

  stands_table : Stands bytes (patience_at bytes).next (kit.table ++ (length kit.events ∷ entries_numbers kit.events))
  stands_table = stands_next (stands_next (stands_next stands_f))

  size_is : size_of (f_at bytes).value ≡ replicas kit.f
  size_is = rw (stands_value stands_f) (rw (le-leb kit.f faults_max s.good.f_high))

  table_is : ((table_at bytes).numbers ≡ kit.table) × Stands bytes (table_at bytes).next (length kit.events ∷ entries_numbers kit.events)
  table_is =
      let long : size_of (f_at bytes).value ≡ length kit.table = size_is ∙ sym s.good.table_length in
      rw long (stands_stretch kit.table (length kit.events ∷ entries_numbers kit.events) bytes (patience_at bytes).next stands_table)

  pub opened : Opened kit (settings_in bytes)
  unfolding settings_in
  opened =
      record {
        f = stands_value stands_f;
        size = size_is;
        leader = stands_value (stands_next stands_f);
        patience = stands_value (stands_next (stands_next stands_f));
        table = ap (padded 7) table_is.0;
        count = stands_value table_is.1;
      }

  pub first_cursor : CursorAt bytes kit 0 (settings_in bytes).first
  unfolding settings_in
  first_cursor = let t = stands_next table_is.1 in record { rest = t.rest; words = t.words }

-- ---- an event, from its numbers

-- the numbers of an event are its kind, its operands and its requests
pub record Parts (event : Event) (l : List ℕ) : Type 0 where
  pub kind : Kind
  pub ops : List ℕ
  pub numbers : event_numbers event l ≡ kind_number kind ∷ (ops ++ l)
  pub several : length (operands_of kind) ≡ length ops
  pub makes : event_of kind ops ≡ event
  pub files : filed_by kind (get_or ops 1 0) (get_or ops 2 0) ≡ length l

event_parts : (size : ℕ) (event : Event) (l : List ℕ) → GoodEvent size event l → Parts event l
unfolding content_of filed_of
event_parts size (Event.Submit request) l g =
    rw g.1 (record { kind = Kind.Submit; ops = request ∷ []; numbers = refl; several = refl; makes = refl; files = refl })
event_parts size (Event.Issue replica name (Content.Prepare a)) l g =
    rw g.2 (record { kind = Kind.Issue; ops = replica ∷ name ∷ 1 ∷ a ∷ 0 ∷ []; numbers = refl; several = refl; makes = refl; files = refl })
event_parts size (Event.Issue replica name (Content.Commit a b)) l g =
    rw g.2 (record { kind = Kind.Issue; ops = replica ∷ name ∷ 2 ∷ a ∷ b ∷ []; numbers = refl; several = refl; makes = refl; files = refl })
event_parts size (Event.Issue replica name (Content.Update a b)) l g =
    rw g.2 (record { kind = Kind.Issue; ops = replica ∷ name ∷ 3 ∷ a ∷ b ∷ []; numbers = refl; several = refl; makes = refl; files = refl })
event_parts size (Event.Issue replica name (Content.History a)) l g =
    rw g.2 (record { kind = Kind.Issue; ops = replica ∷ name ∷ 4 ∷ a ∷ 0 ∷ []; numbers = refl; several = refl; makes = refl; files = refl })
event_parts size (Event.Issue replica name (Content.Switch a)) l g =
    rw g.2 (record { kind = Kind.Issue; ops = replica ∷ name ∷ 5 ∷ a ∷ 0 ∷ []; numbers = refl; several = refl; makes = refl; files = refl })
event_parts size (Event.Deliver sender name value to) l g =
    rw g.3 (record { kind = Kind.Deliver; ops = sender ∷ name ∷ value ∷ to ∷ []; numbers = refl; several = refl; makes = refl; files = refl })
event_parts size (Event.Hand ag up to) l g =
    rw g.1 (record { kind = Kind.Hand; ops = ag ∷ up ∷ to ∷ []; numbers = refl; several = refl; makes = refl; files = refl })
event_parts size (Event.Panic to) l g =
    rw g.1 (record { kind = Kind.Panic; ops = to ∷ []; numbers = refl; several = refl; makes = refl; files = refl })
event_parts size Event.Idle l g = rw g (record { kind = Kind.Idle; ops = []; numbers = refl; several = refl; makes = refl; files = refl })
event_parts size Event.Build l g = rw g (record { kind = Kind.Build; ops = []; numbers = refl; several = refl; makes = refl; files = refl })
event_parts size (Event.File j k) l g =
    let sum : k + (length l - k) ≡ length l = omega (arith, g.1) in
    record {
      kind = Kind.File;
      ops = j ∷ k ∷ (length l - k) ∷ [];
      numbers = refl;
      several = refl;
      makes = refl;
      files = rw (sum, le-leb (length l) requests_max g.2);
    }

kind_of_number : (kind : Kind) → kind_of (kind_number kind) ≡ Some kind
unfolding kind_of
kind_of_number Kind.Submit = refl
kind_of_number Kind.Issue = refl
kind_of_number Kind.Deliver = refl
kind_of_number Kind.Hand = refl
kind_of_number Kind.Panic = refl
kind_of_number Kind.Idle = refl
kind_of_number Kind.Build = refl
kind_of_number Kind.File = refl

-- what stands at a place is read there
record Here (bytes : List ℕ) (at : ℕ) (e : Entry) (later : List ℕ) : Type 0 where
  gap : (entry_at bytes at).gap ≡ e.gap
  event : (entry_at bytes at).event ≡ e.event
  requests : (entry_at bytes at).requests ≡ e.requests
  next : Stands bytes (entry_at bytes at).next later

module _ (bytes : List ℕ) (at : ℕ) (e : Entry) (later : List ℕ) (p : Parts e.event e.requests) (h : Stands bytes at (entry_numbers e ++ later)) where
  all_parts : Stands bytes at (e.gap ∷ kind_number p.kind ∷ (p.ops ++ (e.requests ++ later)))
  all_parts =
      let same : entry_numbers e ++ later ≡ e.gap ∷ kind_number p.kind ∷ (p.ops ++ (e.requests ++ later)) =
      ap (λ (x : List ℕ). e.gap ∷ (x ++ later)) p.numbers ∙ rw (append_assoc p.ops e.requests later) in
      rw same at h

  abbrev place : ℕ
  place = (kind_at bytes at).next

  operands_here : ((operands_at bytes p.kind place).numbers ≡ p.ops) × Stands bytes (operands_at bytes p.kind place).next (e.requests ++ later)
  operands_here = rw p.several (stands_stretch p.ops (e.requests ++ later) bytes place (stands_next (stands_next all_parts)))

  requests_here : ((requests_at bytes p.kind place).numbers ≡ e.requests) × Stands bytes (requests_at bytes p.kind place).next later
  requests_here =
      let ops = (operands_at bytes p.kind place).numbers in
      let count : filed_by p.kind (get_or ops 1 0) (get_or ops 2 0) ≡ length e.requests = rw operands_here.0 p.files in
      rw count (stands_stretch e.requests later bytes (operands_at bytes p.kind place).next operands_here.1)

  is_entry : entry_at bytes at ≡ entry_of_kind bytes e.gap p.kind place
  unfolding entry_at
  is_entry = rw (stands_value (stands_next all_parts), stands_value all_parts, kind_of_number p.kind)

  entry_here : Here bytes at e later
  entry_here =
      record {
        gap = rw is_entry;
        event = rw is_entry (rw operands_here.0 p.makes);
        requests = rw is_entry requests_here.0;
        next = rw is_entry requests_here.1;
      }

-- ---- the cursor

-- what is read at a cursor is the event, and the place after it is the next event's
pub record EntryRead (bytes : List ℕ) (kit : Kit) (i at : ℕ) (e : Entry) : Type 0 where
  pub gap : (next_in bytes at).gap ≡ e.gap
  pub event : (next_in bytes at).event ≡ e.event
  pub count : (next_in bytes at).count ≡ length e.requests
  pub list : (before : List ℕ) → list_after bytes at before ≡ filed_into e.event e.requests before
  pub cursor : CursorAt bytes kit (suc i) (next_in bytes at).next

drop_nth : (es : List Entry) (i : ℕ) (e : Entry) → nth es i ≡ Some e → drop i es ≡ e ∷ drop (suc i) es
drop_nth [] i e h = no_way (cc)
drop_nth (x ∷ es) zero e h = let z : x ≡ e = cc in rw z
drop_nth (x ∷ es) (suc i) e h = drop_nth es i e h

pub next_cursor : (bytes : List ℕ) (kit : Kit) (i at : ℕ) (e : Entry) → GoodKit kit → CursorAt bytes kit i at → nth kit.events i ≡ Some e
    → EntryRead bytes kit i at e
unfolding next_in list_after
next_cursor bytes kit i at e g c is =
    let later = entries_numbers (drop (suc i) kit.events) in
    let all : Stands bytes at (entries_numbers (drop i kit.events)) = record { rest = c.rest; words = c.words } in
    let stands : Stands bytes at (entry_numbers e ++ later) = rw (drop_nth kit.events i e is) at all in
    let good = g.events_good i e is in
    let h = entry_here bytes at e later (event_parts (replicas kit.f) e.event e.requests good.event) stands in
    record {
      gap = h.gap;
      event = h.event;
      count = ap length h.requests;
      list = λ before. rw (h.event, h.requests);
      cursor = record { rest = h.next.rest; words = h.next.words };
    }
