-- What a kit's bytes are worth, stated together. `check_of`, `kit_of` and `Spells` are of Reader and Spelling; `KitWritten` and `KitRead` are
-- what `write_kit` and `read_kit` promise. Assumes nothing.
use Rattle.std.specs.Prelude.{Ok, Err, ◌≡◌, refl, List, [], ◌∷◌, ℕ, ◌≤◌, length, take}
use Rattle.std.proofs.Common.{sym, ◌∙◌}
use Rattle.terms.specs.Kit.{Kit}
use Rattle.terms.specs.Numbers.{kit_number_of, Accepted}
use Rattle.terms.specs.declared.KitRefusal.TheVariants as KitRefusal
use Rattle.number.specs.Number.{Bytes, number_at}
use Rattle.grammar.specs.Parser.{parse, kit_answer}
use Rattle.kit.specs.Spelling.{spellings, Words, Spells}
use Rattle.kit.specs.Reader.{numbers_in, check_of, kit_of}
use Rattle.kit.specs.Cursor.{accepted_spells, spells_accepted, spells_kit}
use Rattle.kit.specs.Writer.{Outcome, write_of, read_of, KitWritten, KitRead}
use Rattle.kit.specs.WriterLaws.{check_small, spelled_read, read_spelled, filled_from, filled_so}

-- ---- T1, of kits: bytes get one number, which is 0 exactly if they spell a kit

pub every_kit_number : (bytes : List ℕ) → kit_number_of (check_of bytes) ≤ 5
every_kit_number bytes = check_small bytes

pub accepted_exactly : (bytes : List ℕ) → Bytes bytes
    → (check_of bytes ≡ Accepted → Spells bytes (kit_of bytes)) × ((kit : Kit) → Spells bytes kit → check_of bytes ≡ Accepted)
accepted_exactly bytes are = (accepted_spells bytes are, spells_accepted bytes)

-- ---- T4: one spelling, and there and back

-- bytes spell one kit
pub one_kit : (bytes : List ℕ) (kit : Kit) → Spells bytes kit → kit ≡ kit_of bytes
one_kit bytes kit s = sym (spells_kit bytes kit s)

-- two byte strings that are the same kit are the same
pub one_spelling : (a b : List ℕ) → Bytes a → Bytes b → check_of a ≡ Accepted → check_of b ≡ Accepted → kit_of a ≡ kit_of b → a ≡ b
one_spelling a b are-a are-b ok-a ok-b same =
    (accepted_spells a are-a ok-a).same ∙ rw same (sym (accepted_spells b are-b ok-b).same)

-- a kit that was written reads back, number for number
pub written_reads_back : (numbers out out' room room' : List ℕ) (count : ℕ) (r : Outcome) → Words numbers
    → KitWritten numbers out out' (Ok count)
    → KitRead (take count out') room room' r → length numbers ≤ length room
    → (r ≡ Ok (length numbers)) × (take (length numbers) room' ≡ numbers)
unfolding write_of read_of
written_reads_back numbers out out' room room' count r words k l fits =
    let f = filled_from (kit_answer numbers) (spellings numbers) out out' (Ok count) k.answer count refl in
    let s = filled_so (kit_answer numbers) (spellings numbers) out out' (Ok count) k.answer k.bytes f.0 f.1 in
    let back : take count out' ≡ spellings numbers = rw (← f.2) s.1 in
    let l₁ : KitRead (spellings numbers) room room' r = rw back at l in
    let g = spelled_read numbers words f.0 in
    let t = filled_so (check_of (spellings numbers)) (numbers_in (spellings numbers)).list room room' r l₁.answer l₁.numbers g.0 (rw g.1 fits) in
    rw g.1 at t

-- a kit that was read is written again, byte for byte
pub read_writes_back : (bytes room room' out out' : List ℕ) (count : ℕ) (w : Outcome) → Bytes bytes
    → KitRead bytes room room' (Ok count)
    → KitWritten (take count room') out out' w → length bytes ≤ length out
    → (w ≡ Ok (length bytes)) × (take (length bytes) out' ≡ bytes)
unfolding write_of read_of
read_writes_back bytes room room' out out' count w are k l fits =
    let numbers = (numbers_in bytes).list in
    let f = filled_from (check_of bytes) numbers room room' (Ok count) k.answer count refl in
    let s = filled_so (check_of bytes) numbers room room' (Ok count) k.answer k.numbers f.0 f.1 in
    let back : take count room' ≡ numbers = rw (← f.2) s.1 in
    let l₁ : KitWritten numbers out out' w = rw back at l in
    let g = read_spelled bytes are f.0 in
    let t = filled_so (kit_answer numbers) (spellings numbers) out out' w l₁.answer l₁.bytes g.0 (rw g.1 fits) in
    rw g.1 at t

-- ---- P1 to P4, as kits

-- P1: 80 00 as f
pub p1 : check_of (0x80 ∷ 0x00 ∷ []) ≡ Err KitRefusal.Misspelled
unfolding check_of numbers_in number_at kit_answer parse
p1 = refl

-- P2: FF FF FF FF 10 as f
pub p2 : check_of (0xff ∷ 0xff ∷ 0xff ∷ 0xff ∷ 0x10 ∷ []) ≡ Err KitRefusal.Misspelled
unfolding check_of numbers_in number_at kit_answer parse
p2 = refl

-- P3: FF FF FF 7F as the patience of a kit with no events
pub p3 : check_of (1 ∷ 0 ∷ 0xff ∷ 0xff ∷ 0xff ∷ 0x7f ∷ 1 ∷ 1 ∷ 0 ∷ 0 ∷ []) ≡ Accepted
unfolding check_of numbers_in number_at kit_answer parse
p3 = refl

-- P4: 80 80 80 80 01 as patience, and as gap
pub p4_patience : check_of (1 ∷ 0 ∷ 0x80 ∷ 0x80 ∷ 0x80 ∷ 0x80 ∷ 1 ∷ []) ≡ Err KitRefusal.WrongSettings
unfolding check_of numbers_in number_at kit_answer parse
p4_patience = refl

pub p4_gap : check_of (1 ∷ 0 ∷ 10 ∷ 1 ∷ 1 ∷ 0 ∷ 1 ∷ 0x80 ∷ 0x80 ∷ 0x80 ∷ 0x80 ∷ 1 ∷ []) ≡ Err KitRefusal.WrongEvent
unfolding check_of numbers_in number_at kit_answer parse
p4_gap = refl
