-- Demand 2 over the printed room: of bytes that spell a kit, and n at most its events, the text is the room that the rules have after n
-- events; past the last event it says how many there are; of all other bytes it is `kit` and the number of the first fault. Assumes nothing.
use Rattle.std.specs.Prelude.{Ok, Err, ◌≡◌, refl, None, List, ℕ, ◌≤◌, ◌<◌, min, length, eqb, ltb}
use Rattle.std.proofs.Common.{ap, ◌∙◌, arith, ne_eqb, eqb-true, lt-ltb, le-ltb, ltb-true, ltb-false}
use Rattle.terms.specs.Limits.{events_max, bytes_max}
use Rattle.terms.specs.ListLaws.{split}
use Rattle.terms.specs.Kit.{Kit}
use Rattle.terms.specs.Numbers.{kit_number_of, KitAnswer, Accepted}
use Rattle.terms.specs.declared.KitRefusal.TheVariants as KitRefusal
use Rattle.number.specs.Number.{Bytes}
use Rattle.kit.specs.Reader.{check_of, kit_of, settings_in}
use Rattle.kit.specs.Spelling.{Spells}
use Rattle.kit.specs.Cursor.{opened, accepted_spells, spells_accepted}
use Rattle.play_lines.specs.Lines.{kit_line}
use Rattle.played.specs.declared.View.TheVariants.{Room}
use Rattle.played.proofs.ViewsLaws.{view_printed}
use Rattle.room_lines.specs.RoomText.{text_of_room}
use Rattle.room_text.specs.Asked.{asked_max}
use Rattle.room_text.specs.RoomPrinted.{past_text, moment_text, printed_room, input_room, program_room}

module _ (bytes : List ℕ) (kit : Kit) (spells : Spells bytes kit) where
  count_read : (settings_in bytes).count ≡ length kit.events
  count_read = (opened bytes kit spells).count

  pub room_printed : (n : ℕ) → n ≤ length kit.events → printed_room bytes n ≡ text_of_room kit n
  unfolding printed_room moment_text
  room_printed n fits =
      rw (spells_accepted bytes kit spells, le-ltb (settings_in bytes).count n (omega (arith, count_read, fits)))
      (view_printed Room bytes kit spells n fits)

  pub past_printed : (n : ℕ) → length kit.events < n → printed_room bytes n ≡ past_text (length kit.events)
  unfolding printed_room moment_text
  past_printed n past =
      rw (spells_accepted bytes kit spells, lt-ltb (settings_in bytes).count n (omega (arith, count_read, past))) (ap past_text count_read)

  -- the program with no argument
  pub last_printed : length bytes ≤ bytes_max → program_room bytes None ≡ text_of_room kit (length kit.events)
  unfolding program_room input_room
  last_printed small =
      rw (le-ltb bytes_max (length bytes) small) (ap (printed_room bytes) count_read ∙ room_printed (length kit.events) (omega arith))

pub refused_room : (bytes : List ℕ) (n : ℕ) → (kit_number_of (check_of bytes) ≡ 0 → ⊥) → printed_room bytes n ≡ kit_line (kit_number_of (check_of bytes))
unfolding printed_room
refused_room bytes n wrong = rw (ne_eqb (kit_number_of (check_of bytes)) 0 wrong)

-- ---- a great number asks for the same as any that is greater than a kit's events

accepted_number : (a : KitAnswer) → kit_number_of a ≡ 0 → a ≡ Accepted
accepted_number (Ok t) e = refl
accepted_number (Err KitRefusal.Cut) e = absurd (omega (arith, e))
accepted_number (Err KitRefusal.Misspelled) e = absurd (omega (arith, e))
accepted_number (Err KitRefusal.WrongSettings) e = absurd (omega (arith, e))
accepted_number (Err KitRefusal.WrongEvent) e = absurd (omega (arith, e))
accepted_number (Err KitRefusal.Excess) e = absurd (omega (arith, e))
accepted_number (Err KitRefusal.NoRoom) e = absurd (omega (arith, e))
accepted_number (Err KitRefusal.TooLong) e = absurd (omega (arith, e))

few_events : (bytes : List ℕ) → Bytes bytes → kit_number_of (check_of bytes) ≡ 0 → (settings_in bytes).count ≤ events_max
few_events bytes are e =
    let s = accepted_spells bytes are (accepted_number (check_of bytes) e) in
    omega (arith, (opened bytes (kit_of bytes) s).count, s.good.event_count)

cut_moment : (bytes : List ℕ) (n : ℕ) → (settings_in bytes).count ≤ events_max
    → moment_text bytes (settings_in bytes) (min n asked_max) ≡ moment_text bytes (settings_in bytes) n
unfolding moment_text
cut_moment bytes n few =
    split (ltb asked_max n)
    (λ t. let more = ltb-true asked_max n t in
    rw (lt-ltb (settings_in bytes).count (min n asked_max) (omega (arith, few, more)), lt-ltb (settings_in bytes).count n (omega (arith, few, more))))
    (λ t. let same : min n asked_max ≡ n = omega (arith, ltb-false asked_max n t) in rw same)

pub cut_printed : (bytes : List ℕ) → Bytes bytes → (n : ℕ) → printed_room bytes (min n asked_max) ≡ printed_room bytes n
unfolding printed_room
cut_printed bytes are n =
    split (eqb (kit_number_of (check_of bytes)) 0)
    (λ t. rw t (cut_moment bytes n (few_events bytes are (eqb-true (kit_number_of (check_of bytes)) 0 t))))
    (λ t. rw t)

pub cut_input : (bytes : List ℕ) → Bytes bytes → (n : ℕ) → input_room bytes (min n asked_max) ≡ input_room bytes n
unfolding input_room
cut_input bytes are n = rw (cut_printed bytes are n)
