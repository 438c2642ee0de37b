-- The three demands on one page, over the bytes of an accepted kit, what an editor may do to it, which two of its deliveries may change places, and
-- that a correct switch leader is believed in it. Assumes nothing.
use Rattle.std.specs.Prelude.{◌≡◌, refl, true, ◌⊎◌, List, ℕ, suc, ◌≤◌, ◌<◌, length, Some, Err}
use Rattle.std.proofs.Common.{◌∙◌, inl, inr, ne_eqb, Ok, Err}
use Rattle.terms.specs.Lists.{nth, within}
use Rattle.terms.specs.ListLaws.{nth_in}
use Rattle.terms.specs.Kit.{Kit, Entry}
use Rattle.terms.specs.Numbers.{answer_number, kit_number_of, Accepted}
use Rattle.terms.specs.Numbers.{Answer, Taken}
use Rattle.terms.specs.declared.Refusal.TheVariants as Refusal
use Rattle.rules.specs.Clock.{tick}
use Rattle.rules.specs.Play.{after, step, answer}
use Rattle.rules.proofs.Laws.Growth.{after_suc}
use Rattle.rules.proofs.Laws.Refused.{Ticked, tick_ticked, refused_is_ticked}
use Rattle.rules.proofs.Agreement.Theorem.{SettledListsAgree, settled_lists_agree}
use Rattle.number.specs.Number.{Bytes}
use Rattle.kit.specs.Reader.{check_of, kit_of, settings_in}
use Rattle.kit.specs.Spelling.{Spells}
use Rattle.kit.specs.Cursor.{accepted_spells}
use Rattle.player.specs.OpeningLaws.{spells_opens}
use Rattle.player.specs.Plays.{PlaysAs, played_from, plays_first}
use Rattle.play_lines.specs.Lines.{kit_line}
use Rattle.play_lines.specs.PlayText.{text_of_play}
use Rattle.play_text.specs.Printed.{printed_text}
use Rattle.play_text.specs.PlayTheorem.{play_printed}
use Rattle.play_text.specs.Edits.{bytes_of, EditorMay, editor_may}
use Rattle.play_text.specs.Exchanges.{OrderIsFree, order_is_free}
use Rattle.play_text.specs.BelievedBytes.{BuiltIsBelieved, built_is_believed}

-- an event's number is 0, or 11 to 24
abbrev pub EventNumber : ℕ → Type 0
EventNumber n = (n ≡ 0) ⊎ (within 11 24 n ≡ true)

pub event_number : (a : Answer) → EventNumber (answer_number a)
event_number (Ok t) = inl refl
event_number (Err Refusal.AlreadySubmitted) = inr refl
event_number (Err Refusal.SubmissionsFull) = inr refl
event_number (Err Refusal.NotFaulty) = inr refl
event_number (Err Refusal.CounterFull) = inr refl
event_number (Err Refusal.NotIssued) = inr refl
event_number (Err Refusal.ReceiverFaulty) = inr refl
event_number (Err Refusal.TooLate) = inr refl
event_number (Err Refusal.TooEarly) = inr refl
event_number (Err Refusal.NotNext) = inr refl
event_number (Err Refusal.WrongRoles) = inr refl
event_number (Err Refusal.Unexpected) = inr refl
event_number (Err Refusal.NotValid) = inr refl
event_number (Err Refusal.FilesFull) = inr refl
event_number (Err Refusal.CannotBuild) = inr refl

-- event n's answer and its number
pub record Answered (kit : Kit) (n : ℕ) : Type 0 where
  pub said : Answer
  pub is : answer kit n ≡ Some said
  pub number : EventNumber (answer_number said)

pub record Demands (bytes : List ℕ) (kit : Kit) : Type 0 where
  -- the bytes are the one spelling of a good kit
  pub spells : Spells bytes kit
  -- demand 1: every event is answered by number
  pub answers : (n : ℕ) → n < length kit.events → Answered kit n
  -- a refused event leaves the room as the clock left it
  pub refused : (n : ℕ) (e : Entry) → nth kit.events n ≡ Some e → ((step kit (after kit n) e).answer ≡ Taken → ⊥)
      → after kit (suc n) ≡ tick kit (after kit n) e.gap
  -- that is, it changes nothing but the clock and the late tick
  pub refused_only : (n : ℕ) (e : Entry) → nth kit.events n ≡ Some e → ((step kit (after kit n) e).answer ≡ Taken → ⊥)
      → Ticked (after kit n) e.gap (after kit (suc n))
  -- demand 2: after each event the parts, clocks and answers that `player::play` leaves are the rules'
  pub plays : (n : ℕ) → n ≤ length kit.events → PlaysAs kit n (played_from bytes (settings_in bytes) n)
  -- and what is printed is the play that the rules say
  pub prints : printed_text bytes ≡ text_of_play kit
  -- demand 3
  pub agree : SettledListsAgree kit
  -- what an editor may do: join idles, cut one, take out an idle of 0 or put one in (`bytes_of kit` there is `bytes`, by `spells`)
  pub editor : EditorMay kit
  -- two neighbouring deliveries at one tick, to different receivers, may change places if both certificates were issued before either
  pub order : OrderIsFree kit
  -- a hand of the history that event 7 built, with its own two values, is answered 0 at every later moment by every halted replica that holds none,
  -- the builder excepted; and where the switch leader is correct no correct replica holds another
  pub believed : BuiltIsBelieved kit

refused_ticks : (kit : Kit) (n : ℕ) (e : Entry) → nth kit.events n ≡ Some e → ((step kit (after kit n) e).answer ≡ Taken → ⊥)
    → after kit (suc n) ≡ tick kit (after kit n) e.gap
refused_ticks kit n e is untaken = after_suc kit n e is ∙ refused_is_ticked kit (after kit n) e untaken

pub demands : (bytes : List ℕ) → Bytes bytes → check_of bytes ≡ Accepted → Demands bytes (kit_of bytes)
unfolding answer
demands bytes are e =
    let kit = kit_of bytes in
    let s = accepted_spells bytes are e in
    let spelled : Spells (bytes_of kit) kit = record { good = s.good; words = s.words; same = refl } in
    record {
      spells = s;
      answers = λ n h. let at = nth_in kit.events n h in
          record { said = (step kit (after kit n) at.0).answer; is = rw at.1; number = event_number (step kit (after kit n) at.0).answer };
      refused = refused_ticks kit;
      refused_only = λ n f is untaken. rw (refused_ticks kit n f is untaken) (tick_ticked kit (after kit n) f.gap);
      plays = plays_first bytes kit s.good (settings_in bytes) (spells_opens bytes kit s);
      prints = play_printed bytes kit s;
      agree = settled_lists_agree kit s.good;
      editor = editor_may kit spelled;
      order = order_is_free kit spelled;
      believed = built_is_believed kit spelled;
    }

-- a refused kit prints its number and nothing is played
pub refused_printed : (bytes : List ℕ) → (kit_number_of (check_of bytes) ≡ 0 → ⊥) → printed_text bytes ≡ kit_line (kit_number_of (check_of bytes))
unfolding printed_text
refused_printed bytes wrong = rw (ne_eqb (kit_number_of (check_of bytes)) 0 wrong)
