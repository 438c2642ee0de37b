-- A correct switch leader is believed. What it built by event 7 is taken, with its own two values, by every halted replica that holds no history, the
-- builder excepted, at that moment and at all later ones; and where the switch leader is correct no other history is ever held by a correct
-- replica. Moments and places of events are counted from 0. What it does not say: that the history is handed to anybody, or that anybody closes.
-- In order: the statement (`Believed`, `SwitchLeaderBelieved`); its first half, for one built history; its second half, and the theorem. Assumes nothing.
use Rattle.std.proofs.Common.{◌≡◌, refl, ◌≢◌, List, ◌∙◌, arith, ℕ, zero, suc, ◌<◌, eqb-true, ne_eqb}
use Rattle.std.proofs.Math.Path.{sym, ap}
use Rattle.std.proofs.Math.Bool.{true, false}
use Rattle.std.specs.Prelude.{Option, None, Some, Err}
use Rattle.std.proofs.Math.Dec.{eqb}
use Rattle.terms.specs.Limits.{ag, up}
use Rattle.terms.specs.Lists.{nth, is_some}
use Rattle.terms.specs.ListLaws.{no_way, and_l, and_r, not_true_false}
use Rattle.terms.specs.Kit.{Kit, GoodKit, Entry}
use Rattle.terms.specs.declared.Content.{Content}
use Rattle.terms.specs.declared.Content.TheVariants.{History}
use Rattle.terms.specs.declared.Condition.TheVariants.{Running, Halted}
use Rattle.terms.specs.declared.Event.TheVariants.{Hand, Panic}
use Rattle.terms.specs.Numbers.{Taken}
use Rattle.terms.specs.declared.Refusal.TheVariants.{NotValid}
use Rattle.rules.specs.Table.{is_marked_faulty, switch_leader}
use Rattle.rules.proofs.Laws.TableLaws.{Roles, roles}
use Rattle.rules.specs.Room.{Room, Replica, Filing, fresh_room, fresh_replica, with_replica, with_condition, issue, hold}
use Rattle.rules.proofs.Laws.RoomLaws.{replica_same}
use Rattle.rules.specs.Reading.{is_running, is_faulty, content_at, first_of}
use Rattle.rules.specs.Clock.{tick}
use Rattle.rules.specs.Outcome.{Outcome, refuse_if, taken}
use Rattle.rules.specs.Switching.{decide_panic, after_panic, is_valid, is_valid_filing, decide_hold, decide_hand, after_hand}
use Rattle.rules.specs.Decide.{concerned, decide, acted, carried_out}
use Rattle.rules.specs.Play.{on_event, step, play, after, answer}
use Rattle.rules.proofs.Laws.Growth.{Grows, grows_refl, grows_trans, tick_grows, step_grows, after_grows}
use Rattle.rules.proofs.Laws.Holding.{after_keeps}
use Rattle.rules.proofs.Laws.Refused.{tick_ticked}
use Rattle.rules.proofs.Agreement.Invariant.{HistoryLast, Invariant}
use Rattle.rules.proofs.Agreement.OneRoom.{backed_one}
use Rattle.rules.proofs.Agreement.Events.{next_tick}
use Rattle.rules.proofs.Agreement.Throughout.{at_moment}
use Rattle.rules.proofs.Agreement.Theorem.{Correct}
use Rattle.rules.proofs.Agreement.Sound.{Sound, sound_grows, sound_backed}
use Rattle.rules.proofs.Agreement.Passes.{sound_hands}
use Rattle.rules.proofs.Agreement.Handover.{valid_filing_backed, built_sound}
use Rattle.rules.proofs.Agreement.Built.{BuiltAt, BuiltBefore, one_build, found, could_build, left, found_number, filing_is, held_built}

-- a hand of what stands at the switch leader's ag value p and up value q, and a PANIC; in a good kit the list is empty
abbrev pub handing : ℕ → ℕ → ℕ → ℕ → List ℕ → Entry
handing gap p q to list = record { gap = gap; event = Hand p q to; requests = list }

abbrev pub panicking : ℕ → ℕ → List ℕ → Entry
panicking gap to list = record { gap = gap; event = Panic to; requests = list }

-- HISTORY of this number stands at value v of the switch leader's counter of this name
abbrev pub HistoryAt : Kit → Room → ℕ → ℕ → ℕ → Type 0
HistoryAt kit r name v number = content_at (r.counter (switch_leader kit) name) v ≡ Some (History number)

-- a history's own two values: p on ag and q on up
abbrev pub OwnValues : Kit → Room → ℕ → ℕ → ℕ → Type 0
OwnValues kit r number p q = (HistoryAt kit r ag p number) × (HistoryAt kit r up q number)

-- something stands there
abbrev pub IssuedAt : Kit → Room → ℕ → ℕ → Type 0
IssuedAt kit r name v = is_some (content_at (r.counter (switch_leader kit) name) v) ≡ true

-- a halted replica, so a correct one, other than the builder, that holds no history
pub record Receiver (kit : Kit) (r : Room) (to : ℕ) : Type 0 where
  pub not_builder : to ≢ switch_leader kit
  pub is_halted : (r.replica to).condition ≡ Halted
  pub holds-none : (r.replica to).held ≡ None

-- history `number` = (j, k, list) was built by event m: what holds when n events, m among them, have been played
pub record Believed (kit : Kit) (n number : ℕ) (filing : Filing) : Type 0 where
  -- HISTORY of it stands at ag value k+1 and up value j+1, and at no other values: these are its own two
  pub on_ag : HistoryAt kit (after kit n) ag (suc filing.k) number
  pub on_up : HistoryAt kit (after kit n) up (suc filing.j) number
  pub only_ag : (p : ℕ) → HistoryAt kit (after kit n) ag p number → p ≡ suc filing.k
  pub only_up : (q : ℕ) → HistoryAt kit (after kit n) up q number → q ≡ suc filing.j
  -- handed with its own two values it is taken, after any gap, and then held
  pub is_taken : (p q : ℕ) → OwnValues kit (after kit n) number p q
      → (to : ℕ) → Receiver kit (after kit n) to → (gap : ℕ) (list : List ℕ) → (step kit (after kit n) (handing gap p q to list)).answer ≡ Taken
  pub is_held : (p q : ℕ) → OwnValues kit (after kit n) number p q
      → (to : ℕ) → Receiver kit (after kit n) to → (gap : ℕ) (list : List ℕ)
      → ((step kit (after kit n) (handing gap p q to list)).room.replica to).held ≡ Some number
  -- so where such a hand is event n of the kit itself, it is answered 0
  pub is_answered : (p q : ℕ) → OwnValues kit (after kit n) number p q
      → (to : ℕ) → Receiver kit (after kit n) to → (gap : ℕ) (list : List ℕ) → nth kit.events n ≡ Some (handing gap p q to list)
      → answer kit n ≡ Some Taken
  -- one that still runs takes it as soon as a PANIC has reached it
  pub halts_first : (p q : ℕ) → OwnValues kit (after kit n) number p q
      → (to : ℕ) → to ≢ switch_leader kit → ((after kit n).replica to).condition ≡ Running → (gap gap₁ : ℕ) (list list₁ : List ℕ)
      → (step kit (step kit (after kit n) (panicking gap to list)).room (handing gap₁ p q to list₁)).answer ≡ Taken
  -- any other two issued values of the two counters are answered 22
  pub others_refused : (p q : ℕ) → IssuedAt kit (after kit n) ag p → IssuedAt kit (after kit n) up q → (p ≡ suc filing.k → q ≡ suc filing.j → ⊥)
      → (to : ℕ) → Receiver kit (after kit n) to → (gap : ℕ) (list : List ℕ) → (step kit (after kit n) (handing gap p q to list)).answer ≡ Err NotValid

pub record SwitchLeaderBelieved (kit : Kit) : Type 0 where
  -- the history that event 7 built is believed from then on
  pub believed : (m number : ℕ) (filing : Filing) → BuiltAt kit m number filing → (n : ℕ) → m < n → Believed kit n number filing
  -- where the switch leader is correct, whatever a correct replica holds event 7 filed before; and there is one such event at most
  pub no_other : Correct kit (switch_leader kit) → (n x h : ℕ) → Correct kit x → ((after kit n).replica x).held ≡ Some h → BuiltBefore kit n h
  pub one_build : (m n g h : ℕ) (a b : Filing) → BuiltAt kit m g a → BuiltAt kit n h b → (m ≡ n) × (g ≡ h) × (a ≡ b)
  -- a faulty one never holds any
  pub faulty_none : (n x : ℕ) → is_marked_faulty kit x ≡ true → ((after kit n).replica x).held ≡ None

-- ---- the first half

-- a HISTORY that is last on its counter stands at one value
one_place : (held : Option ℕ) (issued : List Content) → HistoryLast held issued → (p i h : ℕ) → content_at issued p ≡ Some (History h)
    → nth issued i ≡ Some (History h) → p ≡ suc i
one_place held issued w zero i h e d = no_way (cc e)
one_place held issued w (suc n) i h e d = omega (arith, (w n h e).0, (w i h d).0)

-- the room in which a running replica has taken a PANIC
panic_halts : (kit : Kit) (r : Room) (to : ℕ) (list : List ℕ) → (r.replica to).condition ≡ Running
    → (on_event kit r (Panic to) list).room ≡ with_replica r to (with_condition (r.replica to) Halted)
unfolding on_event concerned decide decide_panic refuse_if carried_out acted after_panic with_condition
panic_halts kit r to list e = rw e

module _ (kit : Kit) (good : GoodKit kit) {m number : ℕ} {filing : Filing} (b : BuiltAt kit m number filing) where
  invariant_then : Invariant kit (found b)
  invariant_then = (next_tick kit (after kit m) (at_moment kit good m) b.gap).invariant

  builder_correct : Correct kit (switch_leader kit)
  builder_correct = sym (invariant_then.faulty_marked (switch_leader kit)) ∙ (could_build b).correct

  sound_then : Sound kit (after kit (suc m)) number filing
  sound_then =
      let s = built_sound kit (roles kit good) (found b) invariant_then builder_correct (could_build b).free in
      rw (left b, ← (found_number b), ← (filing_is b)) s

  module _ (n : ℕ) (later : m < n) where
    sound_now : Sound kit (after kit n) number filing
    sound_now = sound_grows kit (after_grows kit (suc m) n later) sound_then

    filed_now : nth (after kit n).histories number ≡ Some filing
    filed_now = (after_grows kit (suc m) n later).filings _ _ b.is_filed_lem

    abbrev builder : Replica
    builder = (after kit n).replica (switch_leader kit)

    abbrev issued : ℕ → List Content
    issued name = (after kit n).counter (switch_leader kit) name

    history_last : (HistoryLast builder.held (issued ag)) × (HistoryLast builder.held (issued up))
    history_last =
        let shown = ((at_moment kit good n).part (switch_leader kit) builder_correct).active (roles kit good).switch_active in
        (shown.ag_history, shown.up_history)

    only_on_ag : (p : ℕ) → HistoryAt kit (after kit n) ag p number → p ≡ suc filing.k
    only_on_ag p e = one_place builder.held (issued ag) history_last.0 p filing.k number e sound_now.on_ag

    only_on_up : (q : ℕ) → HistoryAt kit (after kit n) up q number → q ≡ suc filing.j
    only_on_up q e = one_place builder.held (issued up) history_last.1 q filing.j number e sound_now.on_up

    -- in any room that has grown from this one
    hand_step : {r : Room} (p q to gap : ℕ) (list : List ℕ) → Grows (after kit n) r → OwnValues kit (after kit n) number p q
        → Receiver kit r to → step kit r (handing gap p q to list) ≡ taken (after_hand (tick kit r gap) to number)
    unfolding step
    hand_step {r} p q to gap list g own w =
        let t = tick_ticked kit r gap in
        let g₁ = grows_trans g (tick_grows kit r gap) in
        rw (only_on_ag p own.0, only_on_up q own.1)
        (sound_hands kit (sound_grows kit g₁ sound_now) (g₁.filings _ _ filed_now) to w.not_builder (rw t.replica w.is_halted)
        (rw t.replica w.holds-none) list)

    -- the hand of another history, or with another value, fails its test
    module _ {r : Room} (grows : Grows (after kit n) r) (a : Invariant kit r) (p q h : ℕ) where
      passed_number : is_valid_filing kit r p q h (nth r.histories h) ≡ true → h ≡ number
      passed_number passed =
          backed_one kit r h number (valid_filing_backed kit r a p q h (nth r.histories h) refl passed)
          (sound_backed kit (grows.filings _ _ filed_now) (a.histories_fit number filing (grows.filings _ _ filed_now)).k_list
          (sound_grows kit grows sound_now))

      passed_values : is_valid_filing kit r p q h (nth r.histories h) ≡ true → (p ≡ suc filing.k) × (q ≡ suc filing.j)
      unfolding is_valid
      passed_values passed =
          let there : is_valid_filing kit r p q number (Some filing) ≡ true = rw (passed_number passed, grows.filings _ _ filed_now) at passed in
          let ag-value : eqb p (suc filing.k) ≡ true = search (and_l, and_r) in
          let up-value : eqb q (suc filing.j) ≡ true = search (and_l, and_r) depth 7 in
          (eqb-true p (suc filing.k) ag-value, eqb-true q (suc filing.j) up-value)

    other_step : (p q : ℕ) → IssuedAt kit (after kit n) ag p → IssuedAt kit (after kit n) up q → (p ≡ suc filing.k → q ≡ suc filing.j → ⊥)
        → (to : ℕ) → Receiver kit (after kit n) to → (gap : ℕ) (list : List ℕ) → (step kit (after kit n) (handing gap p q to list)).answer ≡ Err NotValid
    unfolding step on_event concerned decide decide_hand decide_hold refuse_if
    other_step p q ip iq other to w gap list =
        let r = tick kit (after kit n) gap in
        let t = tick_ticked kit (after kit n) gap in
        let h = first_of (content_at (r.counter (switch_leader kit) ag) p) in
        let inv = (next_tick kit (after kit n) (at_moment kit good n) gap).invariant in
        let fails : is_valid_filing kit r p q h (nth r.histories h) ≡ false = not_true_false (is_valid_filing kit r p q h (nth r.histories h))
        (λ passed. let v = passed_values (tick_grows kit (after kit n) gap) inv p q h passed in other v.0 v.1) in
        let halted : (r.replica to).condition ≡ Halted = ap (λ (g : ℕ → Replica). (g to).condition) t.replica ∙ w.is_halted in
        let free : (r.replica to).held ≡ None = ap (λ (g : ℕ → Replica). (g to).held) t.replica ∙ w.holds-none in
        let on_ag : is_some (content_at (r.counter (switch_leader kit) ag) p) ≡ true = rw t.counter ip in
        let on_up : is_some (content_at (r.counter (switch_leader kit) up) q) ≡ true = rw t.counter iq in
        rw (fails, halted, on_ag, on_up, free, ne_eqb to (switch_leader kit) w.not_builder)

    -- the room in which a PANIC has reached a running one
    panicked : (to gap : ℕ) (list : List ℕ) → to ≢ switch_leader kit → ((after kit n).replica to).condition ≡ Running
        → Receiver kit (step kit (after kit n) (panicking gap to list)).room to
    unfolding step with_condition
    panicked to gap list other runs =
        let r = tick kit (after kit n) gap in
        let same = (tick_ticked kit (after kit n) gap).replica in
        let run : (r.replica to).condition ≡ Running = rw same runs in
        let now = ap (λ (z : Room). z.replica to) (panic_halts kit r to list run) ∙ replica_same r to (with_condition (r.replica to) Halted) in
        let correct : Correct kit to = sym ((at_moment kit good n).faulty_marked to) ∙ ap is_faulty runs in
        record {
          not_builder = other;
          is_halted = ap (λ (z : Replica). z.condition) now;
          holds-none = ap (λ (z : Replica). z.held) now ∙ ap (λ (g : ℕ → Replica). (g to).held) same
              ∙ ((at_moment kit good n).part to correct).common.running_holds-none (ap is_running runs);
        }

    pub believed_now : Believed kit n number filing
    unfolding answer after_hand issue hold
    believed_now =
        record {
          on_ag = sound_now.on_ag;
          on_up = sound_now.on_up;
          only_ag = only_on_ag;
          only_up = only_on_up;
          is_taken = λ p q own to w gap list. ap (λ (o : Outcome). o.answer) (hand_step p q to gap list (grows_refl (after kit n)) own w);
          is_held = λ p q own to w gap list.
              let r = tick kit (after kit n) gap in
              ap (λ (o : Outcome). (o.room.replica to).held) (hand_step p q to gap list (grows_refl (after kit n)) own w)
              ∙ ap (λ (z : Replica). z.held) (replica_same r to (hold (r.replica to) number));
          is_answered = λ p q own to w gap list e.
              rw e (ap (λ (o : Outcome). Some o.answer) (hand_step p q to gap list (grows_refl (after kit n)) own w));
          halts_first = λ p q own to other runs gap gap₁ list list₁.
              ap (λ (o : Outcome). o.answer)
              (hand_step p q to gap₁ list₁ (step_grows kit (after kit n) (panicking gap to list)) own (panicked to gap list other runs));
          others_refused = other_step;
        }

-- ---- the second half

-- in one room: what a correct replica holds, a correct switch leader holds, since HISTORY of it stands on its ag
holds_with_it : (kit : Kit) → Roles kit → (r : Room) → Invariant kit r → Correct kit (switch_leader kit) → (x h : ℕ) → Correct kit x
    → (r.replica x).held ≡ Some h → (r.replica (switch_leader kit)).held ≡ Some h
holds_with_it kit roles r a fs x h fx e =
    let backed = (a.part x fx).common.held_backed h e in
    (((a.part (switch_leader kit) fs).active roles.switch_active).ag_history backed.filing.k h backed.announced).1

faulty_holds-none : (kit : Kit) (n x : ℕ) → is_marked_faulty kit x ≡ true → ((after kit n).replica x).held ≡ None
unfolding after play fresh_room fresh_replica
faulty_holds-none kit n x e = ap (λ (p : Replica). p.held) ((after_keeps kit 0 n (omega arith)).untouched x (rw e))

pub switch_leader_believed : (kit : Kit) → GoodKit kit → SwitchLeaderBelieved kit
switch_leader_believed kit good =
    record {
      believed = λ m number filing b. believed_now kit good b;
      no_other = λ fs n x h fx e. held_built kit h n (holds_with_it kit (roles kit good) (after kit n) (at_moment kit good n) fs x h fx e);
      one_build = one_build kit;
      faulty_none = faulty_holds-none kit;
    }
