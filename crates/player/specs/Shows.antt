-- Demand 2: after each event the parts that the player keeps are the rules' room laid out, padding included, and each clock and each
-- answer is the rules'. Assumes nothing.
use Rattle.std.specs.Prelude.{◌≡◌, List, ℕ, suc, ◌≤◌, ◌<◌, length, get_or, set, eqb, Some, Ok, Err}
use Rattle.std.proofs.Math.Path.{refl, ap}
use Rattle.std.proofs.Common.{sym, ◌∙◌, arith, length-set, get_or-set_same, get_or-set_other, eqb-true}
use Rattle.std.proofs.lemmas.Bool.{eqb-false}
use Rattle.terms.specs.Limits.{events_max, requests_max, replicas}
use Rattle.terms.specs.Lists.{nth}
use Rattle.terms.specs.ListLaws.{split, nth-lt}
use Rattle.terms.specs.Padding.{pad}
use Rattle.terms.specs.Kit.{Kit, Entry, GoodKit, GoodEvent}
use Rattle.terms.specs.Numbers.{answer_number}
use Rattle.terms.specs.declared.Event.{Event}
use Rattle.terms.specs.Numbers.{Answer}
use Rattle.rules.specs.Room.{Room}
use Rattle.rules.specs.Clock.{tick}
use Rattle.rules.specs.Play.{on_event, step, after, answer}
use Rattle.rules.proofs.Laws.Growth.{Grows, event_grows, after_suc}
use Rattle.rules.proofs.Laws.Time.{step_clock}
use Rattle.rules.proofs.Laws.Refused.{tick_ticked}
use Rattle.replica.specs.declared.Replica.{Replica}
use Rattle.replica.specs.RecordLayout.{lay_replica}
use Rattle.rules.specs.Outcome.{answer_of}
use Rattle.rules.specs.Decide.{concerned, decide, carried_out}
use Rattle.rules.proofs.Laws.Tested.{Tested, tested}
use Rattle.room.specs.Layout.{Parts, lay_roles, lay_desk, lay_room}
use Rattle.room.specs.LayoutLaws.{replica_laid}
use Rattle.room.specs.Bounds.{Bounds}
use Rattle.room.specs.GoodLaws.{concerned_below}
use Rattle.room.specs.Reached.{reached, reached_tick}
use Rattle.terms.specs.declared.Roles.{Roles}
use Rattle.terms.specs.declared.Submissions.{Submissions}
use Rattle.terms.specs.Lent.{Histories}
use Rattle.room.specs.declared.Desk.{Desk}
use Rattle.terms.specs.Numbers.{Decision}
use Rattle.terms.specs.declared.Deed.{Deed}
use Rattle.kit.specs.Reader.{next_in, list_after, filed_into}
use Rattle.kit.specs.Cursor.{CursorAt, EntryRead, next_cursor}
use Rattle.clock.specs.Clocked.{clock_on}
use Rattle.clock.specs.Known.{Known}
use Rattle.clock.proofs.KnownLaws.{known_grows}
use Rattle.clock.proofs.ClockLaws.{known_after, known_after_lem, clock_laid}
use Rattle.decide.specs.DecidedLaws.{concerned_laid, decided_laid}
use Rattle.carry_out.specs.Enter.{enter_on}
use Rattle.carry_out.specs.Done.{done_on}
use Rattle.carry_out.specs.DoneLaws.{done_laid}
use Rattle.player.specs.Turn.{Stage, no_replica, said, turn_on}

-- ---- only an event 8 looks at the list beside it

-- what is read beside the event serves as well as its requests padded
enter_read
    : (kit : Kit) (r : Room) (event : Event) (x : ℕ) (d : Decision) → Tested kit r event x d
    → (desk : Desk) (p : Replica) (requests before : List ℕ) (n : ℕ) (s : Submissions) (f : Histories)
    → enter_on d desk p (filed_into event requests before) n s f ≡ enter_on d desk p (pad requests_max requests) n s f
unfolding enter_on pad
enter_read kit r event x (Err answer) t desk p l b n s f = refl
enter_read kit r event x (Ok (Deed.Submit request)) t desk p l b n s f = refl
enter_read kit r event x (Ok (Deed.Issue replica name content)) t desk p l b n s f = refl
enter_read kit r event x (Ok (Deed.Act act)) t desk p l b n s f = refl
enter_read kit r event x (Ok Deed.Idle) t desk p l b n s f = refl
enter_read kit r event x (Ok (Deed.Build j k)) t desk p l b n s f = refl
enter_read kit r event x (Ok (Deed.File j k)) t desk p l b n s f = rw t.event

done_read : (kit : Kit) (r : Room) (roles : Roles) (parts : Parts) (p : Replica) (me : ℕ) (event : Event) (requests before : List ℕ) (n : ℕ)
    → done_on roles parts p me (decide kit r event) (filed_into event requests before) n
    ≡ done_on roles parts p me (decide kit r event) (pad requests_max requests) n
unfolding done_on
done_read kit r roles parts p me event requests before n =
    rw (enter_read kit r event (concerned kit event) (decide kit r event) (tested kit r event) parts.desk p requests before n)

-- ---- the stage after n events shows the rules' room

pub record Shows (bytes : List ℕ) (kit : Kit) (n : ℕ) (s : Stage) : Type 0 where
  pub known : ℕ
  pub knows : Known kit (after kit n) known
  pub parts : s.parts ≡ lay_room (after kit n) known
  pub cursor : CursorAt bytes kit n s.at
  pub clocks_long : length s.log.clocks ≡ events_max
  pub answers_long : length s.log.answers ≡ events_max
  pub clock_at : (k : ℕ) → k < n → get_or s.log.clocks k 0 ≡ (after kit (suc k)).clock
  pub answer_at : (k : ℕ) (a : Answer) → k < n → answer kit k ≡ Some a → get_or s.log.answers k 0 ≡ answer_number a

-- one more is stored behind what is there
stored : (l : List ℕ) (n v k : ℕ) (w : ℕ) → n < length l → (k < n → get_or l k 0 ≡ w) → (k ≡ n → v ≡ w) → k < suc n → get_or (set l n v) k 0 ≡ w
stored l n v k w long old new below =
    split (eqb k n)
    (λ t. let z = eqb-true k n t in rw z (get_or-set_same l n v 0 long ∙ new z))
    (λ t. let ne = eqb-false k n t in get_or-set_other l n k v 0 ne ∙ old (omega arith))

module _ (bytes : List ℕ) (kit : Kit) (good : GoodKit kit) (n : ℕ) (s : Stage) (e : Entry) (is : nth kit.events n ≡ Some e) (h : Shows bytes kit n s) where
  abbrev r : Room
  r = after kit n

  -- the room in which the event is decided
  abbrev t : Room
  t = tick kit r e.gap

  abbrev k' : ℕ
  k' = known_after kit r h.known e.gap

  abbrev d : Decision
  d = decide kit t e.event

  abbrev me : ℕ
  me = concerned kit e.event

  read : EntryRead bytes kit n s.at e
  read = next_cursor bytes kit n s.at e good h.cursor is

  fits : GoodEvent (replicas kit.f) e.event e.requests
  fits = (good.events_good n e is).event

  ticked : clock_on (lay_roles kit) s.parts (next_in bytes s.at).gap ≡ lay_room t k'
  ticked =
      rw (h.parts, read.gap)
      (sym (clock_laid kit r h.known e.gap (reached kit good n) h.knows (good.events_good n e is).gap))

  -- the room after the event
  done : lay_room (carried_out kit t me d e.requests) k' ≡ lay_room (after kit (suc n)) k'
  unfolding step on_event
  done = ap (λ (z : Room). lay_room z k') (sym (after_suc kit n e is))

  bounded : Bounds kit t
  bounded = reached_tick kit good n e is

  record_laid : get_or (lay_room t k').replicas me no_replica ≡ lay_replica (t.replica me)
  unfolding lay_room
  record_laid = replica_laid t.replica me no_replica (concerned_below kit e.event e.requests good fits)

  clock_shown : (lay_room t k').desk.clock ≡ t.clock
  unfolding lay_room lay_desk
  clock_shown = refl

  made : turn_on bytes (lay_roles kit) n s
      ≡ record {
        parts = lay_room (after kit (suc n)) k';
        log = said s.log n (answer_number (answer_of d)) (lay_room t k').desk.clock;
        list = list_after bytes s.at s.list;
        at = (next_in bytes s.at).next;
      }
  unfolding turn_on
  made =
      rw (ticked, read.event, read.count)
      (rw (concerned_laid kit e.event e.requests good fits, record_laid)
      (rw (decided_laid kit t k' e.event e.requests bounded fits, read.list s.list)
      (rw (done_read kit t (lay_roles kit) (lay_room t k') (lay_replica (t.replica me)) me e.event e.requests s.list
      (length e.requests))
      (rw (done_laid kit t k' e.event e.requests bounded fits, done)))))

  grown : Grows t (after kit (suc n))
  unfolding step
  grown = rw (after_suc kit n e is) (event_grows kit t e.event e.requests)

  -- the event's clock and answer are the rules'
  clock_now : t.clock ≡ (after kit (suc n)).clock
  clock_now =
      (tick_ticked kit r e.gap).clock ∙ sym (step_clock kit r e) ∙ ap (λ (z : Room). z.clock) (sym (after_suc kit n e is))

  answer_now : (a : Answer) → answer kit n ≡ Some a → answer_number (answer_of d) ≡ answer_number a
  unfolding answer step on_event
  answer_now a z =
      let w : Some (on_event kit t e.event e.requests).answer ≡ Some a = rw is at z in
      let v : (on_event kit t e.event e.requests).answer ≡ a = cc in
      ap answer_number v

  pub one_turn : Shows bytes kit (suc n) (turn_on bytes (lay_roles kit) n s)
  one_turn =
      let below : n < length kit.events = nth-lt kit.events n is in
      let most : length kit.events ≤ events_max = good.event_count in
      rw made
      (record {
        known = k';
        knows =
            known_grows kit t (after kit (suc n)) k' grown
            (known_after_lem kit r h.known e.gap (reached kit good n) h.knows (good.events_good n e is).gap);
        parts = refl;
        cursor = read.cursor;
        clocks_long = length-set s.log.clocks n (lay_room t k').desk.clock ∙ h.clocks_long;
        answers_long = length-set s.log.answers n (answer_number (answer_of d)) ∙ h.answers_long;
        clock_at = λ k l. stored s.log.clocks n (lay_room t k').desk.clock k (after kit (suc k)).clock (omega (arith, h.clocks_long))
            (λ b. h.clock_at k b) (λ z. rw z (clock_shown ∙ clock_now)) l;
        answer_at = λ k a l z. stored s.log.answers n (answer_number (answer_of d)) k (answer_number a) (omega (arith, h.answers_long))
            (λ b. h.answer_at k a b z) (λ w. answer_now a (rw w at z)) l;
      })
