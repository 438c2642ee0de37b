-- Laws of Turn: a turn from what its steps promise, and one event more. Assumes nothing.
use Rattle.std.specs.Prelude.{◌≡◌, false, List, ℕ, suc, ◌+◌, ◌-◌, ◌≤◌, ◌<◌, get_or, set, leb}
use Rattle.std.proofs.Common.{sym, ap, ◌∙◌, arith, leb-false}
use Rattle.std.proofs.lemmas.List.{set-get_or}
use Rattle.terms.specs.Limits.{replicas_max}
use Rattle.terms.specs.ListLaws.{split}
use Rattle.terms.specs.declared.Event.{Event}
use Rattle.room.specs.declared.Desk.{Desk}
use Rattle.terms.specs.declared.Roles.{Roles}
use Rattle.terms.specs.Numbers.{Decision}
use Rattle.room.specs.Desk.{counted_on}
use Rattle.rules.specs.Outcome.{answer_of}
use Rattle.rules.specs.Decide.{concerned_by}
use Rattle.terms.specs.Numbers.{answer_number}
use Rattle.kit.specs.Reader.{next_in, list_after}
use Rattle.kit.specs.declared.Next.{Next}
use Rattle.clock.specs.Tick.{tick_on}
use Rattle.clock.specs.Clocked.{clock_on}
use Rattle.decide.specs.Decided.{below_seven, concerned_in, decide_on}
use Rattle.decide.specs.DecidedLaws.{decided_on}
use Rattle.carry_out.specs.Enter.{Entered, enter_on}
use Rattle.carry_out.specs.Apply.{Applied, apply_on, moves_on}
use Rattle.carry_out.specs.Still.{still}
use Rattle.carry_out.specs.Done.{done_on}
use Rattle.player.specs.Turn.{Stage, no_replica, said, turn_on, turns_from, stage}

-- a turn whose steps' results are what their definitions say of the results before them
module _ (bytes : List ℕ) (roles : Roles) (k : ℕ) (s : Stage)
    {e : Next} {list : List ℕ} {desk : Desk} {me : ℕ} {d : Decision} {answer : ℕ} {n : Entered} {c : Desk}
    (he : e ≡ next_in bytes s.at)
    (hl : list ≡ list_after bytes s.at s.list)
    (hd : desk ≡ tick_on s.parts.desk e.gap roles s.parts.submissions s.parts.book)
    (hm : me ≡ concerned_in e.event roles)
    (hc : d
    ≡ decide_on e.event (get_or s.parts.replicas me no_replica) desk roles s.parts.submissions s.parts.histories s.parts.book)
    (ha : answer ≡ answer_number (answer_of d))
    (hn : n ≡ enter_on d desk (get_or s.parts.replicas me no_replica) list e.count s.parts.submissions s.parts.histories)
    (hk : c ≡ counted_on desk d) where
  pub turn_made
      : {a : Applied}
      → a ≡ apply_on (get_or s.parts.replicas me no_replica) d desk me roles n.histories s.parts.book
      → turn_on bytes roles k s
      ≡ stage c (set s.parts.replicas me a.replica) (said s.log k answer desk.clock) n.submissions n.histories a.book list e.next
  unfolding turn_on clock_on decided_on done_on
  turn_made hp = rw (hk, hp, ha, hn, hc, hm, hd, hl, he)

  -- an event that moves nothing: the records and the counters stay
  pub turn_still
      : moves_on d ≡ false
      → turn_on bytes roles k s
      ≡ stage c s.parts.replicas (said s.log k answer desk.clock) n.submissions n.histories s.parts.book list e.next
  turn_still hq =
      turn_made (sym (still (get_or s.parts.replicas me no_replica) desk me roles n.histories s.parts.book d hq))
      ∙ rw (set-get_or s.parts.replicas me no_replica)

-- the record concerned is one of the seven
seven : (n : ℕ) → below_seven n < replicas_max
unfolding below_seven
seven n = split (leb replicas_max n) (λ t. rw t (omega arith)) (λ t. rw t (leb-false replicas_max n t))

pub concerned_seven : (event : Event) (roles : Roles) → concerned_in event roles < replicas_max
unfolding concerned_in
concerned_seven event roles = seven (concerned_by roles.leader roles.switcher event)

-- one event more
pub turns_next : (bytes : List ℕ) (roles : Roles) (k n : ℕ) (s : Stage) → k < n
    → turns_from bytes roles k (n - k) s ≡ turns_from bytes roles (k + 1) (n - (k + 1)) (turn_on bytes roles k s)
unfolding turns_from
turns_next bytes roles k n s h =
    let e : n - k ≡ suc (n - (k + 1)) = omega arith in
    ap (λ (m : ℕ). turns_from bytes roles k m s) e

pub turns_over : (bytes : List ℕ) (roles : Roles) (k n : ℕ) (s : Stage) → n ≤ k → turns_from bytes roles k (n - k) s ≡ s
unfolding turns_from
turns_over bytes roles k n s h =
    let e : n - k ≡ 0 = omega arith in
    ap (λ (m : ℕ). turns_from bytes roles k m s) e

pub turns_start : (bytes : List ℕ) (roles : Roles) (n : ℕ) (s : Stage)
    → turns_from bytes roles 0 n s ≡ turns_from bytes roles 0 (n - 0) s
turns_start bytes roles n s = let e : n ≡ n - 0 = omega arith in ap (λ (m : ℕ). turns_from bytes roles 0 m s) e
