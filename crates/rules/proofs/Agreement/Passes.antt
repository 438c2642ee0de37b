-- A sound history passes the test of a hand, so that it is valid as long as it is sound, which is for ever; and with its two values a hand of it is taken
-- by every halted replica, the switch leader excepted, that holds none. Assumes nothing.
use Rattle.std.specs.Prelude.{◌≡◌, true, ◌≢◌, List, ℕ, suc, ◌<◌, eqb, None, Some}
use Rattle.std.proofs.lemmas.Bool.{eqb-false}
use Rattle.std.proofs.Common.{ne_eqb}
use Rattle.terms.specs.Lists.{nth}
use Rattle.terms.specs.ListLaws.{split, and_both, eqb_same, holds_at, all_below_from, all_of_from}
use Rattle.terms.specs.ListLaws.{once_distinct}
use Rattle.terms.specs.Kit.{Kit}
use Rattle.terms.specs.declared.Condition.TheVariants.{Halted}
use Rattle.terms.specs.declared.Event.TheVariants.{Hand}
use Rattle.rules.specs.Table.{actives, switch_leader}
use Rattle.rules.specs.Room.{Room, Filing}
use Rattle.rules.proofs.Laws.ReadingLaws.{entry_at-suc, is_content_self}
use Rattle.rules.specs.Outcome.{refuse_if, taken}
use Rattle.rules.specs.Switching.{is_committed, is_settled_by, is_valid, decide_hold, decide_hand, after_hand}
use Rattle.rules.specs.Decide.{concerned, decide, acted, carried_out}
use Rattle.rules.specs.Play.{on_event}
use Rattle.rules.proofs.Agreement.Sound.{Sound}

module _ (kit : Kit) {r : Room} {number : ℕ} {filing : Filing} (v : Sound kit r number filing) where
  committed_passes : (i : ℕ) → i < filing.k → is_committed kit r filing.list (suc i) ≡ true
  unfolding is_committed
  committed_passes i l = rw (entry_at-suc filing.list i) (and_both (is_content_self (v.committed i l)) (is_content_self (v.prepared i l)))

  settled_passes : (i : ℕ) → i < filing.j → is_settled_by kit r filing.list (suc i) ≡ true
  unfolding is_settled_by
  settled_passes i l =
      rw (entry_at-suc filing.list i) (and_both
      (all_of_from (actives kit) _ λ n y e.
      split (eqb y kit.leader) (λ t. rw t)
      (λ t. split (eqb y (switch_leader kit)) (λ u. rw (t, u))
      (λ u. rw (t, u) (is_content_self
      (v.committed_by_all i y l (holds_at (actives kit) n y e) (eqb-false y kit.leader t) (eqb-false y (switch_leader kit) u))))))
      (is_content_self (v.updated i l)))

  sound_passes : is_valid kit r (suc filing.k) (suc filing.j) number filing ≡ true
  unfolding is_valid
  sound_passes =
      and_both (is_content_self v.on_ag) (and_both (is_content_self v.on_up)
      (and_both (eqb_same (suc filing.k)) (and_both (eqb_same (suc filing.j))
      (and_both (all_below_from filing.k _ committed_passes) (and_both (all_below_from filing.j _ settled_passes)
      (and_both (all_of_from filing.list _ v.submitted) (once_distinct filing.list v.once)))))))

-- a hand of it is taken
pub sound_hands
    : (kit : Kit) {r : Room} {number : ℕ} {filing : Filing} → Sound kit r number filing → nth r.histories number ≡ Some filing
    → (to : ℕ) → to ≢ switch_leader kit → (r.replica to).condition ≡ Halted → (r.replica to).held ≡ None
    → (list : List ℕ) → on_event kit r (Hand (suc filing.k) (suc filing.j) to) list ≡ taken (after_hand r to number)
unfolding on_event concerned decide decide_hand decide_hold refuse_if carried_out acted
sound_hands kit v filed to other halted free list = rw (halted, v.on_ag, v.on_up, free, ne_eqb to (switch_leader kit) other, filed, sound_passes kit v)
