-- Laws of Answered: read off the laid-out counters of a room within bounds, it is the rules' answered. Assumes nothing.
use Rattle.std.specs.Prelude.{◌≡◌, ℕ, suc, ◌<◌, ◌≤◌, false, List, length}
use Rattle.std.proofs.Math.Path.{ap, fun_ext}
use Rattle.std.proofs.Common.{◌∙◌, arith}
use Rattle.terms.specs.Limits.{replicas_max, up, places_max}
use Rattle.terms.specs.Lists.{nth, any_below}
use Rattle.terms.specs.ListLaws.{not_true_false, nth-lt, holds_nth, all_of_at, any_below_past}
use Rattle.terms.specs.Kit.{Kit}
use Rattle.terms.specs.declared.Content.{Content}
use Rattle.rules.specs.Table.{actives}
use Rattle.rules.proofs.Laws.TableLaws.{Roles, roles, actives_ext}
use Rattle.rules.specs.Room.{Room}
use Rattle.rules.specs.Reading.{answered_at, answered}
use Rattle.rules.proofs.Laws.ReadingLaws.{is_content_same}
use Rattle.ledger.specs.LedgerLayout.{lay_book}
use Rattle.ledger.specs.LedgerLaws.{content_laid}
use Rattle.replica.specs.RecordLaws.{actives_laid}
use Rattle.room.specs.Layout.{lay_roles, lay_table}
use Rattle.room.specs.Bounds.{Bounds}
use Rattle.room.specs.GoodLaws.{size_max, leader_max}
use Rattle.clock.specs.AnsweredOn.{up_value, has_updated, updated_by, answered_at_on, answered_on}

-- an up value is what the room has there
up_laid : (counter : ℕ → ℕ → List Content) (y i : ℕ) → y < replicas_max → length (counter y up) ≤ places_max
    → up_value (lay_book counter) (suc i) y ≡ nth (counter y up) i
up_laid counter y i small few = content_laid counter y up small (omega arith) (suc i) few

-- no value that the leader has not issued answers a request, since the leader is active
unanswered_past : (kit : Kit) → Roles kit → (r : Room) (request i : ℕ) → length (r.counter kit.leader up) ≤ i → answered_at kit r request (suc i) ≡ false
unfolding answered_at
unanswered_past kit role r request i past =
    not_true_false _
    (λ t. let place = holds_nth (actives kit) kit.leader (role.active_listed kit.leader role.leader_active) in
    let own = all_of_at (actives kit) _ t place.0 kit.leader place.1 in
    absurd (omega (arith, nth-lt (r.counter kit.leader up) i (is_content_same (nth (r.counter kit.leader up) i) _ own))))

module _ (kit : Kit) (r : Room) (b : Bounds kit r) where
  at_laid : (request i : ℕ)
      → answered_at_on (lay_roles kit) request (lay_book r.counter) i ≡ answered_at kit r request (suc i)
  unfolding answered_at_on updated_by has_updated answered_at actives lay_roles lay_table
  at_laid request i =
      rw (actives_laid kit.table, up_laid r.counter kit.leader i (leader_max b.good) (b.counter_max kit.leader up))
      (actives_ext kit.table 0 _ _ (λ y h. rw (up_laid r.counter y i (omega (arith, size_max b.good)) (b.counter_max y up))))

  pub answered_laid : (request : ℕ) → answered_on (lay_roles kit) request (lay_book r.counter) ≡ answered kit r request
  unfolding answered_on answered
  answered_laid request =
      ap (any_below places_max) (fun_ext (at_laid request))
      ∙ any_below_past places_max (length (r.counter kit.leader up)) (λ i. answered_at kit r request (suc i)) (b.counter_max kit.leader up)
      (unanswered_past kit (roles kit b.good) r request)
