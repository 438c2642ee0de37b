-- What stands in the record and on the counters of a correct replica at every moment of a good kit's play: its settled count, and of an active one
-- its mark, its UPDATEs, and the COMMITs below what it accepted. Assumes nothing.
use Rattle.std.specs.Prelude.{◌≡◌, true, false, ◌≢◌, List, ℕ, suc, ◌≤◌, ◌<◌, length, take, Some}
use Rattle.std.proofs.Common.{sym, ◌∙◌, arith}
use Rattle.std.proofs.Math.Path.{ap}
use Rattle.std.proofs.Math.ListN.{get_or}
use Rattle.std.proofs.Math.Seq.{length-take-le, take-take}
use Rattle.terms.specs.Limits.{ag, up}
use Rattle.terms.specs.Lists.{nth}
use Rattle.terms.specs.ListLaws.{split, nth-lt, nth-get_or, take_nth}
use Rattle.terms.specs.Mark.{mark_of}
use Rattle.terms.specs.Kit.{Kit, GoodKit}
use Rattle.terms.specs.declared.Content.TheVariants.{Commit, Update}
use Rattle.rules.specs.Table.{is_active}
use Rattle.rules.proofs.Laws.TableLaws.{Roles, roles}
use Rattle.rules.specs.Room.{Room}
use Rattle.rules.specs.Reading.{is_closed, settled_count, settled_noted, settled, ag_total}
use Rattle.rules.proofs.Laws.ReadingLaws.{settled_count_passive}
use Rattle.rules.specs.Play.{after}
use Rattle.rules.proofs.Agreement.Invariant.{Active, Invariant}
use Rattle.rules.proofs.Agreement.OneRoom.{open_list, settled_open}
use Rattle.rules.proofs.Agreement.OneReplica.{settled_within, passive_within}
use Rattle.rules.proofs.Agreement.Throughout.{at_moment}
use Rattle.rules.proofs.Agreement.Theorem.{settled_at, Correct}

-- of an active one, x
pub record ActiveStands (kit : Kit) (r : Room) (x : ℕ) : Type 0 where
  -- as long as it is not closed its mark is the mark of its settled list
  pub mark : is_closed (r.replica x).condition ≡ false → (r.replica x).mark ≡ mark_of (settled kit r x)
  -- its first UPDATEs are of the requests that it settled before it closed, if it did, in order, each with the mark of those up to it
  pub updates : (i : ℕ) → i < length (open_list kit r x)
      → nth (r.counter x up) i ≡ Some (Update (get_or (open_list kit r x) i 0) (mark_of (take (suc i) (open_list kit r x))))
  -- below what it accepted of another than the leader stand the COMMITs of its own noted requests
  pub commits : (y i : ℕ) → y ≢ kit.leader → i < (r.replica x).accepted y ag
      → nth (r.counter y ag) i ≡ Some (Commit (get_or (r.replica x).noted i 0) (suc i))

pub record Standing (kit : Kit) : Type 0 where
  -- the settled count of one that is not closed is the length of its settled list
  pub count : (n x : ℕ) → Correct kit x → is_closed ((after kit n).replica x).condition ≡ false
      → settled_count kit x ((after kit n).replica x) (length ((after kit n).counter x ag)) ≡ length (settled_at kit n x)
  pub active : (n x : ℕ) → Correct kit x → is_active kit x ≡ true → ActiveStands kit (after kit n) x

module _ (kit : Kit) (roles : Roles kit) (r : Room) (a : Invariant kit r) (x : ℕ) (fx : Correct kit x) where
  abbrev noted : List ℕ
  noted = (r.replica x).noted

  abbrev count : ℕ
  count = settled_count kit x (r.replica x) (ag_total r x)

  count_noted : count ≤ length noted
  count_noted =
      split (is_active kit x) (λ t. settled_within ((a.part x fx).active t))
      (λ t. let l = kit.leader in
      omega (
        arith,
        settled_count_passive kit x (r.replica x) (ag_total r x) l t (roles.active_listed l roles.leader_active),
        passive_within kit (r.replica x) l ((a.part x fx).passive t),
      ))

  open_length : length (open_list kit r x) ≡ count
  unfolding settled_noted
  open_length = length-take-le count noted count_noted

  settled_here : is_closed (r.replica x).condition ≡ false → settled kit r x ≡ open_list kit r x
  settled_here op = settled_open kit r x (a.faulty_marked x ∙ fx) op

  active_stands : is_active kit x ≡ true → ActiveStands kit r x
  unfolding settled_noted
  active_stands ax =
      record {
        mark = λ op. shown.mark_settled op ∙ ap mark_of (sym (settled_here op));
        updates = λ i l.
            let few : i < count = omega (arith, open_length) in
            let t = shown.updates_marked i few in
            let n = take_nth count noted i few t.1 in
            let z : get_or (open_list kit r x) i 0 ≡ t.0 = cc (n, nth-get_or (open_list kit r x) i 0 l) in
            rw (z, take-take (suc i) count noted few) t.2;
        commits = λ y i d l.
            let t = shown.commits_seen y d i l in
            let z : get_or noted i 0 ≡ t.0 = cc (t.1, nth-get_or noted i 0 (nth-lt noted i t.1)) in
            rw z t.2;
      }
    where
      shown : Active kit r x (r.replica x) (r.counter x ag) (r.counter x up) count
      shown = (a.part x fx).active ax

pub standing : (kit : Kit) → GoodKit kit → Standing kit
standing kit good =
    record {
      count = λ n x fx op.
          sym (ap length (settled_here kit (roles kit good) (after kit n) (at_moment kit good n) x fx op)
          ∙ open_length kit (roles kit good) (after kit n) (at_moment kit good n) x fx);
      active = λ n x fx. active_stands kit (roles kit good) (after kit n) (at_moment kit good n) x fx;
    }
