-- What the player does of a good event's decision, on the parts of a laid-out room within bounds, is what the rules do of it, laid out.
-- Assumes nothing.
use Rattle.std.specs.Prelude.{◌≡◌, List, ℕ, ◌<◌, length, None, Ok, Err}
use Rattle.std.proofs.Common.{subst, arith}
use Rattle.terms.specs.Limits.{replicas, replicas_max, requests_max}
use Rattle.terms.specs.Padding.{pad}
use Rattle.terms.specs.Kit.{Kit, GoodEvent}
use Rattle.terms.specs.declared.Event.{Event}
use Rattle.terms.specs.declared.Act.{Act}
use Rattle.terms.specs.Numbers.{Decision}
use Rattle.terms.specs.declared.Deed.{Deed}
use Rattle.rules.specs.Room.{Room}
use Rattle.rules.specs.Decide.{concerned, decide, carried_out}
use Rattle.rules.proofs.Laws.Tested.{Delivered, ToAct, Tested, tested}
use Rattle.replica.specs.RecordLayout.{lay_replica}
use Rattle.room.specs.Layout.{lay_room, lay_roles}
use Rattle.room.specs.Bounds.{Bounds}
use Rattle.room.specs.GoodLaws.{concerned_below}
use Rattle.carry_out.specs.Done.{done_on}
use Rattle.carry_out.specs.DecisionLaws.{Done, done_refuse, done_idle, done_issue, done_commit, done_prepare, done_known_pair, done_new_pair}
use Rattle.carry_out.specs.DecisionLaws.{done_switch, done_hand, done_panic, done_submit, done_file, done_build}

module _ (kit : Kit) (r : Room) (known : ℕ) (b : Bounds kit r) (list : List ℕ) (e : Event) (good : GoodEvent (replicas kit.f) e list)
    (x : ℕ) (below : x < replicas_max) where
  sender_below : {sender name value : ℕ} → Delivered kit r e x sender name value → sender < replicas_max
  sender_below t = let g = subst (λ (event : Event). GoodEvent (replicas kit.f) event list) t.event good in omega (arith, g.0, b.good.f_high)

  done_act : (act : Act) → ToAct kit r e x act → Done kit r known b x below (Ok (Deed.Act act)) list
  done_act (Act.Prepare sender value request) t =
      let d = t.delivered in
      done_prepare kit r known b x below sender value request list (sender_below d) d.correct t.new.is_submitted_lem t.new.not_noted
  done_act (Act.Commit sender value) t = let d = t.delivered in done_commit kit r known b x below sender value list (sender_below d) d.correct
  done_act (Act.KnownPair sender value) t = done_known_pair kit r known b x below sender value list (sender_below t.delivered)
  done_act (Act.NewPair sender value request mark) t =
      done_new_pair kit r known b x below sender value request mark list (sender_below t.delivered) t.new.is_submitted_lem t.new.not_noted
  done_act (Act.Switch sender value) t = done_switch kit r known b x below sender value list (sender_below t.delivered)
  done_act (Act.Hand history) t = done_hand kit r known b x below history list t.correct
  done_act Act.Panic t = done_panic kit r known b x below list t.running

  done_decided : (d : Decision) → Tested kit r e x d → Done kit r known b x below d list
  done_decided (Err answer) t = done_refuse kit r known b x below answer list
  done_decided (Ok (Deed.Submit request)) t = done_submit kit r known b x below request list t.leads t.few
  done_decided (Ok (Deed.Issue y name content)) t =
      let g = subst (λ (event : Event). GoodEvent (replicas kit.f) event list) t.event good in
      done_issue kit r known b x below y name content list (rw t.own below) (omega (arith, g.1)) t.few
  done_decided (Ok (Deed.Act act)) t = done_act act t
  done_decided (Ok Deed.Idle) t = done_idle kit r known b x below list
  done_decided (Ok (Deed.Build j k)) t =
      let none-built = b.built_held (subst (λ (s : ℕ). (r.replica s).held ≡ None) t.leads t.free) in
      done_build kit r known b x below j k list t.correct (omega (arith, none-built, b.filed_max_lem))
  done_decided (Ok (Deed.File j k)) t =
      let few = t.few in
      done_file kit r known b x below j k list (omega (arith, b.histories_filed)) (omega arith)

-- the law: what is done of a good event's decision, with the record of the replica concerned and the event's list
pub done_laid : (kit : Kit) (r : Room) (known : ℕ) (event : Event) (list : List ℕ) → Bounds kit r → GoodEvent (replicas kit.f) event list
    → done_on (lay_roles kit) (lay_room r known) (lay_replica (r.replica (concerned kit event))) (concerned kit event)
    (decide kit r event) (pad requests_max list) (length list)
    ≡ lay_room (carried_out kit r (concerned kit event) (decide kit r event) list) known
done_laid kit r known event list b good =
    done_decided kit r known b list event good (concerned kit event) (concerned_below kit event list b.good good) (decide kit r event) (tested kit r event)
