-- Event 7 in a kit's play: what it left when it was taken, that it is taken at most once, and that a switch leader holds what it built by it and
-- nothing else. Moments and places of events are counted from 0. Assumes nothing.
use Rattle.std.proofs.Common.{◌≡◌, List, ◌∙◌, ⊎_elim, arith, take_all, ℕ, zero, suc, ◌<◌}
use Rattle.std.proofs.Math.Path.{refl, sym, ap}
use Rattle.std.specs.Prelude.{Option, None, Some, Ok, Err}
use Rattle.std.proofs.Math.ListN.{length}
use Rattle.terms.specs.Lists.{nth}
use Rattle.terms.specs.ListLaws.{no_way, tri, nth-none, nth-snoc}
use Rattle.terms.specs.Kit.{Kit, Entry}
use Rattle.terms.specs.declared.Event.{Event}
use Rattle.terms.specs.declared.Event.TheVariants.{Build}
use Rattle.terms.specs.declared.Act.{Act}
use Rattle.terms.specs.Numbers.{Decision}
use Rattle.terms.specs.declared.Deed.{Deed}
use Rattle.terms.specs.Numbers.{Taken}
use Rattle.rules.specs.Table.{switch_leader}
use Rattle.rules.specs.Room.{Room, Replica, Filing, fresh_room, fresh_replica, with_replica, with_history, issue}
use Rattle.rules.proofs.Laws.RoomLaws.{replica_other}
use Rattle.rules.specs.Clock.{tick}
use Rattle.rules.specs.Submit.{after_file}
use Rattle.rules.specs.Switching.{built, after_build, after_hand}
use Rattle.rules.specs.Decide.{concerned, decide, acted, carried_out}
use Rattle.rules.specs.Play.{on_event, step, play, after, answer}
use Rattle.rules.proofs.Laws.Growth.{after_suc}
use Rattle.rules.proofs.Laws.Holding.{calm_submit, act_holds, calm_faulty_issue, step_keeps}
use Rattle.rules.proofs.Laws.Filings.{built_held, CanBuild, taken_can, build_once}
use Rattle.rules.proofs.Laws.Tested.{ToAct, Tested, tested}
use Rattle.rules.proofs.Laws.Refused.{tick_ticked}

-- an event 7; in a good kit its list is empty
abbrev pub building : ℕ → List ℕ → Entry
building gap list = record { gap = gap; event = Build; requests = list }

-- event m of the kit is an event 7, it was taken, and it filed this history under this number
pub record BuiltAt (kit : Kit) (m number : ℕ) (filing : Filing) : Type 0 where
  pub gap : ℕ
  pub list : List ℕ
  pub is_event : nth kit.events m ≡ Some (building gap list)
  pub was_taken : answer kit m ≡ Some Taken
  pub numbered : length (after kit m).histories ≡ number
  pub is_filed_lem : nth (after kit (suc m)).histories number ≡ Some filing

-- one of the first n events did
pub record BuiltBefore (kit : Kit) (n number : ℕ) : Type 0 where
  pub m : ℕ
  pub earlier : m < n
  pub filing : Filing
  pub built_at : BuiltAt kit m number filing

-- ---- it is taken at most once

pub one_build : (kit : Kit) (m n g h : ℕ) (a b : Filing) → BuiltAt kit m g a → BuiltAt kit n h b → (m ≡ n) × (g ≡ h) × (a ≡ b)
one_build kit m n g h a b one two =
    let same : m ≡ n = ⊎_elim (λ l. absurd (twice l one two)) (λ s. ⊎_elim (λ l. absurd (twice l two one)) (λ e. e) s) (tri m n) in
    let number : g ≡ h = sym one.numbered ∙ ap (λ (i : ℕ). length (after kit i).histories) same ∙ two.numbered in
    (same, number, cc (same, number, one.is_filed_lem, two.is_filed_lem))
  where
    twice : {m n g h : ℕ} {a b : Filing} → m < n → BuiltAt kit m g a → BuiltAt kit n h b → ⊥
    twice {m} {n} l one two =
        no_way (cc (build_once kit m n one.gap two.gap one.list two.list l one.is_event one.was_taken two.is_event, two.was_taken))

-- ---- what it found and what it left

module _ (kit : Kit) (r : Room) where
  pub built_filed : nth (after_build r (switch_leader kit) (built kit r)).histories (length r.histories) ≡ Some (built kit r)
  unfolding after_build issue with_replica with_history
  built_filed = nth-snoc r.histories (built kit r)

-- in a play
module _ {kit : Kit} {m number : ℕ} {filing : Filing} (b : BuiltAt kit m number filing) where
  abbrev pub found : Room
  found = tick kit (after kit m) b.gap

  pub could_build : CanBuild kit found b.list
  unfolding answer step
  could_build =
      let z : Some (on_event kit found Build b.list).answer ≡ Some Taken = rw b.is_event at b.was_taken in
      taken_can kit found b.list (cc z)

  pub left : after kit (suc m) ≡ after_build found (switch_leader kit) (built kit found)
  unfolding step
  left = after_suc kit m (building b.gap b.list) b.is_event ∙ could_build.leaves

  pub found_number : length found.histories ≡ number
  found_number = ap length (tick_ticked kit (after kit m) b.gap).histories ∙ b.numbered

  pub filing_is : built kit found ≡ filing
  filing_is = cc (built_filed kit found, left, found_number, b.is_filed_lem)

-- ---- what a switch leader holds it built

module _ (kit : Kit) where
  abbrev holding : Room → Option ℕ
  holding r = (r.replica (switch_leader kit)).held

  -- whatever is done but a build leaves what it holds
  holding_acted : (r : Room) (e : Event) (x : ℕ) (act : Act) → ToAct kit r e x act → holding (acted kit r x act) ≡ holding r
  unfolding after_hand issue
  holding_acted r e x =
      act_holds kit r e x (λ z. holding z ≡ holding r) (λ r₁ c. c.held_same (switch_leader kit))
      (λ h t. ap (λ (p : Replica). p.held) (replica_other r x _ (switch_leader kit) (λ z. t.other (sym z))))

  -- the event after which it holds history h
  record Builds (r : Room) (e : Event) (list : List ℕ) (h : ℕ) : Type 0 where
    is_build : e ≡ Build
    is_taken : (on_event kit r e list).answer ≡ Taken
    numbered : length r.histories ≡ h
    is_filed_lem : nth (on_event kit r e list).room.histories h ≡ Some (built kit r)

  carried_builds
      : (r : Room) (e : Event) (x : ℕ) (list : List ℕ) (h : ℕ) (d : Decision) → decide kit r e ≡ d → x ≡ concerned kit e → Tested kit r e x d
      → holding r ≡ None → holding (carried_out kit r x d list) ≡ Some h → Builds r e list h
  unfolding carried_out after_file with_history on_event built
  carried_builds r e x list h (Err answer) is at t free now = no_way (cc (free, now))
  carried_builds r e x list h (Ok (Deed.Submit request)) is at t free now = no_way (cc ((calm_submit kit r request).held_same (switch_leader kit), free, now))
  carried_builds r e x list h (Ok (Deed.Issue y name content)) is at t free now =
      no_way (cc ((calm_faulty_issue kit r e x y name content t).held_same (switch_leader kit), free, now))
  carried_builds r e x list h (Ok (Deed.Act act)) is at t free now = no_way (cc (holding_acted r e x act t, free, now))
  carried_builds r e x list h (Ok Deed.Idle) is at t free now = no_way (cc (free, now))
  carried_builds r e x list h (Ok (Deed.Build j k)) is at t free now =
      let was : holding (after_build r (switch_leader kit) (built kit r)) ≡ Some h = rw (t.leads, t.counted_j, t.counted_k) at now in
      let n : length r.histories ≡ h = cc (was, built_held kit r) in
      record {
        is_build = t.event;
        is_taken = rw is;
        numbered = n;
        is_filed_lem = rw (is, ← at, t.leads, t.counted_j, t.counted_k, ← n) (built_filed kit r);
      }
  carried_builds r e x list h (Ok (Deed.File j k)) is at t free now = no_way (cc (free, now))

  event_builds : (r : Room) (e : Event) (list : List ℕ) (h : ℕ) → holding r ≡ None → holding (on_event kit r e list).room ≡ Some h → Builds r e list h
  unfolding on_event
  event_builds r e list h free now = carried_builds r e (concerned kit e) list h (decide kit r e) refl refl (tested kit r e) free now

-- a moment past the last event is the moment of the last
after_end : (kit : Kit) (n : ℕ) → nth kit.events n ≡ None → after kit (suc n) ≡ after kit n
unfolding after
after_end kit n e =
    let all = nth-none kit.events n e in
    ap (play kit (fresh_room kit)) (take_all (suc n) kit.events (omega arith) ∙ sym (take_all n kit.events all))

module _ (kit : Kit) (h : ℕ) where
  later_built : (n : ℕ) → BuiltBefore kit n h → BuiltBefore kit (suc n) h
  later_built n b = record { m = b.m; earlier = omega (arith, b.earlier); filing = b.filing; built_at = b.built_at }

  -- it took hold of it by event n
  built_now : (n : ℕ) (d : Entry) → nth kit.events n ≡ Some d → holding kit (after kit (suc n)) ≡ Some h → holding kit (after kit n) ≡ None
      → BuiltBefore kit (suc n) h
  unfolding step answer
  built_now n d z e free =
      let r = tick kit (after kit n) d.gap in
      let t = tick_ticked kit (after kit n) d.gap in
      let s = after_suc kit n d z in
      let b = event_builds kit r d.event d.requests h (ap (λ (g : ℕ → Replica). (g (switch_leader kit)).held) t.replica ∙ free) (rw s at e) in
      record {
        m = n;
        earlier = omega arith;
        filing = built kit r;
        built_at = record {
          gap = d.gap;
          list = d.requests;
          is_event = rw (← b.is_build) z;
          was_taken = rw z (ap Some b.is_taken);
          numbered = sym (ap length t.histories) ∙ b.numbered;
          is_filed_lem = rw s b.is_filed_lem;
        };
      }

  -- or before it
  built_next : (n : ℕ) → (holding kit (after kit n) ≡ Some h → BuiltBefore kit n h) → holding kit (after kit (suc n)) ≡ Some h → BuiltBefore kit (suc n) h
  built_next n before e = here (nth kit.events n) refl
    where
      was : (d : Entry) → nth kit.events n ≡ Some d → (o : Option ℕ) → holding kit (after kit n) ≡ o → BuiltBefore kit (suc n) h
      was d z None w = built_now n d z e w
      was d z (Some g) w =
          let k = rw (← (after_suc kit n d z)) at ((step_keeps kit (after kit n) d).held (switch_leader kit) g w) in
          later_built n (before (w ∙ sym k ∙ e))

      here : (o : Option Entry) → nth kit.events n ≡ o → BuiltBefore kit (suc n) h
      here None z = later_built n (before (rw (after_end kit n z) at e))
      here (Some d) z = was d z (holding kit (after kit n)) refl

  pub held_built : (n : ℕ) → holding kit (after kit n) ≡ Some h → BuiltBefore kit n h
  unfolding after play fresh_room fresh_replica
  held_built zero e = no_way (cc)
  held_built (suc n) e = built_next n (held_built n) e
