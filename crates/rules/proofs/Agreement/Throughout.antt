-- The invariant at every moment of a good kit's play, and what stands between two moments. Assumes nothing.
use Rattle.std.specs.Prelude.{◌≡◌, refl, Bool, true, false, List, [], ◌∷◌, ℕ, zero, suc, ◌+◌, ◌-◌, ◌≤◌, take, drop, Some}
use Rattle.std.proofs.Common.{sym, arith}
use Rattle.terms.specs.Limits.{replicas}
use Rattle.terms.specs.Lists.{pick, nth}
use Rattle.terms.specs.ListLaws.{no_way, nth-take}
use Rattle.terms.specs.Kit.{Kit, GoodKit, Entry, GoodEntries}
use Rattle.terms.specs.declared.Condition.TheVariants.{Running, Faulty}
use Rattle.rules.specs.Table.{is_active, is_marked_faulty}
use Rattle.rules.proofs.Laws.TableLaws.{Roles, roles}
use Rattle.rules.specs.Room.{Room, fresh_room, fresh_replica}
use Rattle.rules.specs.Reading.{is_closed, is_faulty, settled_count}
use Rattle.rules.proofs.Laws.ReadingLaws.{settled_count_own}
use Rattle.rules.specs.Play.{step, play, after}
use Rattle.rules.proofs.Laws.Growth.{after_later}
use Rattle.rules.proofs.Agreement.Invariant.{Invariant}
use Rattle.rules.proofs.Agreement.Frame.{Next, next_none, next_trans}
use Rattle.rules.proofs.Agreement.Events.{next_step}

-- ---- the room before the first event

fresh_faulty : (t : Bool) → is_faulty (pick t Faulty Running) ≡ t
fresh_faulty true = refl
fresh_faulty false = refl

fresh_open : {C : Type 0} (t : Bool) → is_closed (pick t Faulty Running) ≡ true → C
fresh_open true e = no_way (cc)
fresh_open false e = no_way (cc)

fresh_invariant : (kit : Kit) → Invariant kit (fresh_room kit)
unfolding fresh_room fresh_replica
fresh_invariant kit =
    record {
      part = λ x fx. record {
        common = record {
          once = λ i j a e d. no_way (cc);
          submitted = λ i q e. no_way (cc);
          held_backed = λ h e. no_way (cc);
          running_holds-none = λ e. refl;
          closed_holds = λ e. fresh_open (is_marked_faulty kit x) e;
          pairs_few = omega arith;
        };
        active = λ ax. record {
          prepared = λ i q e. no_way (cc);
          committed = λ d i q e. no_way (cc);
          ag_total_lem = λ e. refl;
          leader_accepted = λ d e. refl;
          commits_seen = λ y d i l. absurd (omega arith);
          updates_settled = λ i q m e. no_way (cc);
          up_total = λ e. sym (none_settled x ax);
          mark_settled = λ e. rw (none_settled x ax);
          updates_marked = λ i l. absurd (omega (arith, none_settled x ax));
          ag_history = λ i h e. no_way (cc);
          up_history = λ i h e. no_way (cc);
        };
        passive = λ ax. record { updated = λ y i l. absurd (omega arith); paired = refl };
        ag_few = omega arith;
        up_few = omega arith;
      };
      histories_fit = λ i h e. no_way (cc);
      submissions = record { once = λ i j a e d. no_way (cc); timed = refl; few = omega arith };
      faulty_marked = λ x. fresh_faulty (is_marked_faulty kit x);
    }
  where
    none_settled : (x : ℕ) → is_active kit x ≡ true → settled_count kit x (fresh_replica (is_marked_faulty kit x)) 0 ≡ 0
    none_settled x ax = omega (arith, settled_count_own kit x (fresh_replica (is_marked_faulty kit x)) 0 ax)

-- ---- some events, then a kit's first n

next_play : (kit : Kit) → Roles kit → (r : Room) → Invariant kit r → (size : ℕ) (es : List Entry) → GoodEntries size es → Next kit r (play kit r es)
unfolding play
next_play kit who r a size [] g = next_none kit r a
next_play kit who r a size (e ∷ es) g =
    let n = next_step kit who r a size e (g 0 e refl) in
    next_trans n (next_play kit who (step kit r e).room n.invariant size es (λ i d h. g (suc i) d h))

nth_drop : (m : ℕ) (l : List Entry) (i : ℕ) {e : Entry} → nth (drop m l) i ≡ Some e → nth l (m + i) ≡ Some e
nth_drop zero l i h = let z : 0 + i ≡ i = omega arith in rw z h
nth_drop (suc m) [] i h = no_way (cc)
nth_drop (suc m) (x ∷ l) i h = let z : suc m + i ≡ suc (m + i) = omega arith in rw z (nth_drop m l i h)

module _ (kit : Kit) (good : GoodKit kit) where
  pub at_moment : (n : ℕ) → Invariant kit (after kit n)
  unfolding after
  at_moment n =
      (next_play kit (roles kit good) (fresh_room kit) (fresh_invariant kit) (replicas kit.f) (take n kit.events)
      (λ i e h. good.events_good i e (nth-take n kit.events i h).1)).invariant

  pub between : (m n : ℕ) → m ≤ n → Next kit (after kit m) (after kit n)
  between m n l =
      rw (after_later kit m n l)
      (next_play kit (roles kit good) (after kit m) (at_moment m) (replicas kit.f) (take (n - m) (drop m kit.events))
      (λ i e h. good.events_good (m + i) e (nth_drop m kit.events i (nth-take (n - m) (drop m kit.events) i h).1)))
