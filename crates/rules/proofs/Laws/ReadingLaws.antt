-- Laws of Reading: conditions, contents that pass a test, settled counts and lists. Assumes nothing.
use Rattle.std.specs.Prelude.{◌≡◌, refl, Bool, true, false, ◌&&◌, ◌≢◌, List, ℕ, suc, ◌≤◌, ◌<◌, get_or, eqb, Option, None, Some}
use Rattle.std.proofs.Common.{sym, ap, ◌∙◌, arith, eqb-true, ne_eqb}
use Rattle.std.proofs.Math.Numerals.{unary_clauses}
use Rattle.std.proofs.lemmas.Bool.{eqb-false}
use Rattle.terms.specs.Limits.{ag, up}
use Rattle.terms.specs.Lists.{pick, nth, holds, Sub}
use Rattle.terms.specs.ListLaws.{pick_elim, split, no_way, and_l, and_r, and_both, eqb_same, nth-take, take_nth, least_over-le, least_over_glb, least_over_seed, least_over_mono}
use Rattle.terms.specs.ListLaws.{least_over_step}
use Rattle.terms.specs.Kit.{Kit}
use Rattle.terms.specs.Numbers.{content_numbers}
use Rattle.terms.specs.NumbersLaws.{content_back}
use Rattle.terms.specs.declared.Content.{Content}
use Rattle.terms.specs.declared.Condition.{Condition}
use Rattle.terms.specs.declared.Condition.TheVariants.{Running, Halted, Closed, Faulty}
use Rattle.rules.specs.Table.{is_active, actives}
use Rattle.rules.specs.Room.{Replica, Room}
use Rattle.rules.specs.Reading.{is_running, is_closed, is_faulty, entry_at, same_content, is_content, value_seen, settled_count, settled_noted, held_list}

-- ---- conditions

pub running_open : (c : Condition) → is_running c ≡ true → is_closed c ≡ false
running_open Running e = refl
running_open Halted e = refl
running_open Closed e = cc
running_open Faulty e = refl

pub running_correct : (c : Condition) → is_running c ≡ true → is_faulty c ≡ false
running_correct Running e = refl
running_correct Halted e = refl
running_correct Closed e = refl
running_correct Faulty e = sym e

pub closed_correct : (c : Condition) → is_closed c ≡ true → is_faulty c ≡ false
closed_correct Running e = no_way (cc)
closed_correct Halted e = no_way (cc)
closed_correct Closed e = refl
closed_correct Faulty e = no_way (cc)

-- ---- requests and contents

-- request i+1 stands at place i, counted from 0
pub entry_at-suc : (list : List ℕ) (i : ℕ) → entry_at list (suc i) ≡ get_or list i 0
entry_at-suc list i = simp unary_clauses

-- a passed test of content: the three numbers are a content's, and of no other
pub same_content_same : (c d : Content) → same_content c d ≡ true → c ≡ d
unfolding same_content
same_content_same c d e =
    let n = content_numbers c in
    let m = content_numbers d in
    let t₀ = eqb (get_or n 0 0) (get_or m 0 0) in
    let t₁ = eqb (get_or n 1 0) (get_or m 1 0) in
    let t₂ = eqb (get_or n 2 0) (get_or m 2 0) in
    let e₀ = eqb-true (get_or n 0 0) (get_or m 0 0) (and_l t₀ (t₁ && t₂) e) in
    let e₁ = eqb-true (get_or n 1 0) (get_or m 1 0) (and_l t₁ t₂ (and_r t₀ (t₁ && t₂) e)) in
    let e₂ = eqb-true (get_or n 2 0) (get_or m 2 0) (and_r t₁ t₂ (and_r t₀ (t₁ && t₂) e)) in
    let same : Some c ≡ Some d = sym (content_back c) ∙ rw (e₀, e₁, e₂) (content_back d) in
    cc same

pub is_content_same : (o : Option Content) (c : Content) → is_content o c ≡ true → o ≡ Some c
is_content_same None c e = no_way (cc)
is_content_same (Some d) c e = ap Some (same_content_same d c e)

-- and a content passes the test for itself
same_content_self : (c : Content) → same_content c c ≡ true
unfolding same_content
same_content_self c = let n = content_numbers c in and_both (eqb_same (get_or n 0 0)) (and_both (eqb_same (get_or n 1 0)) (eqb_same (get_or n 2 0)))

pub is_content_self : {o : Option Content} {c : Content} → o ≡ Some c → is_content o c ≡ true
is_content_self {o} {c} e = rw e (same_content_self c)

-- ---- settled counts: of active replica y, x has seen no less than it has settled

pub settled_count_active : (kit : Kit) (x : ℕ) (p : Replica) (n y : ℕ) → is_active kit x ≡ true → holds y (actives kit) ≡ true → y ≢ x
    → settled_count kit x p n ≤ p.accepted y ag
unfolding settled_count
settled_count_active kit x p n y a m d =
    rw a (rw (ne_eqb y x d) at (least_over-le (actives kit) (value_seen true n x p.accepted) n y m))

pub settled_count_passive : (kit : Kit) (x : ℕ) (p : Replica) (n y : ℕ) → is_active kit x ≡ false → holds y (actives kit) ≡ true
    → settled_count kit x p n ≤ p.accepted y up
unfolding settled_count
settled_count_passive kit x p n y a m = rw a (least_over-le (actives kit) (value_seen false n x p.accepted) (p.accepted kit.leader up) y m)

pub settled_count_least : (kit : Kit) (x : ℕ) (p : Replica) (n m : ℕ) → is_active kit x ≡ true
    → ((y : ℕ) → holds y (actives kit) ≡ true → m ≤ pick (eqb y x) n (p.accepted y ag)) → m ≤ n → m ≤ settled_count kit x p n
unfolding settled_count
settled_count_least kit x p n m a f l = rw a (least_over_glb (actives kit) (value_seen true n x p.accepted) n m f l)

-- ---- and they rise with what is seen, by at most one if each does

value_seen_rises : (t : Bool) (x n n₁ : ℕ) (a b : ℕ → ℕ → ℕ) → n ≤ n₁ → ((y m : ℕ) → a y m ≤ b y m) → (y : ℕ)
    → value_seen t n x a y ≤ value_seen t n₁ x b y
value_seen_rises true x n n₁ a b l f y = split (eqb y x) (λ e. rw e l) (λ e. rw e (f y ag))
value_seen_rises false x n n₁ a b l f y = f y up

value_seen_by_one : (t : Bool) (x n n₁ : ℕ) (a b : ℕ → ℕ → ℕ) → n₁ ≤ suc n → ((y m : ℕ) → b y m ≤ suc (a y m)) → (y : ℕ)
    → value_seen t n₁ x b y ≤ suc (value_seen t n x a y)
value_seen_by_one true x n n₁ a b l f y = split (eqb y x) (λ e. rw e l) (λ e. rw e (f y ag))
value_seen_by_one false x n n₁ a b l f y = f y up

pick_rises : (t : Bool) (n n₁ a b : ℕ) → n ≤ n₁ → a ≤ b → pick t n a ≤ pick t n₁ b
pick_rises true n n₁ a b l f = l
pick_rises false n n₁ a b l f = f

pick_by_one : (t : Bool) (n n₁ a b : ℕ) → n₁ ≤ suc n → b ≤ suc a → pick t n₁ b ≤ suc (pick t n a)
pick_by_one true n n₁ a b l f = l
pick_by_one false n n₁ a b l f = f

pub settled_count_rises : (kit : Kit) (x : ℕ) (p p₁ : Replica) (n n₁ : ℕ) → n ≤ n₁ → ((y m : ℕ) → p.accepted y m ≤ p₁.accepted y m)
    → settled_count kit x p n ≤ settled_count kit x p₁ n₁
unfolding settled_count
settled_count_rises kit x p p₁ n n₁ l f =
    least_over_mono (actives kit) (value_seen (is_active kit x) n x p.accepted) (value_seen (is_active kit x) n₁ x p₁.accepted) _ _
    (value_seen_rises (is_active kit x) x n n₁ p.accepted p₁.accepted l f)
    (pick_rises (is_active kit x) n n₁ _ _ l (f kit.leader up))

pub settled_count_by_one : (kit : Kit) (x : ℕ) (p p₁ : Replica) (n n₁ : ℕ) → n₁ ≤ suc n → ((y m : ℕ) → p₁.accepted y m ≤ suc (p.accepted y m))
    → settled_count kit x p₁ n₁ ≤ suc (settled_count kit x p n)
unfolding settled_count
settled_count_by_one kit x p p₁ n n₁ l f =
    least_over_step (actives kit) (value_seen (is_active kit x) n x p.accepted) (value_seen (is_active kit x) n₁ x p₁.accepted) _ _
    (value_seen_by_one (is_active kit x) x n n₁ p.accepted p₁.accepted l f)
    (pick_by_one (is_active kit x) n n₁ _ _ l (f kit.leader up))

pub settled_count_own : (kit : Kit) (x : ℕ) (p : Replica) (n : ℕ) → is_active kit x ≡ true → settled_count kit x p n ≤ n
unfolding settled_count
settled_count_own kit x p n a = rw a (least_over_seed (actives kit) (value_seen true n x p.accepted) n)

-- a value more of its own settles nothing as long as another active replica y has shown no more than the n before it
pub settled_count_waits : (kit : Kit) (x : ℕ) (p : Replica) (n y : ℕ) → is_active kit x ≡ true → holds y (actives kit) ≡ true → y ≢ x
    → p.accepted y ag ≤ n → settled_count kit x p (suc n) ≡ settled_count kit x p n
settled_count_waits kit x p n y a m d l =
    let c = settled_count kit x p (suc n) in
    let few : c ≤ n = omega (arith, settled_count_active kit x p (suc n) y a m d) in
    let each : (z : ℕ) → holds z (actives kit) ≡ true → c ≤ pick (eqb z x) n (p.accepted z ag) =
    λ z e. pick_elim (λ w. c ≤ w) (eqb z x) (λ t. few) (λ t. settled_count_active kit x p (suc n) z a e (eqb-false z x t)) in
    omega (arith, settled_count_rises kit x p p n (suc n) (omega arith) (λ z i. omega arith), settled_count_least kit x p n c a each few)

-- ---- settled lists of those that are not closed

pub settled_noted_at : (kit : Kit) (x : ℕ) (p : Replica) (n i q : ℕ) → nth (settled_noted kit x p n) i ≡ Some q
    → (i < settled_count kit x p n) × (nth p.noted i ≡ Some q)
unfolding settled_noted
settled_noted_at kit x p n i q e = nth-take (settled_count kit x p n) p.noted i e

pub settled_noted_rises : (kit : Kit) (x : ℕ) (p p₁ : Replica) (n n₁ : ℕ) → Sub p.noted p₁.noted
    → settled_count kit x p n ≤ settled_count kit x p₁ n₁ → Sub (settled_noted kit x p n) (settled_noted kit x p₁ n₁)
unfolding settled_noted
settled_noted_rises kit x p p₁ n n₁ s l i a e =
    let h = nth-take (settled_count kit x p n) p.noted i e in
    take_nth (settled_count kit x p₁ n₁) p₁.noted i (omega arith) (s i a h.1)

-- ---- the list of a held history goes by the histories

pub held_same : (r r₁ : Room) → r₁.histories ≡ r.histories → (held : Option ℕ) → held_list r₁ held ≡ held_list r held
unfolding held_list
held_same r r₁ e None = refl
held_same r r₁ e (Some h) = rw e
