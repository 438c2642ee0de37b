-- Answered, in the paper's words: for some i every active replica's up value i is the same UPDATE of the request, mark included. An answered
-- request stays answered. Assumes nothing.
use Rattle.std.specs.Prelude.{◌≡◌, refl, Bool, true, List, [], ◌∷◌, ℕ, zero, suc, ◌≤◌, ◌<◌, length, eqb, Option, Some}
use Rattle.std.proofs.Common.{sym, ap, ◌∙◌, arith, eqb-true}
use Rattle.std.proofs.Math.Bool.{or-true}
use Rattle.std.proofs.lemmas.Bool.{eqb-false}
use Rattle.terms.specs.Limits.{up}
use Rattle.terms.specs.Lists.{nth, holds, all_of, any_below}
use Rattle.terms.specs.ListLaws.{split, no_way, nth_in, nth-lt, eqb_same, all_of_at, holds_nth}
use Rattle.terms.specs.Kit.{Kit}
use Rattle.terms.specs.declared.Content.{Content}
use Rattle.terms.specs.declared.Content.TheVariants.{Update}
use Rattle.rules.specs.Table.{actives}
use Rattle.rules.specs.Room.{Room, with_clock, with_late}
use Rattle.rules.specs.Reading.{second_of, answered_at, answered}
use Rattle.rules.proofs.Laws.TableLaws.{Roles}
use Rattle.rules.proofs.Laws.ReadingLaws.{is_content_same, is_content_self}
use Rattle.rules.specs.Play.{after}
use Rattle.rules.proofs.Laws.Growth.{Grows, after_grows}

-- ---- tests over numbers and lists

any_at : (n : ℕ) (t : ℕ → Bool) (i : ℕ) → i < n → t i ≡ true → any_below n t ≡ true
any_at zero t i l e = absurd (omega arith)
any_at (suc n) t i l e =
    split (eqb i n) (λ q. let z : t n ≡ true = rw (eqb-true i n q) at e in rw z)
    (λ q. rw (any_at n t i (omega (arith, eqb-false i n q)) e) (or-true (t n)))

any_has : (n : ℕ) (t : ℕ → Bool) → any_below n t ≡ true → (i : ℕ) × (i < n) × (t i ≡ true)
any_has zero t e = no_way (cc)
any_has (suc n) t e =
    split (t n) (λ q. (n, omega arith, q))
    (λ q. let h = any_has n t (rw q at e) in
    (h.0, omega (arith, h.1), h.2))

all_from : (l : List ℕ) (t : ℕ → Bool) → ((y : ℕ) → holds y l ≡ true → t y ≡ true) → all_of l t ≡ true
all_from [] t f = refl
all_from (x ∷ xs) t f = rw (f x (rw (eqb_same x)), all_from xs t (λ y h. f y (rw h (or-true (eqb y x)))))

all_holds : (l : List ℕ) (t : ℕ → Bool) → all_of l t ≡ true → (y : ℕ) → holds y l ≡ true → t y ≡ true
all_holds l t e y h = let n = holds_nth l y h in all_of_at l t e n.0 y n.1

-- ---- the paper's sentence

-- up value i+1 of every active replica is UPDATE of the request with this mark
pub record AnswerOf (kit : Kit) (r : Room) (request : ℕ) : Type 0 where
  pub i : ℕ
  pub mark : ℕ
  pub same : (y : ℕ) → holds y (actives kit) ≡ true → nth (r.counter y up) i ≡ Some (Update request mark)

pub answered_has : (kit : Kit) (r : Room) (request : ℕ) → answered kit r request ≡ true → AnswerOf kit r request
unfolding answered answered_at
answered_has kit r request e =
    let h = any_has (length (r.counter kit.leader up)) (λ i. answered_at kit r request (suc i)) e in
    record {
      i = h.0;
      mark = second_of (nth (r.counter kit.leader up) h.0);
      same = λ y a. is_content_same (nth (r.counter y up) h.0) _ (all_holds (actives kit) _ h.2 y a);
    }

-- and the other way round, where the leader is active, as in every kit of document 01
pub has_answered : (kit : Kit) → Roles kit → (r : Room) (request : ℕ) → AnswerOf kit r request → answered kit r request ≡ true
unfolding answered answered_at
has_answered kit ro r request a =
    let own = a.same kit.leader (ro.active_listed kit.leader ro.leader_active) in
    any_at (length (r.counter kit.leader up)) (λ i. answered_at kit r request (suc i)) a.i (nth-lt (r.counter kit.leader up) a.i own)
    (all_from (actives kit) _ (λ y h. is_content_self {o = nth (r.counter y up) a.i}
    (a.same y h ∙ ap (λ (c : Option Content). Some (Update request (second_of c))) (sym own))))

-- ---- it goes by what is issued alone

-- the clock does not matter
pub answered_clock : (kit : Kit) (r : Room) (clock request : ℕ) → answered kit (with_clock r clock) request ≡ answered kit r request
unfolding answered answered_at with_clock
answered_clock kit r clock request = refl

-- nor does the late tick
pub answered_late : (kit : Kit) (r : Room) (late : Option ℕ) (request : ℕ) → answered kit (with_late r late) request ≡ answered kit r request
unfolding answered answered_at with_late
answered_late kit r late request = refl

-- ---- it stays

answered_at_stays
    : (kit : Kit) (r r₁ : Room) → Grows r r₁ → (request i : ℕ) → i < length (r.counter kit.leader up)
    → answered_at kit r request (suc i) ≡ true → answered_at kit r₁ request (suc i) ≡ true
unfolding answered_at
answered_at_stays kit r r₁ g request i l e =
    let own = nth_in (r.counter kit.leader up) i l in
    let own₁ = g.counters kit.leader up i own.0 own.1 in
    let marks : second_of (nth (r.counter kit.leader up) i) ≡ second_of (nth (r₁.counter kit.leader up) i) = ap second_of (own.1 ∙ sym own₁) in
    all_from (actives kit) _
    (λ y h. let was = is_content_same (nth (r.counter y up) i) _ (all_holds (actives kit) _ e y h) in
    is_content_self {o = nth (r₁.counter y up) i} (g.counters y up i _ was ∙ ap (λ (m : ℕ). Some (Update request m)) marks))

pub answered_stays : (kit : Kit) (r r₁ : Room) → Grows r r₁ → (request : ℕ) → answered kit r request ≡ true → answered kit r₁ request ≡ true
unfolding answered
answered_stays kit r r₁ g request e =
    let up₀ = r.counter kit.leader up in
    let up₁ = r₁.counter kit.leader up in
    let h = any_has (length up₀) (λ i. answered_at kit r request (suc i)) e in
    let own = nth_in up₀ h.0 h.1 in
    any_at (length up₁) (λ i. answered_at kit r₁ request (suc i)) h.0 (nth-lt up₁ h.0 (g.counters kit.leader up h.0 own.0 own.1))
    (answered_at_stays kit r r₁ g request h.0 h.1 h.2)

pub answered_after : (kit : Kit) (m n : ℕ) → m ≤ n → (request : ℕ) → answered kit (after kit m) request ≡ true → answered kit (after kit n) request ≡ true
answered_after kit m n l request = answered_stays kit (after kit m) (after kit n) (after_grows kit m n l) request
