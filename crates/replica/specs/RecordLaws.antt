-- Laws of the record: where a replica of the rules is laid out, each step and each reading is the rules'. Assumes nothing.
use Rattle.std.proofs.Common.{◌≡◌, refl, ◌∙◌, Bool, true, false, List, [], ◌∷◌, ◌++◌, ℕ, zero, suc, ◌+◌, ◌-◌, ◌≤◌, ◌<◌, length, replicate, eqb, arith, le-ltb, le-leb, ne_eqb, eqb-true}
use Rattle.std.proofs.lemmas.Bool.{lt-leb, eqb-false}
use Rattle.terms.specs.Limits.{replicas_max, up, sw, names, requests_max}
use Rattle.terms.specs.Lists.{pick, least_over, count_below}
use Rattle.terms.specs.ListLaws.{split, no_way, length-snoc}
use Rattle.terms.specs.Kit.{Kit, marks_active}
use Rattle.terms.specs.Padding.{pad, get_or_pad, set_pad, pad-nil}
use Rattle.terms.specs.Tabulate.{get_or_grid, set_grid, grid_constant}
use Rattle.terms.specs.declared.Condition.{Condition}
use Rattle.terms.specs.declared.Condition.TheVariants.{Running, Halted, Closed, Faulty}
use Rattle.rules.specs.Table.{is_active, actives, actives_from}
use Rattle.rules.specs.Room as Rules
use Rattle.rules.specs.Reading.{is_running, settled_count}
use Rattle.rules.specs.Deliver.{mark_of_pair, switches}
use Rattle.replica.specs.Record.{fresh_record, note_on, note_pair_on, accept_on, mark_on, halt_on, halted, hold_on, close_on, accepted_in, active_in, least_seen, settled_in, switched_in, switches_in, mark_in}
use Rattle.replica.specs.RecordLayout.{lay_replica}

-- ---- the steps

pub fresh_laid : (t : Bool) → lay_replica (Rules.fresh_replica t) ≡ fresh_record t
unfolding lay_replica Rules.fresh_replica fresh_record
fresh_laid t = rw (pad-nil requests_max, grid_constant {A = ℕ} 0)

module _ (p : Rules.Replica) where
  pub note_laid : (q : ℕ) → length p.noted < requests_max → note_on (lay_replica p) q ≡ lay_replica (Rules.note p q)
  unfolding lay_replica note_on Rules.note
  note_laid q room =
      let grown : length p.noted + 1 ≡ length (p.noted ++ (q ∷ [])) = omega (arith, length-snoc p.noted q) in
      rw (lt-leb requests_max (length p.noted) room, set_pad requests_max p.noted q room, grown)

  pub note_pair_laid : (q m : ℕ) → length p.noted < requests_max → length p.pair_marks < requests_max
      → note_pair_on (lay_replica p) q m ≡ lay_replica (Rules.note_pair p q m)
  unfolding lay_replica note_pair_on Rules.note_pair
  note_pair_laid q m room more =
      let grown : length p.noted + 1 ≡ length (p.noted ++ (q ∷ [])) = omega (arith, length-snoc p.noted q) in
      let paired : length p.pair_marks + 1 ≡ length (p.pair_marks ++ (m ∷ [])) = omega (arith, length-snoc p.pair_marks m) in
      rw (
        lt-leb requests_max (length p.noted) room,
        lt-leb requests_max (length p.pair_marks) more,
        set_pad requests_max p.noted q room,
        set_pad requests_max p.pair_marks m more,
        grown,
        paired,
      )

  pub accept_laid : (s m v : ℕ) → s < replicas_max → m < names → accept_on (lay_replica p) s m v ≡ lay_replica (Rules.accept p s m v)
  unfolding lay_replica accept_on Rules.accept
  accept_laid s m v hs hm = rw (lt-leb replicas_max s hs, lt-leb names m hm, set_grid p.accepted s m v hm)

  pub mark_laid : (m : ℕ) → mark_on (lay_replica p) m ≡ lay_replica (Rules.with_mark p m)
  unfolding lay_replica mark_on Rules.with_mark
  mark_laid m = refl

  pub hold_laid : (h : ℕ) → hold_on (lay_replica p) h ≡ lay_replica (Rules.hold p h)
  unfolding lay_replica hold_on Rules.hold
  hold_laid h = refl

  pub close_laid : (m : ℕ) → close_on (lay_replica p) m ≡ lay_replica (Rules.with_mark (Rules.with_condition p Closed) m)
  unfolding lay_replica close_on mark_on Rules.with_mark Rules.with_condition
  close_laid m = refl

  -- a running one
  pub halt_laid : is_running p.condition ≡ true → halt_on (lay_replica p) ≡ lay_replica (Rules.with_condition p Halted)
  unfolding lay_replica halt_on Rules.with_condition
  halt_laid = by_condition p.condition
    where
      by_condition : (c : Condition) → is_running c ≡ true → halted (lay_replica p) c ≡ lay_replica (Rules.with_condition p Halted)
      by_condition Running e = refl
      by_condition Halted e = no_way (cc)
      by_condition Closed e = no_way (cc)
      by_condition Faulty e = no_way (cc)

  -- ---- what is read

  pub accepted_laid : (s m : ℕ) → s < replicas_max → m < names → accepted_in (lay_replica p).accepted s m ≡ p.accepted s m
  unfolding lay_replica accepted_in
  accepted_laid s m hs hm = rw (lt-leb replicas_max s hs, lt-leb names m hm) (get_or_grid p.accepted s m 0 hs hm)

pub mark_in_laid : (l : List ℕ) (c : ℕ) → c ≤ requests_max → mark_in (pad requests_max l) c ≡ mark_of_pair l c
unfolding mark_in
mark_in_laid l zero h = refl
mark_in_laid l (suc c) h =
    let before : suc c - 1 ≡ c = omega arith in
    rw (ne_eqb (suc c) 0 (λ e. omega arith), le-ltb requests_max (suc c) h, before) (get_or_pad requests_max l c)

pub active_laid : (kit : Kit) (x : ℕ) → active_in (pad replicas_max kit.table) x ≡ is_active kit x
unfolding active_in is_active
active_laid kit x = rw (get_or_pad replicas_max kit.table x)

-- ---- settled counts: the padding marks no replica active

zeros_passive : (n x : ℕ) → actives_from (replicate n 0) x ≡ []
zeros_passive zero x = refl
zeros_passive (suc n) x = zeros_passive n (suc x)

actives_then_zeros : (n : ℕ) (l : List ℕ) (x : ℕ) → actives_from (l ++ replicate n 0) x ≡ actives_from l x
actives_then_zeros n [] x = zeros_passive n x
actives_then_zeros n (k ∷ l) x = rw (actives_then_zeros n l (suc x))

pub actives_laid : (l : List ℕ) → actives_from (pad replicas_max l) 0 ≡ actives_from l 0
unfolding pad
actives_laid l = actives_then_zeros (replicas_max - length l) l 0

-- only what is seen of the table's replicas counts
least_ext : (l : List ℕ) (x : ℕ) (g h : ℕ → ℕ) (d : ℕ) → ((y : ℕ) → y < x + length l → g y ≡ h y)
    → least_over (actives_from l x) g d ≡ least_over (actives_from l x) h d
least_ext [] x g h d e = refl
least_ext (k ∷ l) x g h d e =
    let rest = least_ext l (suc x) g h d (λ y b. e y (omega arith)) in
    split (marks_active k) (λ t. rw (t, rest, e x (omega arith))) (λ t. rw (t, rest))

-- ---- counting: past the table nothing counts

count_past : (k n : ℕ) (t : ℕ → Bool) → n ≤ k → ((y : ℕ) → n ≤ y → t y ≡ false) → count_below k t ≡ count_below n t
count_past zero n t h e = let z : n ≡ 0 = omega arith in rw z
count_past (suc k) n t h e =
    split (eqb n (suc k)) (λ q. rw (eqb-true n (suc k) q))
    (λ q. let ne = eqb-false n (suc k) q in rw (e k (omega arith)) (count_past k n t (omega arith) e))

count_ext : (n : ℕ) (s t : ℕ → Bool) → ((y : ℕ) → y < n → s y ≡ t y) → count_below n s ≡ count_below n t
count_ext zero s t e = refl
count_ext (suc n) s t e = rw (e n (omega arith), count_ext n s t (λ y h. e y (omega arith)))

module _ (kit : Kit) (p : Rules.Replica) (small : length kit.table ≤ replicas_max) where
  least_laid : (x own : ℕ)
      → least_seen (pad replicas_max kit.table) (lay_replica p).accepted (is_active kit x) x own (pick (is_active kit x) own (p.accepted kit.leader up))
      ≡ settled_count kit x p own
  unfolding least_seen settled_count actives
  least_laid x own =
      rw (actives_laid kit.table)
      (least_ext kit.table 0 _ _ _ (λ y b. rw (accepted_laid p y 0 (omega arith) (omega arith), accepted_laid p y 1 (omega arith) (omega arith))))

  pub settled_laid : (x own : ℕ) → kit.leader < replicas_max
      → settled_in (lay_replica p).accepted (pad replicas_max kit.table) kit.leader x own ≡ settled_count kit x p own
  unfolding settled_in
  settled_laid x own below = rw (active_laid kit x, accepted_laid p kit.leader up below (omega arith)) (least_laid x own)

  pub switches_laid : switches_in (lay_replica p).accepted (length kit.table) ≡ switches kit p
  unfolding switches_in switched_in switches
  switches_laid =
      let n = length kit.table in
      count_past replicas_max n (switched_in (lay_replica p).accepted n) small (λ y h. rw (le-leb n y h))
      ∙ count_ext n _ _ (λ y h. rw (lt-leb n y h, accepted_laid p y sw (omega arith) (omega arith)))
