-- The lists of numbers that Parser reads as a kit are the numbers of document 01's kits, and no others. In order: what a reading that came to its
-- end has read, and `Reads` (exactly the numbers of the good things) for a number by itself and for so many things; the operands of a kind and its
-- event; a kit (`kit_reads`), and the laws by which others know it (the last: `answer_accepted`). Assumes nothing.
use Rattle.std.specs.Prelude.{Option, None, ◌≡◌, refl, Bool, true, false, ◌||◌, List, [], ◌∷◌, ◌++◌, ℕ, zero, suc, ◌+◌, ◌-◌, ◌≤◌, ◌<◌, eqb, leb, ltb, get_or, Some}
use Rattle.std.proofs.Common.{sym, ap, ◌∙◌, append_assoc, append-nil, arith, ltb-true, leb-true, eqb-true, lt-ltb, le-leb, eq-eqb, ne_eqb}
use Rattle.std.proofs.Math.ListN.{length}
use Rattle.terms.specs.Limits.{replicas, faults_max, ticks_max, events_max, requests_max}
use Rattle.terms.specs.Lists.{within, count_of, nth}
use Rattle.terms.specs.ListLaws.{split, no_way, and_l, and_r, all_of_at, all_of_from}
use Rattle.terms.specs.Kit.{Kit, Entry, GoodKit, GoodEntry, GoodEvent, marks_active, marks_faulty, is_table_number, is_request, kit_numbers, entry_numbers, entries_numbers, event_numbers}
use Rattle.terms.specs.Numbers.{kind_of, kind_number, content_of, content_numbers, Accepted}
use Rattle.terms.specs.declared.Content.{Content}
use Rattle.terms.specs.declared.Event.{Event}
use Rattle.terms.specs.declared.Kind.{Kind}
use Rattle.terms.specs.declared.KitRefusal.{KitRefusal}
use Rattle.terms.specs.declared.KitRefusal.TheVariants.{WrongSettings, WrongEvent}
use Rattle.grammar.specs.Operands.{operands_of, fits, filed_by, filed_of, event_of, uses_b}
use Rattle.grammar.specs.declared.operands.Operand.{Operand}
use Rattle.grammar.specs.Parser.{Parsed, Refusal, Read, number, and_then, several, alone, operands, event_after, kind_after, entry, table_right, judged, parse, answer_of, kit_answer}

-- ---- what a reading that came to its end has read

module _ {A : Type 0} {a : A} {rest : List ℕ} where
  pub number_inv : (ns : List ℕ) (test : ℕ → Bool) (fault : KitRefusal) (go : ℕ → List ℕ → Parsed A) → number ns test fault go ≡ Read a rest
      → (n : ℕ) × (later : List ℕ) × (ns ≡ n ∷ later) × (test n ≡ true) × (go n later ≡ Read a rest)
  number_inv [] test fault go e = no_way (cc)
  number_inv (n ∷ ns) test fault go e =
      split (test n) (λ t. (n, ns, refl, t, rw t at e))
      (λ t. let z : Refusal fault ≡ Read a rest = rw t at e in no_way (cc))

  pub and_then_inv : {B : Type 0} (p : Parsed B) (go : B → List ℕ → Parsed A) → and_then p go ≡ Read a rest
      → (b : B) × (later : List ℕ) × (p ≡ Read b later) × (go b later ≡ Read a rest)
  and_then_inv (Refusal fault) go e = no_way (cc)
  and_then_inv (Read b ns) go e = (b, ns, refl, e)

  -- the same, going on with what was read
  pub number_elim : {C : Type 0} (ns : List ℕ) (test : ℕ → Bool) (fault : KitRefusal) (go : ℕ → List ℕ → Parsed A) → number ns test fault go ≡ Read a rest
      → ((n : ℕ) (later : List ℕ) → ns ≡ n ∷ later → test n ≡ true → go n later ≡ Read a rest → C) → C
  number_elim ns test fault go e then = let r = number_inv ns test fault go e in then r.0 r.1 r.2 r.3 r.4

  pub and_then_elim : {B C : Type 0} (p : Parsed B) (go : B → List ℕ → Parsed A) → and_then p go ≡ Read a rest
      → ((b : B) (later : List ℕ) → p ≡ Read b later → go b later ≡ Read a rest → C) → C
  and_then_elim p go e then = let r = and_then_inv p go e in then r.0 r.1 r.2 r.3

  pub judged_inv : (right : Bool) (fault : KitRefusal) (p : Parsed A) → judged right fault p ≡ Read a rest → (right ≡ true) × (p ≡ Read a rest)
  judged_inv true fault p e = (refl, e)
  judged_inv false fault p e = no_way (cc)

moved : {A : Type 0} (P : A → List ℕ → Type 0) {x a : A} {mid rest : List ℕ} → x ≡ a → mid ≡ rest → P x mid → P a rest
moved P p q h = rw (← p, ← q) h

-- `one` reads exactly the numbers of the good things
pub record Reads {A : Type 0} (one : List ℕ → Parsed A) (numbers : A → List ℕ) (Good : A → Type 0) : Type 0 where
  pub only : (ns : List ℕ) (a : A) (rest : List ℕ) → one ns ≡ Read a rest → (ns ≡ numbers a ++ rest) × Good a
  pub every : (a : A) (rest : List ℕ) → Good a → one (numbers a ++ rest) ≡ Read a rest

-- a number by itself
pub alone_reads : (test : ℕ → Bool) (fault : KitRefusal) → Reads (alone test fault) (λ n. n ∷ []) (λ n. test n ≡ true)
alone_reads test fault =
    record {
      only = λ ns a rest e.
          let r = number_inv ns test fault Read e in
          let same : r.0 ≡ a = cc r.4 in
          let left : r.1 ≡ rest = cc r.4 in
          (r.2 ∙ cc (same, left), rw (← same) r.3);
      every = λ a rest good. rw good;
    }

-- so many of them
abbrev pub AllGood : {A : Type 0} → (A → Type 0) → ℕ → List A → Type 0
AllGood Good m l = (length l ≡ m) × ((i : ℕ) (a : _) → nth l i ≡ Some a → Good a)

module _ {A : Type 0} {one : List ℕ → Parsed A} {numbers : A → List ℕ} {Good : A → Type 0} (reads : Reads one numbers Good)
    (joined : List A → List ℕ) (None : joined [] ≡ []) (more : (a : A) (l : List A) → joined (a ∷ l) ≡ numbers a ++ joined l) where
  several_only : (m : ℕ) (ns : List ℕ) (l : List A) (rest : List ℕ) → several m one ns ≡ Read l rest → (ns ≡ joined l ++ rest) × AllGood Good m l
  several_only zero ns l rest e =
      let q : [] ≡ l = cc in
      let s : ns ≡ rest = cc in
      rw (← q) (rw None s, (refl, λ i a h. no_way (cc)))
  several_only (suc m) ns l rest e =
      let r = and_then_inv (one ns) _ e in
      let t = and_then_inv (several m one r.1) _ r.3 in
      let first = reads.only ns r.0 r.1 r.2 in
      let later = several_only m r.1 t.0 t.1 t.2 in
      let q : r.0 ∷ t.0 ≡ l = cc t.3 in
      let s : t.1 ≡ rest = cc t.3 in
      let front : r.1 ≡ joined t.0 ++ rest = later.0 ∙ ap (λ (x : List ℕ). joined t.0 ++ x) s in
      let whole : ns ≡ joined (r.0 ∷ t.0) ++ rest = rw (more, append_assoc, ← front) first.0 in
      rw (← q) (whole, (ap suc later.1.0, λ i a h. good_at r.0 t.0 first.1 later.1.1 i a h))
    where
      good_at : (x : A) (l : List A) → Good x → ((i : ℕ) (a : A) → nth l i ≡ Some a → Good a) → (i : ℕ) (a : A) → nth (x ∷ l) i ≡ Some a → Good a
      good_at x l g f zero a h = let z : x ≡ a = cc in rw (← z) g
      good_at x l g f (suc i) a h = f i a h

  several_every : (m : ℕ) (l : List A) (rest : List ℕ) → AllGood Good m l → several m one (joined l ++ rest) ≡ Read l rest
  several_every zero [] rest good = rw None
  several_every zero (a ∷ l) rest good = absurd (omega (arith, good.0))
  several_every (suc m) [] rest good = absurd (omega (arith, good.0))
  several_every (suc m) (a ∷ l) rest good =
      let tail : AllGood Good m l = (omega (arith, good.0), λ i b h. good.1 (suc i) b h) in
      rw (more, append_assoc, reads.every a (joined l ++ rest) (good.1 0 a refl), several_every m l rest tail)

  pub several_reads : (m : ℕ) → Reads (several m one) joined (AllGood Good m)
  several_reads m = record { only = several_only m; every = several_every m }

-- ---- the operands of a kind

-- a row that was read: a number for each operand, which fits it
abbrev pub Row : ℕ → List Operand → List ℕ → List ℕ → List ℕ → List ℕ → Type 0
Row size [] before ns ops rest = (before ≡ ops) × (ns ≡ rest)
Row size (o ∷ row) before ns ops rest =
    (n : ℕ) × (later : List ℕ) × (ns ≡ n ∷ later) × (fits o size before n ≡ true) × Row size row (before ++ (n ∷ [])) later ops rest

pub row_inv : (size : ℕ) (row : List Operand) (before ns ops rest : List ℕ) → operands size row before ns ≡ Read ops rest → Row size row before ns ops rest
row_inv size [] before ns ops rest e = (cc, cc)
row_inv size (o ∷ row) before ns ops rest e =
    let r = number_inv ns (fits o size before) WrongEvent _ e in
    (r.0, r.1, r.2, r.3, row_inv size row (before ++ (r.0 ∷ [])) r.1 ops rest r.4)

-- the numbers of a content are a content
content_only : (kind a b : ℕ) → within 1 5 kind ≡ true → (uses_b kind || eqb b 0) ≡ true
    → (c : Content) × (content_of kind a b ≡ Some c) × (content_numbers c ≡ kind ∷ a ∷ b ∷ [])
unfolding content_of
content_only zero a b w u = no_way (cc)
content_only (suc zero) a b w u = let z : b ≡ 0 = eqb-true b 0 u in (Content.Prepare a, rw (u), cc)
content_only (suc (suc zero)) a b w u = (Content.Commit a b, refl, refl)
content_only (suc (suc (suc zero))) a b w u = (Content.Update a b, refl, refl)
content_only (suc (suc (suc (suc zero)))) a b w u = let z : b ≡ 0 = eqb-true b 0 u in (Content.History a, rw (u), cc)
content_only (suc (suc (suc (suc (suc zero))))) a b w u = let z : b ≡ 0 = eqb-true b 0 u in (Content.Switch a, rw (u), cc)
content_only (suc (suc (suc (suc (suc (suc k)))))) a b w u =
    let kind = suc (suc (suc (suc (suc (suc k))))) in
    absurd (omega (arith, leb-true kind 5 (and_r (leb 1 kind) (leb kind 5) w)))

kind_above : (n : ℕ) → 8 < n → kind_of n ≡ None
unfolding kind_of
kind_above n h =
    simp (
      ne_eqb n 1 (λ e. omega arith),
      ne_eqb n 2 (λ e. omega arith),
      ne_eqb n 3 (λ e. omega arith),
      ne_eqb n 4 (λ e. omega arith),
      ne_eqb n 5 (λ e. omega arith),
      ne_eqb n 6 (λ e. omega arith),
      ne_eqb n 7 (λ e. omega arith),
      ne_eqb n 8 (λ e. omega arith),
    )

kind_only : (n : ℕ) (kind : Kind) → kind_of n ≡ Some kind → n ≡ kind_number kind
unfolding kind_of
kind_only zero kind e = no_way (cc)
kind_only (suc zero) kind e = let z : Kind.Submit ≡ kind = cc in rw (← z)
kind_only (suc (suc zero)) kind e = let z : Kind.Issue ≡ kind = cc in rw (← z)
kind_only (suc (suc (suc zero))) kind e = let z : Kind.Deliver ≡ kind = cc in rw (← z)
kind_only (suc (suc (suc (suc zero)))) kind e = let z : Kind.Hand ≡ kind = cc in rw (← z)
kind_only (suc (suc (suc (suc (suc zero))))) kind e = let z : Kind.Panic ≡ kind = cc in rw (← z)
kind_only (suc (suc (suc (suc (suc (suc zero)))))) kind e = let z : Kind.Idle ≡ kind = cc in rw (← z)
kind_only (suc (suc (suc (suc (suc (suc (suc zero))))))) kind e = let z : Kind.Build ≡ kind = cc in rw (← z)
kind_only (suc (suc (suc (suc (suc (suc (suc (suc zero)))))))) kind e = let z : Kind.File ≡ kind = cc in rw (← z)
kind_only (suc (suc (suc (suc (suc (suc (suc (suc (suc k))))))))) kind e =
    no_way (cc (kind_above (suc (suc (suc (suc (suc (suc (suc (suc (suc k))))))))) (omega arith)))

-- no requests follow the other kinds
none_filed : (mid l rest : List ℕ) → several 0 (alone is_request WrongEvent) mid ≡ Read l rest → (l ≡ []) × (mid ≡ rest)
none_filed mid l rest e = (cc, cc)

requests_read : (m : ℕ) → Reads (several m (alone is_request WrongEvent)) (λ l. l) (AllGood (λ n. is_request n ≡ true) m)
requests_read m = several_reads (alone_reads is_request WrongEvent) (λ l. l) refl (λ a l. refl) m

-- the operands and the requests of a kind are those of a good event
kind_read : (size : ℕ) (kind : Kind) (ns ops mid l rest : List ℕ) → Row size (operands_of kind) [] ns ops mid
    → several (filed_by kind (get_or ops 1 0) (get_or ops 2 0)) (alone is_request WrongEvent) mid ≡ Read l rest
    → (kind_number kind ∷ ns ≡ event_numbers (event_of kind ops) l ++ rest) × GoodEvent size (event_of kind ops) l
unfolding filed_of
kind_read size Kind.Submit ns ops mid l rest r e =
    let f = none_filed mid l rest e in
    rw (← r.4.0) (cc (r.2, r.4.1, f.1), (r.3, f.0))
kind_read size Kind.Issue ns ops mid l rest r e =
    let f = none_filed mid l rest e in
    let r₁ = r.4 in
    let r₂ = r₁.4 in
    let r₃ = r₂.4 in
    let r₄ = r₃.4 in
    let c = content_only r₂.0 r₃.0 r₄.0 r₂.3 r₄.3 in
    rw (← r₄.4.0, c.1)
    (rw c.2 (cc (r.2, r₁.2, r₂.2, r₃.2, r₄.2, r₄.4.1, f.1)), (ltb-true r.0 size r.3, leb-true r₁.0 2 r₁.3, f.0))
kind_read size Kind.Deliver ns ops mid l rest r e =
    let f = none_filed mid l rest e in
    let r₁ = r.4 in
    let r₂ = r₁.4 in
    let r₃ = r₂.4 in
    rw (← r₃.4.0)
    (cc (r.2, r₁.2, r₂.2, r₃.2, r₃.4.1, f.1), (ltb-true r.0 size r.3, leb-true r₁.0 2 r₁.3, ltb-true r₃.0 size r₃.3, f.0))
kind_read size Kind.Hand ns ops mid l rest r e =
    let f = none_filed mid l rest e in
    let r₁ = r.4 in
    let r₂ = r₁.4 in
    rw (← r₂.4.0) (cc (r.2, r₁.2, r₂.2, r₂.4.1, f.1), (ltb-true r₂.0 size r₂.3, f.0))
kind_read size Kind.Panic ns ops mid l rest r e =
    let f = none_filed mid l rest e in
    rw (← r.4.0) (cc (r.2, r.4.1, f.1), (ltb-true r.0 size r.3, f.0))
kind_read size Kind.Idle ns ops mid l rest r e = let f = none_filed mid l rest e in (cc (r.1, f.1), f.0)
kind_read size Kind.Build ns ops mid l rest r e = let f = none_filed mid l rest e in (cc (r.1, f.1), f.0)
kind_read size Kind.File ns ops mid l rest r e =
    let r₁ = r.4 in
    let r₂ = r₁.4 in
    let sum : r₁.0 + r₂.0 ≤ requests_max = leb-true (r₁.0 + r₂.0) requests_max r₂.3 in
    let is : filed_of r₁.0 r₂.0 ≡ r₁.0 + r₂.0 = simp (le-leb (r₁.0 + r₂.0) requests_max sum) in
    let e₁ : several (filed_of r₁.0 r₂.0) (alone is_request WrongEvent) mid ≡ Read l rest = rw (← r₂.4.0) at e in
    let f = (requests_read (filed_of r₁.0 r₂.0)).only mid l rest e₁ in
    let long : length l ≡ r₁.0 + r₂.0 = f.1.0 ∙ is in
    let after : length l - r₁.0 ≡ r₂.0 = omega arith in
    rw (← r₂.4.0) (
      rw after (cc (r.2, r₁.2, r₂.2, r₂.4.1, f.0)),
      (leb-true r.0 r₁.0 r₁.3, omega arith, omega arith, all_of_from l is_request f.1.1),
    )

-- ---- an event

module _ (size gap : ℕ) where
  event_only : (n : ℕ) (choice : Option Kind) (ns : List ℕ) (e : Entry) (rest : List ℕ) → kind_of n ≡ choice → event_after size gap choice ns ≡ Read e rest
      → (gap ∷ n ∷ ns ≡ entry_numbers e ++ rest) × (e.gap ≡ gap) × GoodEvent size e.event e.requests
  event_only n None ns e rest is h = no_way (cc)
  event_only n (Some kind) ns e rest is h =
      let a = and_then_inv (operands size (operands_of kind) [] ns) _ h in
      let b = and_then_inv (several (filed_by kind (get_or a.0 1 0) (get_or a.0 2 0)) (alone is_request WrongEvent) a.1) _ a.3 in
      let k = kind_read size kind ns a.0 a.1 b.0 b.1 (row_inv size (operands_of kind) [] ns a.0 a.1 a.2) b.2 in
      let q : record { gap = gap; event = event_of kind a.0; requests = b.0 } ≡ e = cc b.3 in
      let s : b.1 ≡ rest = cc b.3 in
      moved (λ (y : Entry) (m : List ℕ). (gap ∷ n ∷ ns ≡ entry_numbers y ++ m) × (y.gap ≡ gap) × GoodEvent size y.event y.requests) q s
      (rw (kind_only n kind is) (ap (λ (x : List ℕ). gap ∷ x) k.0), refl, k.1)

  -- the events of document 01's table, each in turn
  event_every : (event : Event) (l rest : List ℕ) → GoodEvent size event l
      → kind_after size gap (event_numbers event l ++ rest) ≡ Read (record { gap = gap; event = event; requests = l }) rest
  unfolding kind_of content_of filed_of
  event_every (Event.Submit request) l rest g = rw (g.0, g.1)
  event_every (Event.Issue replica name (Content.Prepare a)) l rest g = rw (lt-ltb replica size g.0, le-leb name 2 g.1, g.2)
  event_every (Event.Issue replica name (Content.Commit a b)) l rest g = rw (lt-ltb replica size g.0, le-leb name 2 g.1, g.2)
  event_every (Event.Issue replica name (Content.Update a b)) l rest g = rw (lt-ltb replica size g.0, le-leb name 2 g.1, g.2)
  event_every (Event.Issue replica name (Content.History a)) l rest g = rw (lt-ltb replica size g.0, le-leb name 2 g.1, g.2)
  event_every (Event.Issue replica name (Content.Switch a)) l rest g = rw (lt-ltb replica size g.0, le-leb name 2 g.1, g.2)
  event_every (Event.Deliver sender name value to) l rest g = rw (lt-ltb sender size g.0, le-leb name 2 g.1, lt-ltb to size g.2, g.3)
  event_every (Event.Hand ag up to) l rest g = rw (lt-ltb to size g.0, g.1)
  event_every (Event.Panic to) l rest g = rw (lt-ltb to size g.0, g.1)
  event_every Event.Idle l rest g = rw g
  event_every Event.Build l rest g = rw g
  event_every (Event.File j k) l rest g =
      let sum : k + (length l - k) ≡ length l = omega (arith, g.1) in
      simp (
        le-leb j k g.0,
        sum,
        le-leb (length l) requests_max g.2,
        (requests_read (length l)).every l rest (refl, λ i a h. all_of_at l is_request g.3 i a h),
      )

pub entry_reads : (size : ℕ) → Reads (entry size) entry_numbers (GoodEntry size)
entry_reads size =
    record {
      only = λ ns e rest h. entry_only ns e rest h;
      every = λ e rest good. rw (le-leb e.gap ticks_max good.gap) (event_every size e.gap e.event e.requests rest good.event);
    }
  where
    after_gap : (gap : ℕ) (ns : List ℕ) (e : Entry) (rest : List ℕ) → gap ≤ ticks_max → kind_after size gap ns ≡ Read e rest
        → (gap ∷ ns ≡ entry_numbers e ++ rest) × GoodEntry size e
    after_gap gap [] e rest small h = no_way (cc)
    after_gap gap (n ∷ ns) e rest small h =
        let k = event_only size gap n (kind_of n) ns e rest refl h in
        (k.0, record { gap = rw k.1 small; event = k.2 })

    entry_only : (ns : List ℕ) (e : Entry) (rest : List ℕ) → entry size ns ≡ Read e rest → (ns ≡ entry_numbers e ++ rest) × GoodEntry size e
    entry_only ns e rest h =
        let r = number_inv ns (λ gap. leb gap ticks_max) WrongEvent (kind_after size) h in
        let k = after_gap r.0 r.1 e rest (leb-true r.0 ticks_max r.3) r.4 in
        (r.2 ∙ k.0, k.1)

-- ---- a kit

pub table_reads : (m : ℕ) → Reads (several m (alone is_table_number WrongSettings)) (λ t. t) (AllGood (λ n. is_table_number n ≡ true) m)
table_reads m = several_reads (alone_reads is_table_number WrongSettings) (λ t. t) refl (λ a l. refl) m

events_read : (size m : ℕ) → Reads (several m (entry size)) entries_numbers (AllGood (GoodEntry size) m)
events_read size m = several_reads (entry_reads size) entries_numbers refl (λ e es. refl) m

-- what was read of the kit, part by part
pub record KitRead (ns : List ℕ) (f leader patience : ℕ) (table : List ℕ) (events : List Entry) (rest : List ℕ) : Type 0 where
  pub f_right : within 1 faults_max f ≡ true
  pub leader_right : ltb leader (replicas f) ≡ true
  pub patience_right : within 1 ticks_max patience ≡ true
  pub table_good : AllGood (λ n. is_table_number n ≡ true) (replicas f) table
  pub table_right_lem : table_right f leader table ≡ true
  pub count_right : leb (length events) events_max ≡ true
  pub events_good : AllGood (GoodEntry (replicas f)) (length events) events
  pub numbers : ns ≡ f ∷ leader ∷ patience ∷ (table ++ (length events ∷ (entries_numbers events ++ rest)))

abbrev kit_with : ℕ → ℕ → ℕ → List ℕ → List Entry → Kit
kit_with f leader patience table events = record { f = f; leader = leader; patience = patience; table = table; events = events }

-- a good kit, from its parts
kit_good : (ns : List ℕ) (f leader patience : ℕ) (table : List ℕ) (events : List Entry) (rest : List ℕ)
    → KitRead ns f leader patience table events rest
    → (ns ≡ kit_numbers (kit_with f leader patience table events) ++ rest) × GoodKit (kit_with f leader patience table events)
unfolding kit_numbers
kit_good ns f leader patience table events rest r =
    let active = and_l (marks_active (get_or table leader 0)) _ r.table_right_lem in
    let counts = and_r (marks_active (get_or table leader 0)) _ r.table_right_lem in (
      rw append_assoc r.numbers,
      record {
        f_low = leb-true 1 f (and_l (leb 1 f) (leb f faults_max) r.f_right);
        f_high = leb-true f faults_max (and_r (leb 1 f) (leb f faults_max) r.f_right);
        leader_below = ltb-true leader (replicas f) r.leader_right;
        patience_low = leb-true 1 patience (and_l (leb 1 patience) (leb patience ticks_max) r.patience_right);
        patience_high = leb-true patience ticks_max (and_r (leb 1 patience) (leb patience ticks_max) r.patience_right);
        table_length = r.table_good.0;
        table_numbers = all_of_from table is_table_number r.table_good.1;
        active_count = eqb-true (count_of marks_active table) (f + 1) (and_l (eqb (count_of marks_active table) (f + 1)) _ counts);
        faulty_count = leb-true (count_of marks_faulty table) f (and_r (eqb (count_of marks_active table) (f + 1)) _ counts);
        leader_active = active;
        event_count = leb-true (length events) events_max r.count_right;
        events_good = r.events_good.1;
      },
    )

kit_only : (ns : List ℕ) (k : Kit) (rest : List ℕ) → parse ns ≡ Read k rest → (ns ≡ kit_numbers k ++ rest) × GoodKit k
unfolding parse
kit_only ns k rest h =
    number_elim ns (within 1 faults_max) WrongSettings _ h (λ f ns₁ e₁ t₁ h₁.
    number_elim ns₁ (λ n. ltb n (replicas f)) WrongSettings _ h₁ (λ leader ns₂ e₂ t₂ h₂.
    number_elim ns₂ (within 1 ticks_max) WrongSettings _ h₂ (λ patience ns₃ e₃ t₃ h₃.
    and_then_elim (several (replicas f) (alone is_table_number WrongSettings) ns₃) _ h₃ (λ table ns₄ p₄ h₄.
    let t₄ = judged_inv (table_right f leader table) WrongSettings _ h₄ in
    number_elim ns₄ (λ n. leb n events_max) WrongEvent _ t₄.1 (λ count ns₅ e₅ t₅ h₅.
    and_then_elim (several count (entry (replicas f)) ns₅) _ h₅ (λ events ns₆ p₆ h₆.
    let t = (table_reads (replicas f)).only ns₃ table ns₄ p₄ in
    let v = (events_read (replicas f) count).only ns₅ events ns₆ p₆ in
    let q : kit_with f leader patience table events ≡ k = cc (h₆) in
    let s : ns₆ ≡ rest = cc (h₆) in
    moved (λ (y : Kit) (m : List ℕ). (ns ≡ kit_numbers y ++ m) × GoodKit y) q s
    (kit_good ns f leader patience table events ns₆
    (record {
      f_right = t₁;
      leader_right = t₂;
      patience_right = t₃;
      table_good = t.1;
      table_right_lem = t₄.0;
      count_right = rw v.1.0 t₅;
      events_good = (refl, v.1.1);
      numbers = cc (e₁, e₂, e₃, t.0, e₅, v.0, v.1.0);
    }))))))))

kit_every : (k : Kit) (rest : List ℕ) → GoodKit k → parse (kit_numbers k ++ rest) ≡ Read k rest
unfolding parse kit_numbers
kit_every k rest g =
    let behind = length k.events ∷ (entries_numbers k.events ++ rest) in
    rw (append_assoc, le-leb 1 k.f g.f_low, le-leb k.f faults_max g.f_high, lt-ltb k.leader (replicas k.f) g.leader_below)
    (rw (
      le-leb 1 k.patience g.patience_low,
      le-leb k.patience ticks_max g.patience_high,
      (table_reads (replicas k.f)).every k.table behind
          (g.table_length, λ i a h. all_of_at k.table is_table_number g.table_numbers i a h),
    )
    (rw (
      g.leader_active,
      g.active_count,
      eq-eqb (k.f + 1) (k.f + 1) refl,
      le-leb (count_of marks_faulty k.table) k.f g.faulty_count,
      le-leb (length k.events) events_max g.event_count,
      (events_read (replicas k.f) (length k.events)).every k.events rest (refl, g.events_good),
    )))

-- the parser reads the good kits' numbers, and no others
pub kit_reads : Reads parse kit_numbers GoodKit
kit_reads = record { only = kit_only; every = kit_every }

-- ---- the laws by which others know them

-- numbers that are read as a kit, with none left, are a good kit's
pub accepted_good : (ns : List ℕ) (k : Kit) → parse ns ≡ Read k [] → GoodKit k
accepted_good ns k e = (kit_only ns k [] e).1

pub accepted_numbers : (ns : List ℕ) (k : Kit) → parse ns ≡ Read k [] → ns ≡ kit_numbers k
accepted_numbers ns k e = (kit_only ns k [] e).0 ∙ append-nil (kit_numbers k)

-- a good kit's numbers are read as that kit
pub good_accepted : (k : Kit) → GoodKit k → parse (kit_numbers k) ≡ Read k []
good_accepted k g = ap parse (sym (append-nil (kit_numbers k))) ∙ kit_every k [] g

-- accepted means read as a kit, with none left
pub answer_accepted : (ns : List ℕ) → kit_answer ns ≡ Accepted → (k : Kit) × (parse ns ≡ Read k [])
unfolding kit_answer
answer_accepted ns e = from (parse ns) refl e
  where
    from : (p : Parsed Kit) → parse ns ≡ p → answer_of p ≡ Accepted → (k : Kit) × (parse ns ≡ Read k [])
    from (Refusal fault) is h = no_way (cc)
    from (Read k []) is h = (k, is)
    from (Read k (n ∷ rest)) is h = no_way (cc)
