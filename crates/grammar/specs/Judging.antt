-- The judge, fed a list of numbers one at a time, says what the plain parser says of the list (`judge_parses`). In order: the judge fed a list
-- (`run`) and the parser's answer part by part (`after`); a phase that goes by one test (`phase`); from the inside outwards the phases of the
-- requests, the operands, an event, the events, the table (its tally counts what the parser counts, `tally_is`) and the kit; last, with which
-- answers the judge refuses (`refuses_fault`). Assumes nothing.
use Rattle.std.specs.Prelude.{Option, Some, None, Ok, Err, ◌≡◌, Bool, false, ◌&&◌, ◌||◌, eqb, ◌⊎◌, List, [], ◌∷◌, ◌++◌, ℕ, zero, suc, ◌+◌, ◌-◌, ◌/◌, ◌≤◌, ◌<◌}
use Rattle.std.proofs.Common.{◌∙◌, add-one, zero-add, inl, inr, arith, lt-ltb, le-ltb, eq-eqb, ne_eqb, ltb-true, leb-true}
use Rattle.std.proofs.Math.Path.{refl, sym, ap}
use Rattle.std.proofs.Math.Bool.{true}
use borrow.Author.Tests.{lt-leb}
use Rattle.std.proofs.Math.Dec.{leb, ltb}
use Rattle.std.proofs.Math.ListN.{get_or, set, length, length-append}
use Rattle.std.proofs.lemmas.List.{get_or_at}
use Rattle.std.proofs.Math.Seq.{append_snoc}
use Rattle.terms.specs.Limits.{replicas, faults_max, ticks_max, events_max}
use Rattle.terms.specs.Lists.{pick, within, count_of}
use Rattle.terms.specs.ListLaws.{split, and_r, no_way}
use Rattle.terms.specs.Kit.{Kit, marks_active, marks_faulty, is_table_number, is_request}
use Rattle.terms.specs.Numbers.{kind_of, KitAnswer, Accepted}
use Rattle.terms.specs.declared.Kind.{Kind}
use Rattle.terms.specs.declared.KitRefusal.{KitRefusal}
use Rattle.terms.specs.declared.KitRefusal.TheVariants.{Cut, WrongSettings, WrongEvent, Excess}
use Rattle.grammar.specs.Operands.{operands_of, operand_of, fits, filed_by}
use Rattle.grammar.specs.Parser.{Parsed, Refusal, Read, number, and_then, several, alone, operands, event_after, kind_after, entry, table_right, judged, parse, answer_of, kit_answer}
use Rattle.grammar.specs.ParserLaws.{table_reads}
use Rattle.grammar.specs.Automaton.{Tally, Pending, State, Said, Move, judge_of, step_of, state_of, fresh_state, more_of, done_of, refused_of, with_size, with_turn, with_tally, with_left, with_pending, with_requests, at_f, at_leader, empty_tally, at_patience, plus_one, tallied, tally_right, table_done, at_table, at_count, at_gap, completed, files_goes, filing, operand_goes, begun, kind_goes, at_kind, kept, operand_right, at_operand, at_request, in_phase, feed_of, fresh}
use Rattle.grammar.specs.declared.operands.Operand.{Operand}
use Rattle.grammar.specs.declared.operands.Operand.TheVariants.{Any, Replica, Name, Content, B, Request, K, E}
use Rattle.grammar.specs.declared.Phase.{Phase}
use Rattle.grammar.specs.declared.Progress.{Progress}
use Rattle.grammar.specs.declared.Judge.{Judge}

-- ---- the judge, fed a list

-- after "done": numbers that are left are too many
abbrev pub ended : List ℕ → KitAnswer
ended [] = Accepted
ended (n ∷ ns) = Err Excess

abbrev pub goes : Said → List ℕ → KitAnswer → KitAnswer
goes (Ok Progress.More) ns later = later
goes (Ok Progress.Done) ns later = ended ns
goes (Err refusal) ns later = Err refusal

abbrev pub run : List ℕ → Judge → KitAnswer
run [] j = Err Cut
run (n ∷ ns) j = goes (feed_of j n).said ns (run ns (feed_of j n).judge)

abbrev heard : Move → List ℕ → KitAnswer
heard t ns = goes t.said ns (run ns (judge_of t.phase t.state))

abbrev on : Phase → State → Judge
on phase s = judge_of phase s

-- ---- the parser's answer, part by part

abbrev after : {A : Type 0} → Parsed A → (A → List ℕ → KitAnswer) → KitAnswer
after (Refusal fault) go = Err fault
after (Read a ns) go = go a ns

answer_after : {A : Type 0} (p : Parsed A) → answer_of p ≡ after p (λ a. ended)
answer_after (Refusal fault) = refl
answer_after (Read a []) = refl
answer_after (Read a (n ∷ ns)) = refl

after_then : {A B : Type 0} (p : Parsed A) (go : A → List ℕ → Parsed B) (κ : B → List ℕ → KitAnswer)
    → after (and_then p go) κ ≡ after p (λ a ns. after (go a ns) κ)
after_then (Refusal fault) go κ = refl
after_then (Read a ns) go κ = refl

after_ext : {A : Type 0} (p : Parsed A) (κ κ' : A → List ℕ → KitAnswer) → ((a : A) (ns : List ℕ) → p ≡ Read a ns → κ a ns ≡ κ' a ns) → after p κ ≡ after p κ'
after_ext (Refusal fault) κ κ' e = refl
after_ext (Read a ns) κ κ' e = e a ns refl

-- ---- a phase that goes by one test

module _ {A : Type 0} (j : Judge) (test : ℕ → Bool) (fault : KitRefusal) (step : ℕ → Move)
    (feeds : (n : ℕ) → feed_of j n ≡ step_of (pick (test n) (step n) (refused_of fault j.phase (state_of j))))
    (go : ℕ → List ℕ → Parsed A) (κ : A → List ℕ → KitAnswer)
    (on-so : (n : ℕ) (ns : List ℕ) → test n ≡ true → heard (step n) ns ≡ after (go n ns) κ) where
  phase : (ns : List ℕ) → run ns j ≡ after (number ns test fault go) κ
  phase [] = refl
  phase (n ∷ ns) = rw (feeds n) (split (test n) (λ t. rw t (on-so n ns t)) (λ t. rw t))

  -- the same where the number stands by itself
  phase_alone : (ns : List ℕ) → run ns j ≡ after (and_then (alone test fault ns) go) κ
  phase_alone [] = refl
  phase_alone (n ∷ ns) = rw (feeds n) (split (test n) (λ t. rw t (on-so n ns t)) (λ t. rw t))

-- ---- the requests of kind 8

-- whatever follows an event goes by κ, whatever number of requests was left
module _ (s : State) (κ : List ℕ → KitAnswer) (rest-so : (x : ℕ) (ns : List ℕ) → heard (completed (with_requests s x)) ns ≡ κ ns) where
  requests_phase : (m : ℕ) (ns : List ℕ) → run ns (on Phase.Request (with_requests s (suc m))) ≡ after (several (suc m) (alone is_request WrongEvent) ns) (λ l. κ)
  unfolding feed_of at_request
  requests_phase zero ns =
      phase_alone (on Phase.Request (with_requests s 1)) is_request WrongEvent (λ n. completed (with_requests s 1)) (λ n. refl) _ (λ l. κ)
      (λ n ms t. rest-so 1 ms) ns
  requests_phase (suc m) ns =
      let fewer : suc (suc m) - 1 ≡ suc m = omega arith in
      phase_alone (on Phase.Request (with_requests s (suc (suc m)))) is_request WrongEvent (λ n. more_of Phase.Request (with_requests s (suc m)))
      (λ n. simp (lt-leb (suc (suc m)) 1 (omega arith), fewer)) _ (λ l. κ)
      (λ n ms t. requests_phase m ms ∙ sym (after_then (several (suc m) (alone is_request WrongEvent) ms) _ (λ l. κ))) ns

  files : (t : ℕ) (ns : List ℕ) → heard (files_goes s t) ns ≡ after (several t (alone is_request WrongEvent) ns) (λ l. κ)
  files zero ns = rest-so s.requests ns
  files (suc m) ns = simp (ne_eqb (suc m) 0 (λ e. omega arith)) (requests_phase m ns)

-- ---- the operands

-- the first three operands are kept, 0 for those that did not come yet
abbrev first_three : List ℕ → List ℕ
first_three ops = get_or ops 0 0 ∷ get_or ops 1 0 ∷ get_or ops 2 0 ∷ []

abbrev read_so_far : Kind → List ℕ → Pending
read_so_far kind ops = record { kind = kind; at = length ops; ops = first_three ops }

-- one more is kept at its place, if it is one of the three
set_snoc : (ops : List ℕ) (n : ℕ) → set (first_three ops) (length ops) n ≡ first_three (ops ++ (n ∷ []))
set_snoc [] n = refl
set_snoc (a ∷ []) n = refl
set_snoc (a ∷ b ∷ []) n = refl
set_snoc (a ∷ b ∷ c ∷ ops) n = refl

kept_snoc : (kind : Kind) (ops : List ℕ) (n : ℕ) → kept (read_so_far kind ops) n ≡ read_so_far kind (ops ++ (n ∷ []))
kept_snoc kind ops n = rw (set_snoc ops n, length-append ops (n ∷ []))

-- no operand looks at more than the first three
three : (o : Operand) (size : ℕ) (ops : List ℕ) (n : ℕ) → fits o size (first_three ops) n ≡ fits o size ops n
three Any size ops n = refl
three Replica size ops n = refl
three Name size ops n = refl
three Content size ops n = refl
three B size ops n = refl
three Request size ops n = refl
three K size ops n = refl
three E size ops n = refl

module _ (s : State) (kind : Kind) where
  abbrev reading : List ℕ → State
  reading ops = with_pending s (read_so_far kind ops)

  -- one operand, the next of its row
  operand_feeds : (done : List Operand) (o : Operand) (row : List Operand) (ops : List ℕ) (n : ℕ) → operands_of kind ≡ done ++ o ∷ row → length ops ≡ length done
      → at_operand (reading ops) n
      ≡ pick (fits o s.size ops n) (operand_goes (reading (ops ++ (n ∷ [])))) (refused_of WrongEvent Phase.Operand (reading ops))
  unfolding at_operand operand_of
  operand_feeds done o row ops n is same =
      let here : get_or (operands_of kind) (length ops) Any ≡ o = rw (is, same) (get_or_at done o row Any (length done) refl) in
      let long : length (operands_of kind) ≡ length done + suc (length row) = ap length is ∙ length-append done (o ∷ row) in
      let inside : ltb (length ops) (length (operands_of kind)) ≡ true = lt-ltb (length ops) (length (operands_of kind)) (omega arith) in
      rw (here, inside, three o s.size ops n, kept_snoc kind ops n)

  operands_phase : (row done : List Operand) (ops ns : List ℕ) → operands_of kind ≡ done ++ row → length ops ≡ length done
      → heard (operand_goes (reading ops)) ns ≡ after (operands s.size row ops ns) (λ ops' ns'. heard (filing (reading ops')) ns')
  unfolding operand_goes feed_of
  operands_phase [] done ops ns is same =
      let long : length (operands_of kind) ≡ length done + 0 = ap length is ∙ length-append done [] in
      rw (le-ltb (length ops) (length (operands_of kind)) (omega arith))
  operands_phase (o ∷ row) done ops ns is same =
      let long : length (operands_of kind) ≡ length done + suc (length row) = ap length is ∙ length-append done (o ∷ row) in
      rw (lt-ltb (length ops) (length (operands_of kind)) (omega arith))
      (phase (on Phase.Operand (reading ops)) (fits o s.size ops) WrongEvent (λ n. operand_goes (reading (ops ++ (n ∷ []))))
      (λ n. ap step_of (operand_feeds done o row ops n is same)) _ _
      (λ n ms t.
      let is-one-on = is ∙ sym (append_snoc done o row) in
      operands_phase row (done ++ (o ∷ [])) (ops ++ (n ∷ [])) ms is-one-on (length-append ops (n ∷ []) ∙ rw (same, length-append done (o ∷ [])))) ns)

-- ---- an event

-- whatever follows the event goes by κ, whatever was read of it
module _ (s : State) (κ : List ℕ → KitAnswer)
    (rest-so : (p : Pending) (x : ℕ) (ns : List ℕ) → heard (completed (with_requests (with_pending s p) x)) ns ≡ κ ns) where
  kind_goes_lem : (gap : ℕ) (choice : Option Kind) (ns : List ℕ) → heard (kind_goes s choice) ns ≡ after (event_after s.size gap choice ns) (λ e. κ)
  unfolding filing
  kind_goes_lem gap None ns = refl
  kind_goes_lem gap (Some kind) ns =
      operands_phase s kind (operands_of kind) [] [] ns refl refl
      ∙ after_ext (operands s.size (operands_of kind) [] ns) _ _ (λ ops ns₁ e.
      files (reading s kind ops) κ (λ x ms. rest-so (read_so_far kind ops) x ms) (filed_by kind (get_or ops 1 0) (get_or ops 2 0)) ns₁
      ∙ sym (after_then (several (filed_by kind (get_or ops 1 0) (get_or ops 2 0)) (alone is_request WrongEvent) ns₁) _ (λ e. κ)))
      ∙ sym (after_then (operands s.size (operands_of kind) [] ns) _ (λ e. κ))

  kind_phase : (gap : ℕ) (ns : List ℕ) → run ns (on Phase.Kind s) ≡ after (kind_after s.size gap ns) (λ e. κ)
  unfolding feed_of at_kind
  kind_phase gap [] = refl
  kind_phase gap (n ∷ ns) = kind_goes_lem gap (kind_of n) ns

  entry_phase : (ns : List ℕ) → run ns (on Phase.Gap s) ≡ after (entry s.size ns) (λ e. κ)
  unfolding feed_of at_gap
  entry_phase ns =
      phase (on Phase.Gap s) (λ gap. leb gap ticks_max) WrongEvent (λ n. more_of Phase.Kind s) (λ n. refl) _ (λ e. κ) (λ n ms t. kind_phase n ms) ns

-- ---- the events

-- what follows an event, where k more come
abbrev Follows : ℕ → Type 0
Follows k = (s : State) (ns : List ℕ) → s.left ≡ suc k → heard (completed s) ns ≡ after (several k (entry s.size) ns) (λ es. ended)

events_phase : (k : ℕ) → Follows k → (s : State) (ns : List ℕ) → s.left ≡ suc k
    → run ns (on Phase.Gap s) ≡ after (several (suc k) (entry s.size) ns) (λ es. ended)
events_phase k later s ns is =
    entry_phase s (λ ms. after (several k (entry s.size) ms) (λ es. ended)) (λ p x ms. later (with_requests (with_pending s p) x) ms is) ns
    ∙ after_ext (entry s.size ns) _ _ (λ e ms h. sym (after_then (several k (entry s.size) ms) _ (λ es. ended)))
    ∙ sym (after_then (entry s.size ns) _ (λ es. ended))

follows : (k : ℕ) → Follows k
unfolding completed
follows zero s ns is = rw is
follows (suc k) s ns is =
    rw (lt-leb s.left 1 (omega arith)) (events_phase k (follows k) (with_left s (s.left - 1)) ns (omega arith))

count_goes : (s : State) (n : ℕ) (ns : List ℕ)
    → heard (pick (eqb n 0) (done_of s) (more_of Phase.Gap (with_left s n))) ns ≡ after (several n (entry s.size) ns) (λ es. ended)
count_goes s zero ns = refl
count_goes s (suc k) ns = rw (ne_eqb (suc k) 0 (λ e. omega arith)) (events_phase k (follows k) (with_left s (suc k)) ns refl)

-- ---- the table

-- the tally after some more replicas
abbrev tally_all : Tally → ℕ → List ℕ → Tally
tally_all t turn [] = t
tally_all t turn (n ∷ ns) = tally_all (tallied t turn n) turn ns

table_phase : (m : ℕ) (s : State) (ns : List ℕ) → s.tally.coming ≡ suc m
    → run ns (on Phase.Table s)
    ≡ after (several (suc m) (alone is_table_number WrongSettings) ns) (λ t ms. heard (table_done (with_tally s (tally_all s.tally s.turn t))) ms)
unfolding feed_of at_table tallied
table_phase zero s ns is =
    let none : s.tally.coming - 1 ≡ 0 = omega arith in
    phase_alone (on Phase.Table s) is_table_number WrongSettings (λ n. table_done (with_tally s (tallied s.tally s.turn n)))
    (λ n. simp none) _ _ (λ n ms t. refl) ns
table_phase (suc m) s ns is =
    phase_alone (on Phase.Table s) is_table_number WrongSettings (λ n. more_of Phase.Table (with_tally s (tallied s.tally s.turn n)))
    (λ n. simp (lt-ltb 0 (s.tally.coming - 1) (omega arith))) _ _
    (λ n ms t. table_phase m (with_tally s (tallied s.tally s.turn n)) ms (omega arith)
    ∙ sym (after_then (several (suc m) (alone is_table_number WrongSettings) ms) _ _)) ns

-- the tally counts
plus_small : (holds : Bool) (x : ℕ) → x < 100 → plus_one holds x ≡ pick holds (suc x) x
unfolding plus_one
plus_small true x h = simp (lt-ltb x 0xffff_ffff (omega arith)) (add-one x)
plus_small false x h = refl

count_on : (holds : Bool) (x c : ℕ) → pick holds (suc x) x + c ≡ x + pick holds (suc c) c
count_on true x c = omega arith
count_on false x c = refl

pick_most : (holds : Bool) (x : ℕ) → pick holds (suc x) x ≤ suc x
pick_most true x = omega arith
pick_most false x = omega arith

-- a part g of the tally that counts the numbers that pass
module _ (turn : ℕ) (g : Tally → ℕ) (test : ℕ → Bool) (counts : (t : Tally) (n : ℕ) → g (tallied t turn n) ≡ plus_one (test n) (g t)) where
  tally_counts : (l : List ℕ) (t : Tally) → g t + length l < 100 → g (tally_all t turn l) ≡ g t + count_of test l
  tally_counts [] t h = omega arith
  tally_counts (n ∷ l) t h =
      let one : g (tallied t turn n) ≡ pick (test n) (suc (g t)) (g t) = counts t n ∙ plus_small (test n) (g t) (omega arith) in
      tally_counts l (tallied t turn n) (omega (arith, one, pick_most (test n) (g t))) ∙ rw one (count_on (test n) (g t) (count_of test l))

-- the leader's replica comes where `turn` are left
abbrev leads_from : ℕ → ℕ → List ℕ → Bool
leads_from left turn [] = false
leads_from left turn (n ∷ l) = (marks_active n && eqb left turn) || leads_from (left - 1) turn l

or_assoc : (a b c : Bool) → ((a || b) || c) ≡ (a || (b || c))
or_assoc true b c = refl
or_assoc false b c = refl

or_none : (a : Bool) → (a || false) ≡ a
or_none true = refl
or_none false = refl

and_none : (a : Bool) → (a && false) ≡ false
and_none true = refl
and_none false = refl

and_all : (a : Bool) → (a && true) ≡ a
and_all true = refl
and_all false = refl

tally_leads : (l : List ℕ) (t : Tally) (turn : ℕ) → (tally_all t turn l).leads ≡ (t.leads || leads_from t.coming turn l)
unfolding tallied
tally_leads [] t turn = sym (or_none t.leads)
tally_leads (n ∷ l) t turn =
    tally_leads l (tallied t turn n) turn ∙ or_assoc t.leads (marks_active n && eqb t.coming turn) (leads_from (t.coming - 1) turn l)

leads_late : (l : List ℕ) (left turn : ℕ) → left < turn → leads_from left turn l ≡ false
leads_late [] left turn h = refl
leads_late (n ∷ l) left turn h = rw (ne_eqb left turn (λ e. omega arith), and_none (marks_active n)) (leads_late l (left - 1) turn (omega arith))

leads_is : (l : List ℕ) (leader : ℕ) → leader < length l → leads_from (length l) (length l - leader) l ≡ marks_active (get_or l leader 0)
leads_is [] leader h = absurd (omega arith)
leads_is (n ∷ l) zero h =
    let all : suc (length l) - 0 ≡ suc (length l) = omega arith in
    rw (all, eq-eqb (suc (length l)) (suc (length l)) refl, and_all (marks_active n))
    (rw (leads_late l (suc (length l) - 1) (suc (length l)) (omega arith)) (or_none (marks_active n)))
leads_is (n ∷ l) (suc i) h =
    let less : suc (length l) - suc i ≡ length l - i = omega arith in
    let one : suc (length l) - 1 ≡ length l = omega arith in
    rw (less, one, ne_eqb (suc (length l)) (length l - i) (λ e. omega arith), and_none (marks_active n)) (leads_is l i (omega arith))

-- after the last replica the tally says what the table says
tally_is : (f leader : ℕ) (l : List ℕ) → f ≤ 3 → leader < replicas f → length l ≡ replicas f
    → tally_right (replicas f) (tally_all (empty_tally (replicas f)) (replicas f - leader) l) ≡ table_right f leader l
unfolding tallied
tally_is f leader l few below long =
    let half : replicas f / 2 ≡ f = omega arith in
    let turn = replicas f - leader in
    let start = empty_tally (replicas f) in
    let a : (tally_all start turn l).active ≡ count_of marks_active l =
    tally_counts turn (λ (t : Tally). t.active) marks_active (λ t n. refl) l start (omega arith) ∙ zero-add (count_of marks_active l) in
    let b : (tally_all start turn l).faulty ≡ count_of marks_faulty l =
    tally_counts turn (λ (t : Tally). t.faulty) marks_faulty (λ t n. refl) l start (omega arith) ∙ zero-add (count_of marks_faulty l) in
    let c : (tally_all start turn l).leads ≡ marks_active (get_or l leader 0) =
    tally_leads l start turn ∙ ap (λ (m : ℕ). leads_from m (m - leader) l) (sym long) ∙ leads_is l leader (omega arith) in
    rw (a, b, c, half)

-- ---- the kit

-- what follows the table
abbrev after_table : ℕ → ℕ → ℕ → List ℕ → List ℕ → Parsed Kit
after_table f leader patience table ns =
    judged (table_right f leader table) WrongSettings
    (number ns (λ count. leb count events_max) WrongEvent (λ count ms.
    and_then (several count (entry (replicas f)) ms) (λ events rest.
    Read (record { f = f; leader = leader; patience = patience; table = table; events = events }) rest)))

table_done_lem : (f leader patience : ℕ) (s : State) (table ns : List ℕ) → s.size ≡ replicas f → tally_right s.size s.tally ≡ table_right f leader table
    → heard (table_done s) ns ≡ after (after_table f leader patience table ns) (λ k. ended)
unfolding table_done feed_of at_count
table_done_lem f leader patience s table ns is same =
    rw same
    (split (table_right f leader table)
    (λ t. rw t
    (phase (on Phase.Count s) (λ count. leb count events_max) WrongEvent (λ n. pick (eqb n 0) (done_of s) (more_of Phase.Gap (with_left s n))) (λ n. refl) _ _
    (λ n ms t₁. count_goes s n ms ∙ rw is (sym (after_then (several n (entry (replicas f)) ms) _ (λ k. ended)))) ns))
    (λ t. rw t))

-- before the table's first replica
abbrev tabled : ℕ → ℕ → State
tabled f leader = with_tally (with_turn (with_size (fresh_state) (replicas f)) (replicas f - leader)) (empty_tally (replicas f))

table_all : (f leader patience : ℕ) (ns : List ℕ) → f ≤ 3 → leader < replicas f
    → run ns (on Phase.Table (tabled f leader))
    ≡ after (and_then (several (replicas f) (alone is_table_number WrongSettings) ns) (λ table ms. after_table f leader patience table ms)) (λ k. ended)
unfolding fresh
table_all f leader patience ns few below =
    let s = tabled f leader in
    let then : List ℕ → List ℕ → KitAnswer = λ t ms. heard (table_done (with_tally s (tally_all s.tally s.turn t))) ms in
    table_phase (f + f) s ns (add-one (f + f))
    ∙ ap (λ (m : ℕ). after (several m (alone is_table_number WrongSettings) ns) then) (sym (add-one (f + f)))
    ∙ after_ext (several (replicas f) (alone is_table_number WrongSettings) ns) _ _ (λ t ms e.
    let long = ((table_reads (replicas f)).only ns t ms e).1.0 in
    table_done_lem f leader patience (with_tally s (tally_all s.tally s.turn t)) t ms refl (tally_is f leader t few below long))
    ∙ sym (after_then (several (replicas f) (alone is_table_number WrongSettings) ns) _ (λ k. ended))

-- the judge, fed the numbers one at a time, says what the parser says
pub judge_parses : (ns : List ℕ) → run ns fresh ≡ kit_answer ns
unfolding kit_answer parse fresh feed_of at_f at_leader at_patience
judge_parses ns =
    phase fresh (within 1 faults_max) WrongSettings (λ n. more_of Phase.Leader (with_size (fresh_state) (replicas n))) (λ n. refl) _ (λ k. ended) (λ f ns₁ t₁.
    phase (on Phase.Leader (with_size (fresh_state) (replicas f))) (λ n. ltb n (replicas f)) WrongSettings _ (λ n. refl) _ (λ k. ended) (λ leader ns₂ t₂.
    phase _ (within 1 ticks_max) WrongSettings _ (λ n. refl) _ (λ k. ended) (λ patience ns₃ t₃.
    table_all f leader patience ns₃ (leb-true f faults_max (and_r (leb 1 f) (leb f faults_max) t₁)) (ltb-true leader (replicas f) t₂)) ns₂) ns₁) ns
    ∙ sym (answer_after (parse ns))

-- ---- what the judge refuses with

abbrev pub IsFault : KitRefusal → Type 0
IsFault a = (a ≡ WrongSettings) ⊎ ((a ≡ WrongEvent) ⊎ (a ≡ Excess))

pub record Refuses (t : Move) : Type 0 where
  pub only : (a : KitRefusal) → t.said ≡ Err a → IsFault a

refuses_pick : (b : Bool) (x y : Move) → Refuses x → Refuses y → Refuses (pick b x y)
refuses_pick true x y f g = f
refuses_pick false x y f g = g

module _ (p : Phase) (s : State) where
  refuses_more : Refuses (more_of p s)
  refuses_more = record { only = λ a e. no_way (cc) }

  refuses_settings : Refuses (refused_of WrongSettings p s)
  refuses_settings = record { only = λ a e. inl (cc) }

  refuses_event : Refuses (refused_of WrongEvent p s)
  refuses_event = record { only = λ a e. inr (inl (cc)) }

  refuses_excess : Refuses (refused_of Excess p s)
  refuses_excess = record { only = λ a e. inr (inr (cc)) }

refuses_done : (s : State) → Refuses (done_of s)
refuses_done s = record { only = λ a e. no_way (cc) }

refuses_completed : (s : State) → Refuses (completed s)
unfolding completed
refuses_completed s = refuses_pick (leb s.left 1) _ _ (refuses_done s) (refuses_more _ _)

refuses_goes : (s : State) → Refuses (operand_goes s)
unfolding operand_goes filing
refuses_goes s =
    refuses_pick (ltb s.pending.at (length (operands_of s.pending.kind))) _ _ (refuses_more _ _)
    (refuses_pick (eqb (filed_by s.pending.kind (get_or s.pending.ops 1 0) (get_or s.pending.ops 2 0)) 0) _ _ (refuses_completed s) (refuses_more _ _))

refuses_kind : (s : State) (choice : Option Kind) → Refuses (kind_goes s choice)
refuses_kind s None = refuses_event _ _
refuses_kind s (Some kind) = refuses_goes (with_pending s (begun kind))

refuses_in : (p : Phase) (s : State) (n : ℕ) → Refuses (in_phase p s n)
unfolding at_f at_leader at_patience at_table table_done at_count at_gap at_kind at_operand at_request
refuses_in Phase.F s n = refuses_pick (within 1 faults_max n) _ _ (refuses_more _ _) (refuses_settings _ _)
refuses_in Phase.Leader s n = refuses_pick (ltb n s.size) _ _ (refuses_more _ _) (refuses_settings _ _)
refuses_in Phase.Patience s n = refuses_pick (within 1 ticks_max n) _ _ (refuses_more _ _) (refuses_settings _ _)
refuses_in Phase.Table s n =
    let t = tallied s.tally s.turn n in
    refuses_pick (is_table_number n) _ _
    (refuses_pick (ltb 0 t.coming) _ _ (refuses_more _ _) (refuses_pick (tally_right s.size t) _ _ (refuses_more _ _) (refuses_settings _ _)))
    (refuses_settings _ _)
refuses_in Phase.Count s n =
    refuses_pick (leb n events_max) _ _ (refuses_pick (eqb n 0) _ _ (refuses_done s) (refuses_more _ _)) (refuses_event _ _)
refuses_in Phase.Gap s n = refuses_pick (leb n ticks_max) _ _ (refuses_more _ _) (refuses_event _ _)
refuses_in Phase.Kind s n = refuses_kind s (kind_of n)
refuses_in Phase.Operand s n = refuses_pick (operand_right s n) _ _ (refuses_goes (with_pending s (kept s.pending n))) (refuses_event _ _)
refuses_in Phase.Request s n =
    refuses_pick (is_request n) _ _ (refuses_pick (leb s.requests 1) _ _ (refuses_completed s) (refuses_more _ _)) (refuses_event _ _)
refuses_in Phase.Over s n = refuses_excess _ _

pub refuses_fault : (j : Judge) (n : ℕ) (a : KitRefusal) → (feed_of j n).said ≡ Err a → IsFault a
unfolding feed_of
refuses_fault j n = (refuses_in j.phase (state_of j) n).only
