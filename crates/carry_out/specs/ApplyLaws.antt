-- The steps of what is carried out on laid-out records, counters and lists are the rules' steps laid out. Assumes nothing.
use Rattle.std.specs.Prelude.{◌≡◌, List, [], ◌∷◌, ◌++◌, length, get_or, take, leb, ltb, ℕ, zero, suc, ◌+◌, ◌≤◌, ◌<◌, Option, None, Some}
use Rattle.std.proofs.Common.{◌∙◌, append-nil, arith, add-one, le_of_suc-le-suc, length-append, leb-true, leb-false, lt-ltb, le-ltb, ne_eqb}
use Rattle.std.proofs.Math.Path.{refl}
use Rattle.std.proofs.Math.ListN.{get_or-eq_default}
use Rattle.std.proofs.Math.Seq.{append_snoc}
use borrow.Author.Tests.{lt-leb}
use Rattle.terms.specs.Lent.{no_history}
use Rattle.terms.specs.Limits.{replicas_max, up, sw, places_max, requests_max, histories_max}
use Rattle.terms.specs.Lists.{pick, nth}
use Rattle.terms.specs.ListLaws.{split, length-snoc}
use Rattle.terms.specs.Padding.{pad, take_pad, get_or_pad, set_pad}
use Rattle.terms.specs.Mark.{next_mark, mark_of}
use Rattle.terms.specs.Kit.{Kit}
use Rattle.terms.specs.declared.Content.{Content}
use Rattle.terms.specs.declared.History.{History}
use Rattle.terms.specs.declared.Condition.TheVariants.{Closed}
use Rattle.rules.specs.Room.{Room, Filing, put2}
use Rattle.rules.specs.Room as Rules
use Rattle.rules.specs.Reading.{settled_count, list_of, held_list}
use Rattle.rules.specs.Deliver.{mark_of_pair, switches}
use Rattle.rules.specs.Switching.{missing}
use Rattle.ledger.specs.LedgerLayout.{lay_book}
use Rattle.ledger.specs.LedgerLaws.{issue_laid}
use Rattle.replica.specs.Record.{settled_in, mark_in}
use Rattle.replica.specs.RecordLayout.{lay_replica}
use Rattle.replica.specs.RecordLaws.{accept_laid, mark_laid, close_laid, mark_in_laid, settled_laid, switches_laid}
use Rattle.room.specs.Layout.{history_of, lay_histories, lay_roles, lay_table}
use Rattle.room.specs.LayoutLaws.{history_laid}
use Rattle.carry_out.specs.Enter.{store_all, built_on}
use Rattle.carry_out.specs.Apply.{applied, request_at, settle_on, pair_on, held_mark, switch_on}

-- what the counters have issued
abbrev pub Counters : Type 0
Counters = ℕ → ℕ → List Content

-- replica x has issued one more on its counter of this name
abbrev pub issued_more : Counters → ℕ → ℕ → Content → Counters
issued_more g x name content = put2 g x name (g x name ++ (content ∷ []))

-- ---- a history's list

-- a history of this list
abbrev pub history_with : ℕ → ℕ → List ℕ → History
history_with j k list = record { j = j; k = k; count = length list; list = pad requests_max list }

store_all_laid : (j k : ℕ) (l m : List ℕ) → length l + length m ≤ requests_max → store_all (history_with j k l) m ≡ history_with j k (l ++ m)
store_all_laid j k l [] h = rw (append-nil l)
store_all_laid j k l (q ∷ qs) h =
    let room : length l < requests_max = omega arith in
    let more : length (l ++ (q ∷ [])) ≡ suc (length l) = length-snoc l q in
    rw (lt-leb requests_max (length l) room, set_pad requests_max l q room, add-one (length l), ← more)
    (store_all_laid j k (l ++ (q ∷ [])) qs (omega (arith, more)) ∙ rw (append_snoc l q qs))

pub built_laid : (p : Rules.Replica) (submitted : List ℕ) (j k : ℕ) → length (p.noted ++ missing p.noted submitted) ≤ requests_max
    → built_on (lay_replica p) submitted j k ≡ history_with j k (p.noted ++ missing p.noted submitted)
unfolding built_on lay_replica
built_laid p submitted j k h =
    rw (take_pad requests_max p.noted)
    (store_all_laid j k p.noted (missing p.noted submitted) (omega (arith, length-append p.noted (missing p.noted submitted))))

-- ---- the list that is held

nth_past : {A : Type 0} (l : List A) (i : ℕ) → length l ≤ i → nth l i ≡ None
nth_past [] i h = refl
nth_past (x ∷ xs) zero h = absurd (omega arith)
nth_past (x ∷ xs) (suc i) h = nth_past xs i (le_of_suc-le-suc h)

first_of_list : (o : Option Filing) → take (history_of o).count (history_of o).list ≡ list_of o
first_of_list None = refl
first_of_list (Some h) = take_pad requests_max h.list

held_mark_laid : (r : Room) (o : Option ℕ) → length r.histories ≤ histories_max
    → held_mark o (lay_histories r.histories) ≡ mark_of (held_list r o)
unfolding held_mark held_list
held_mark_laid r None b = refl
held_mark_laid r (Some h) b =
    let hs = r.histories in
    split (leb histories_max h)
    (λ e. rw (e, nth_past hs h (omega (arith, leb-true 8 h e))))
    (λ e. let below : h < histories_max = leb-false 8 h e in rw (e, history_laid hs h no_history below, first_of_list (nth hs h)))

-- ---- what is read off a laid-out record

module _ (p : Rules.Replica) where
  request_laid : (c : ℕ) → length p.noted ≤ requests_max → request_at (lay_replica p).noted c ≡ get_or p.noted c 0
  unfolding request_at lay_replica
  request_laid c h =
      split (leb requests_max c)
      (λ e. rw (e, get_or-eq_default p.noted 0 {n = c} (omega (arith, leb-true requests_max c e))))
      (λ e. rw e (get_or_pad requests_max p.noted c))

  -- pair c's mark, also where c is past the pairs
  pair_mark_laid : (c : ℕ) → length p.pair_marks ≤ requests_max → mark_in (lay_replica p).marks c ≡ mark_of_pair p.pair_marks c
  unfolding lay_replica mark_in
  pair_mark_laid c h = split (leb c requests_max) (λ e. mark_in_laid p.pair_marks c (leb-true c requests_max e)) (λ e. past c (leb-false c requests_max e))
    where
      past : (c₁ : ℕ) → requests_max < c₁ → mark_in (pad requests_max p.pair_marks) c₁ ≡ mark_of_pair p.pair_marks c₁
      past zero g = absurd (omega arith)
      past (suc c₁) g = rw (ne_eqb (suc c₁) 0 (λ e. omega arith), lt-ltb requests_max (suc c₁) g, get_or-eq_default p.pair_marks 0 {n = c₁} (omega arith))

  next_mark_laid : (request : ℕ) → next_mark (lay_replica p).mark request ≡ next_mark p.mark request
  unfolding lay_replica
  next_mark_laid request = refl

  held_laid : (r : Room) → length r.histories ≤ histories_max
      → held_mark (lay_replica p).held (lay_histories r.histories) ≡ mark_of (held_list r p.held)
  unfolding lay_replica
  held_laid r b = held_mark_laid r p.held b

-- ---- settling

module _ (kit : Kit) (table_fits : length kit.table ≤ replicas_max) (leader_below : kit.leader < replicas_max) where
  pub count_laid : (p : Rules.Replica) (x own : ℕ)
      → settled_in (lay_replica p).accepted (lay_roles kit).table (lay_roles kit).leader x own ≡ settled_count kit x p own
  unfolding lay_roles lay_table
  count_laid p x own = settled_laid kit p table_fits x own leader_below

  pub pair_laid : (p : Rules.Replica) (sender value x : ℕ) → sender < replicas_max → length p.pair_marks ≤ requests_max
      → pair_on (lay_replica p) sender value x (lay_roles kit)
      ≡ lay_replica (Rules.with_mark (Rules.accept p sender up value) (mark_of_pair p.pair_marks (settled_count kit x (Rules.accept p sender up value) 0)))
  unfolding pair_on Rules.accept
  pair_laid p sender value x sb h =
      let q = Rules.accept p sender up value in
      let c = settled_count kit x q 0 in
      rw (accept_laid p sender up value sb (omega arith), count_laid q x 0, pair_mark_laid q c h) (mark_laid q (mark_of_pair p.pair_marks c))

  pub switch_laid : (p : Rules.Replica) (sender value : ℕ) (r : Room) → sender < replicas_max → length r.histories ≤ histories_max
      → switch_on (lay_replica p) sender value (lay_roles kit) (lay_histories r.histories)
      ≡ pick (leb kit.f (switches kit (Rules.accept p sender sw value)))
      (lay_replica (Rules.with_mark (Rules.with_condition (Rules.accept p sender sw value) Closed) (mark_of (held_list r p.held))))
      (lay_replica (Rules.accept p sender sw value))
  unfolding switch_on lay_roles Rules.accept
  switch_laid p sender value r sb hb =
      let q = Rules.accept p sender sw value in
      let n = switches kit q in
      rw (accept_laid p sender sw value sb (omega arith), switches_laid kit q table_fits)
      (split (leb kit.f n)
      (λ e. rw (e, le-ltb n kit.f (leb-true kit.f n e), held_laid q r hb) (close_laid q (mark_of (held_list r p.held))))
      (λ e. rw (e, lt-ltb n kit.f (leb-false kit.f n e))))

-- the request that comes next is executed and its UPDATE issued, where the settled count rises
pub settle_laid : (p : Rules.Replica) (g : Counters) (c d x : ℕ) → x < replicas_max → length p.noted ≤ requests_max → length (g x up) < places_max
    → settle_on (lay_replica p) c d x (lay_book g)
    ≡ pick (ltb c d)
    (applied (lay_replica (Rules.with_mark p (next_mark p.mark (get_or p.noted c 0))))
    (lay_book (issued_more g x up (Content.Update (get_or p.noted c 0) (next_mark p.mark (get_or p.noted c 0))))))
    (applied (lay_replica p) (lay_book g))
unfolding settle_on
settle_laid p g c d x xb h room =
    let request = get_or p.noted c 0 in
    let mark = next_mark p.mark request in
    rw (request_laid p c h, next_mark_laid p request, mark_laid p mark, issue_laid g x up xb (omega arith) (Content.Update request mark) room)
