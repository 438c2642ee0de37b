-- Laws of Settled: where the parts are a room of the rules, laid out, the list that is settled is the list that the rules have settled, and the
-- record that is shown is laid out too. Assumes nothing.
use Rattle.std.specs.Prelude.{◌≡◌, Bool, true, false, List, ℕ, ◌<◌, min, length, take, ltb, Option, None, Some}
use Rattle.std.proofs.Math.Path.{refl}
use Rattle.std.proofs.Common.{sym, ◌∙◌, arith, take_all, ltb-true, lt-ltb}
use Rattle.std.proofs.Math.Logic.{by_cases}
use Rattle.std.proofs.Math.Decide.{dec_lt}
use Rattle.std.proofs.Math.Seq.{take-length}
use Rattle.terms.specs.Lent.{no_history}
use Rattle.terms.specs.Limits.{replicas_max, requests_max, histories_max, ag}
use Rattle.terms.specs.Lists.{pick, nth}
use Rattle.terms.specs.ListLaws.{split, nth-lt}
use Rattle.terms.specs.Kit.{Kit}
use Rattle.terms.specs.Padding.{take_pad, take_pad-le}
use Rattle.terms.specs.declared.Condition.{Condition}
use Rattle.terms.specs.declared.Condition.TheVariants.{Running, Halted, Closed, Faulty}
use Rattle.rules.specs.Room.{Room, Filing, fresh_replica}
use Rattle.rules.specs.Room as Rules
use Rattle.rules.specs.Reading.{is_faulty, settled_count, settled_noted, list_of, held_list, settled}
use Rattle.ledger.specs.Ledger.{total_of}
use Rattle.ledger.specs.LedgerLayout.{lay_book}
use Rattle.ledger.specs.LedgerLaws.{total_laid}
use Rattle.replica.specs.Record.{settled_in, fresh_record}
use Rattle.replica.specs.RecordLayout.{lay_replica}
use Rattle.replica.specs.RecordLaws.{settled_laid, fresh_laid}
use Rattle.room.specs.Settled.{noted_settled, list_held, held_settled, settled_by, settled_of, shown_record}
use Rattle.room.specs.Layout.{lay_table, lay_roles, lay_histories}
use Rattle.room.specs.LayoutLaws.{history_laid}
use Rattle.room.specs.Bounds.{Bounds}
use Rattle.room.specs.GoodLaws.{size_max, leader_max}

-- the first n of a list that has fewer are all of them
pub take_least : (n : ℕ) (l : List ℕ) → take (min n (length l)) l ≡ take n l
take_least n l =
    by_cases (dec_lt n (length l))
    (λ h. let e : min n (length l) ≡ n = omega arith in rw e)
    (λ h. let e : min n (length l) ≡ length l = omega arith in rw (e, take-length l, take_all n l (omega arith)))

-- ---- what is settled

-- the first so many of the requests that are noted
first_noted : (p : Rules.Replica) (c : ℕ) → take (min c (lay_replica p).count) (lay_replica p).noted ≡ take c p.noted
unfolding lay_replica
first_noted p c = take_pad-le requests_max (min c (length p.noted)) p.noted (omega arith) ∙ take_least c p.noted

module _ (kit : Kit) (r : Room) (b : Bounds kit r) where
  count_laid : (x : ℕ) → x < replicas_max
      → settled_in (lay_replica (r.replica x)).accepted (lay_roles kit).table (lay_roles kit).leader x (total_of (lay_book r.counter) x ag)
      ≡ settled_count kit x (r.replica x) (length (r.counter x ag))
  unfolding lay_roles lay_table
  count_laid x below =
      rw (total_laid r.counter x ag below (omega arith))
      (settled_laid kit (r.replica x) (size_max b.good) x (length (r.counter x ag)) (leader_max b.good))

  noted_shown : (x : ℕ) → x < replicas_max
      → noted_settled (lay_roles kit) (lay_book r.counter) x (lay_replica (r.replica x))
      ≡ settled_noted kit x (r.replica x) (length (r.counter x ag))
  unfolding noted_settled settled_noted
  noted_shown x below = rw (count_laid x below) (first_noted (r.replica x) (settled_count kit x (r.replica x) (length (r.counter x ag))))

  -- the list of history h, where there is one
  list_shown : (h : ℕ) (o : Option Filing) → nth r.histories h ≡ o → list_held (lay_histories r.histories) (Some h) ≡ list_of o
  list_shown h None e = split (ltb h histories_max) (λ t. rw (t, history_laid r.histories h no_history (ltb-true h histories_max t), e)) (λ t. rw t)
  list_shown h (Some f) e =
      let below : h < histories_max = omega (arith, nth-lt r.histories h e, b.histories_filed, b.filed_max_lem) in
      rw (lt-ltb h histories_max below, history_laid r.histories h no_history below, e) (take_pad requests_max f.list)

  held_shown : (p : Rules.Replica) → held_settled (lay_histories r.histories) (lay_replica p) ≡ held_list r p.held
  unfolding held_settled lay_replica held_list
  held_shown p = by_held p.held
    where
      by_held : (o : Option ℕ) → list_held (lay_histories r.histories) o ≡ held_list r o
      by_held None = refl
      by_held (Some h) = list_shown h (nth r.histories h) refl

  -- what is settled in a room that is laid out
  abbrev laid_settled : ℕ → Condition → List ℕ
  laid_settled x c = settled_by (lay_roles kit) (lay_histories r.histories) (lay_book r.counter) x (lay_replica (r.replica x)) c

  by_condition : (x : ℕ) → x < replicas_max → (c : Condition) → (r.replica x).condition ≡ c → laid_settled x c ≡ settled kit r x
  unfolding settled
  by_condition x below Running e = rw (noted_shown x below, e)
  by_condition x below Halted e = rw (noted_shown x below, e)
  by_condition x below Closed e = rw (held_shown (r.replica x), e)
  by_condition x below Faulty e = rw e

  pub settled_shown_lem : (x : ℕ) → x < replicas_max
      → settled_of (lay_roles kit) (lay_histories r.histories) (lay_book r.counter) x (lay_replica (r.replica x)) ≡ settled kit r x
  unfolding settled_of lay_replica
  settled_shown_lem x below = by_condition x below (r.replica x).condition refl

-- ---- what is shown of a record

by_fault : (p : Rules.Replica) (t : Bool) → pick t (fresh_record true) (lay_replica p) ≡ lay_replica (pick t (fresh_replica true) p)
by_fault p true = sym (fresh_laid true)
by_fault p false = refl

pub shown_laid : (p : Rules.Replica) → shown_record (lay_replica p) ≡ lay_replica (pick (is_faulty p.condition) (fresh_replica true) p)
unfolding shown_record lay_replica
shown_laid p = by_fault p (is_faulty p.condition)
