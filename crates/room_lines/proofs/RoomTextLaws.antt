-- The lines of the parts that the player keeps are the rules' where the parts are a laid-out room, and the answers are the rules'.
-- Assumes nothing.
use Rattle.std.proofs.Common.{◌≡◌, refl, false, List, ap, arith, le-ltb, ne_eqb, ℕ, zero, suc, ◌-◌, ◌/◌, ◌%◌, ◌≤◌, ◌<◌, min}
use Rattle.std.proofs.Math.ListN.{length, get_or}
use Rattle.terms.specs.Lent.{no_history}
use Rattle.terms.specs.Limits.{replicas_max, names, counters, ag, up, sw, places_max, requests_max, histories_max, events_max}
use Rattle.terms.specs.ListLaws.{nth-lt, nth-get_or}
use Rattle.terms.specs.Kit.{Kit}
use Rattle.terms.specs.Padding.{get_or_pad, take_pad}
use Rattle.terms.specs.Tabulate.{grid, get_or_tab}
use Rattle.rules.specs.Room.{Room}
use Rattle.rules.specs.Room as Rules
use Rattle.rules.specs.Reading.{settled}
use Rattle.rules.specs.Play.{after}
use Rattle.ledger.specs.LedgerLayout.{lay_book}
use Rattle.ledger.specs.LedgerLaws.{total_laid, look_laid}
use Rattle.replica.specs.RecordLayout.{lay_replica}
use Rattle.room.specs.Layout.{Parts, lay_roles, lay_submissions, lay_histories, lay_desk, lay_replicas, lay_room}
use Rattle.room.specs.declared.Log.{Log}
use Rattle.room.specs.LayoutLaws.{history_laid, replica_laid}
use Rattle.room.specs.Bounds.{Bounds}
use Rattle.room.specs.GoodLaws.{size_max}
use Rattle.room.specs.Settled.{shown_record}
use Rattle.room.specs.SettledLaws.{settled_shown_lem, shown_laid}
use Rattle.play_lines.specs.Lines.{lines_from}
use Rattle.play_lines.specs.LinesLaws.{lines_ext}
use Rattle.room.specs.Said.{Says}
use Rattle.room_lines.specs.Pieces.{submitted_text, history_text, counter_text, accepted_text, kept_text, record_text}
use Rattle.room_lines.specs.PieceLaws.{entries_ext, lines_each}
use Rattle.room_lines.specs.RoomLines.{answer_in, submissions_in, submitted_line, history_lines, contents_in, counter_line, counters_at, counter_lines}
use Rattle.room_lines.specs.RoomLines.{record_line, replica_line, replica_lines, lines_of_room}
use Rattle.room_lines.specs.RoomText.{answer_said, submitted_said, histories_said, counter_said, counters_said, record_shown, replica_said, text_of_room}

-- ---- the answer

pub answer_said_lem : (kit : Kit) (n : ℕ) → n ≤ events_max → (log : Log) → Says kit n log
    → answer_in log.answers n ≡ answer_said kit n
unfolding answer_in
answer_said_lem kit zero small log s = refl
answer_said_lem kit (suc k) small log s =
    let z : suc k - 1 ≡ k = omega arith in
    rw (ne_eqb (suc k) 0 (λ e. omega arith), le-ltb events_max (suc k) (omega (arith, small)), z, s.answer k (omega arith))

-- ---- what a record keeps

accepted_said : (g : ℕ → ℕ → ℕ) → accepted_text (λ c. get_or (grid g) c 0) ≡ accepted_text (λ c. g (c / names) (c % names))
unfolding accepted_text grid
accepted_said g =
    rw (entries_ext counters 0 _ (λ c. g (c / names) (c % names)) false (λ k h. get_or_tab counters (λ i. g (i / names) (i % names)) k 0 (omega (arith, h))))

record_said : (x : ℕ) (p : Rules.Replica) (list : List ℕ)
    → record_line x (lay_replica p) list
    ≡ record_text x p.condition p.mark p.held p.noted p.pair_marks
    (λ e. p.accepted (e / names) (e % names)) list
unfolding record_line record_text kept_text lay_replica
record_said x p list = rw (take_pad requests_max p.noted, take_pad requests_max p.pair_marks, accepted_said p.accepted)

-- ---- what is shown of it

shown_said : (p : Rules.Replica) → shown_record (lay_replica p) ≡ lay_replica (record_shown p)
unfolding record_shown
shown_said p = shown_laid p

module _ (kit : Kit) (r : Room) (b : Bounds kit r) where
  -- ---- submissions, histories

  submissions_said : submitted_line (lay_submissions r) (length r.submitted) ≡ submitted_said r
  unfolding submitted_line submissions_in submitted_said lay_submissions
  submissions_said =
      let m : min (length r.submitted) requests_max ≡ length r.submitted = omega (arith, b.submitted_max) in
      rw m
      (ap submitted_text
      (lines_each r.submitted _ _ (λ k a e.
      let z : get_or r.submitted k 0 ≡ a = cc (nth-get_or r.submitted k 0 (nth-lt r.submitted k e), e) in
      rw (get_or_pad requests_max r.submitted k, get_or_pad requests_max r.ticks k, z))))

  histories_said_lem : history_lines (lay_histories r.histories) (length r.histories) ≡ histories_said r
  unfolding history_lines histories_said
  histories_said_lem =
      let few : length r.histories ≤ histories_max = omega (arith, b.histories_filed, b.filed_max_lem) in
      let m : min (length r.histories) histories_max ≡ length r.histories = omega (arith, few) in
      rw m
      (lines_each r.histories _ _ (λ k a e.
      let below : k < histories_max = omega (arith, few, nth-lt r.histories k e) in
      rw (history_laid r.histories k no_history below, e) (ap (history_text k a.j a.k) (take_pad requests_max a.list))))

  -- ---- counters

  counter_said_lem : (x name : ℕ) → x < replicas_max → name < names → counter_line (lay_book r.counter) x name ≡ counter_said r x name
  unfolding counter_line contents_in counter_said
  counter_said_lem x name below named =
      let l = r.counter x name in
      let few = b.counter_max x name in
      let m : min (length l) places_max ≡ length l = omega (arith, few) in
      rw (total_laid r.counter x name below named, m)
      (ap (counter_text x name (length l))
      (lines_each l _ _ (λ k a e. rw (look_laid r.counter x name below named (suc k) few, e))))

  counters_said_lem : counter_lines (lay_book r.counter) (length kit.table) ≡ lines_from 0 (length kit.table) (counters_said r)
  unfolding counter_lines counters_at counters_said
  counters_said_lem =
      let m : min (length kit.table) replicas_max ≡ length kit.table = omega (arith, size_max b.good) in
      rw m
      (lines_ext (length kit.table) 0 _ _ (λ x h.
      let below : x < replicas_max = omega (arith, h, size_max b.good) in
      rw (counter_said_lem x ag below (omega arith), counter_said_lem x up below (omega arith), counter_said_lem x sw below (omega arith))))

  -- ---- replicas

  replica_said_lem : (x : ℕ) → x < replicas_max
      → replica_line (lay_roles kit) (lay_histories r.histories) (lay_book r.counter) x (lay_replica (r.replica x))
      ≡ replica_said kit r x
  unfolding replica_line replica_said
  replica_said_lem x below =
      rw (settled_shown_lem kit r b x below, shown_said (r.replica x)) (record_said x (record_shown (r.replica x)) (settled kit r x))

  replicas_said
      : replica_lines (lay_replicas r.replica) (lay_roles kit) (lay_histories r.histories) (lay_book r.counter)
      ≡ lines_from 0 (length kit.table) (replica_said kit r)
  unfolding replica_lines lay_roles
  replicas_said =
      let m : min (length kit.table) replicas_max ≡ length kit.table = omega (arith, size_max b.good) in
      rw m
      (lines_ext (length kit.table) 0 _ _ (λ x h.
      let below : x < replicas_max = omega (arith, h, size_max b.good) in rw (replica_laid r.replica x _ below) (replica_said_lem x below)))

-- ---- the whole

-- the lines of a kit's room after n events, from the parts that the player keeps
abbrev pub parts_room : Kit → ℕ → Log → Parts → List ℕ
parts_room kit n log p = lines_of_room log n p.desk p.replicas (lay_roles kit) p.submissions p.histories p.book

pub room_said_lem : (kit : Kit) (n : ℕ) → n ≤ events_max → Bounds kit (after kit n) → (log : Log) → Says kit n log
    → (known : ℕ) → parts_room kit n log (lay_room (after kit n) known) ≡ text_of_room kit n
unfolding lines_of_room text_of_room lay_room lay_desk lay_roles
room_said_lem kit n small b log s known =
    let r = after kit n in
    rw (answer_said_lem kit n small log s, submissions_said kit r b, histories_said_lem kit r b, counters_said_lem kit r b, replicas_said kit r b)
