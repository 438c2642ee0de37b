-- The lines of the parts that the player keeps are the rules' where the parts are a laid-out room, and the clocks and answers are the
-- rules'. Assumes nothing.
use Rattle.std.specs.Prelude.{◌≡◌, refl, Bool, true, false, List, ℕ, ◌≤◌, ◌<◌, min}
use Rattle.std.proofs.Common.{arith}
use Rattle.std.proofs.Math.ListN.{length}
use Rattle.terms.specs.Limits.{events_max, replicas_max}
use Rattle.terms.specs.Lists.{pick}
use Rattle.terms.specs.Kit.{Kit}
use Rattle.rules.specs.Room.{Room, fresh_replica}
use Rattle.rules.specs.Room as Rules
use Rattle.rules.specs.Reading.{is_faulty}
use Rattle.rules.specs.Play.{after}
use Rattle.ledger.specs.LedgerLayout.{lay_book}
use Rattle.replica.specs.RecordLayout.{lay_replica}
use Rattle.room.specs.Layout.{Parts, lay_roles, lay_histories, lay_desk, lay_replicas, lay_room}
use Rattle.room.specs.declared.Log.{Log}
use Rattle.room.specs.LayoutLaws.{replica_laid}
use Rattle.room.specs.Bounds.{Bounds}
use Rattle.room.specs.GoodLaws.{size_max}
use Rattle.room.specs.Settled.{shown_record}
use Rattle.room.specs.SettledLaws.{settled_shown_lem, shown_laid}
use Rattle.play_lines.specs.Lines.{lines_from}
use Rattle.play_lines.specs.LinesLaws.{lines_ext}
use Rattle.play_lines.specs.PlayLines.{event_lines, replica_line, replica_lines, lines_of_play}
use Rattle.room.specs.Said.{Says}
use Rattle.play_lines.specs.PlayText.{event_said, replica_said, room_said, text_after}

-- ---- the line of a replica

mark_by : (p : Rules.Replica) (faulty : Bool) → (lay_replica (pick faulty (fresh_replica true) p)).mark ≡ pick faulty 0 p.mark
unfolding lay_replica fresh_replica
mark_by p true = refl
mark_by p false = refl

mark_said : (p : Rules.Replica) → (shown_record (lay_replica p)).mark ≡ pick (is_faulty p.condition) 0 p.mark
mark_said p = rw (shown_laid p) (mark_by p (is_faulty p.condition))

condition_said : (p : Rules.Replica) → (lay_replica p).condition ≡ p.condition
unfolding lay_replica
condition_said p = refl

module _ (kit : Kit) (r : Room) (b : Bounds kit r) where
  replica_said_lem : (x : ℕ) → x < replicas_max
      → replica_line (lay_roles kit) (lay_histories r.histories) (lay_book r.counter) x (lay_replica (r.replica x))
      ≡ replica_said kit r x
  unfolding replica_line replica_said
  replica_said_lem x below = rw (settled_shown_lem kit r b x below, mark_said (r.replica x), condition_said (r.replica x))

  pub replicas_said
      : replica_lines (lay_replicas r.replica) (lay_roles kit) (lay_histories r.histories) (lay_book r.counter)
      ≡ lines_from 0 (length kit.table) (replica_said kit r)
  unfolding replica_lines lay_roles
  replicas_said =
      let m : min (length kit.table) replicas_max ≡ length kit.table = omega (arith, (size_max b.good)) in
      rw m
      (lines_ext (length kit.table) 0 _ _
      (λ x h. let below : x < replicas_max = omega (arith, h, (size_max b.good)) in rw (replica_laid r.replica x _ below) (replica_said_lem x below)))

pub events_said : (kit : Kit) (n : ℕ) → n ≤ events_max → (log : Log) → Says kit n log
    → event_lines log n ≡ lines_from 0 n (event_said kit)
unfolding event_lines event_said
events_said kit n small log s =
    let m : min n events_max ≡ n = omega (arith, small) in
    rw m
    (lines_ext n 0 _ _
    (λ k h. let below : k < n = omega (arith, h) in rw (s.clock k below, s.answer k below)))

-- the lines of a kit's play, from the parts that the player keeps
abbrev pub parts_lines : Kit → ℕ → Log → Parts → List ℕ
parts_lines kit n log p = lines_of_play log n p.desk p.replicas (lay_roles kit) p.histories p.book

pub play_said : (kit : Kit) (n : ℕ) → n ≤ events_max → Bounds kit (after kit n) → (log : Log) → Says kit n log
    → (known : ℕ) → parts_lines kit n log (lay_room (after kit n) known) ≡ text_after kit n
unfolding lines_of_play text_after room_said lay_room lay_desk
play_said kit n small b log s known = rw (events_said kit n small log s, replicas_said kit (after kit n) b)
