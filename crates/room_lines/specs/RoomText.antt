-- The room after n events as the rules say it: the clock, the answer and the late tick; the submissions; the filed histories; what each
-- counter has issued; and each replica's record with what it has settled. Laws: RoomTextLaws, in proofs/. Assumes nothing.
use Rattle.std.specs.Prelude.{true, List, ◌++◌, ℕ, zero, suc, ◌/◌, ◌%◌, length, get_or}
use Rattle.terms.specs.Limits.{names, ag, up, sw}
use Rattle.terms.specs.Lists.{pick}
use Rattle.terms.specs.Kit.{Kit}
use Rattle.text.specs.Text.{decimal}
use Rattle.rules.specs.Room.{Room, Replica, fresh_replica}
use Rattle.rules.specs.Reading.{is_faulty, settled}
use Rattle.rules.specs.Play.{after, answer}
use Rattle.play_lines.specs.Lines.{lines_from}
use Rattle.room.specs.Said.{number_said}
use Rattle.room_lines.specs.Pieces.{dash, numbered, event_text, submission_text, submitted_text, history_text, content_text, counter_text, record_text}

-- the answer to event n, counted from 1: none before the first
abbrev pub answer_said : Kit → ℕ → List ℕ
answer_said kit zero = dash
answer_said kit (suc k) = decimal (number_said (answer kit k))

-- each request with its tick
unfoldable pub submitted_said : Room → List ℕ
submitted_said r = submitted_text (numbered (λ i request. submission_text request (get_or r.ticks i 0)) 0 r.submitted)

unfoldable pub histories_said : Room → List ℕ
histories_said r = numbered (λ h filing. history_text h filing.j filing.k filing.list) 0 r.histories

unfoldable pub counter_said : Room → ℕ → ℕ → List ℕ
counter_said r x name = counter_text x name (length (r.counter x name)) (numbered (λ i content. content_text content) 0 (r.counter x name))

-- the three counters of replica x
unfoldable pub counters_said : Room → ℕ → List ℕ
counters_said r x = counter_said r x ag ++ (counter_said r x up ++ counter_said r x sw)

-- of a faulty replica a fresh record is shown: mark 0, nothing held, noted or accepted
unfoldable pub record_shown : Replica → Replica
record_shown p = pick (is_faulty p.condition) (fresh_replica true) p

-- only a passive replica has pair marks. The last accepted values by sender, then name
unfoldable pub replica_said : Kit → Room → ℕ → List ℕ
replica_said kit r x =
    let p = record_shown (r.replica x) in
    record_text x p.condition p.mark p.held p.noted p.pair_marks
    (λ c. p.accepted (c / names) (c % names)) (settled kit r x)

-- the room after n events
unfoldable pub text_of_room : Kit → ℕ → List ℕ
text_of_room kit n =
    let r = after kit n in
    event_text n r.clock (answer_said kit n) r.late
    ++ (submitted_said r
    ++ (histories_said r ++ (lines_from 0 (length kit.table) (counters_said r) ++ lines_from 0 (length kit.table) (replica_said kit r))))
