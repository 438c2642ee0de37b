-- The lines that show a room, from the parts that the player keeps, whatever is in them. Laws: RoomTextLaws, in proofs/, where the parts are a room's
-- of the rules. Assumes nothing.
use Rattle.std.specs.Prelude.{Option, Some, None, true, List, [], ◌++◌, ℕ, suc, ◌-◌, min, get_or, take, eqb, ltb}
use Rattle.terms.specs.declared.Content.{Content}
use Rattle.terms.specs.Limits.{replicas_max, ag, up, sw, places_max, requests_max, histories_max, events_max}
use Rattle.terms.specs.Lent.{Histories, Answers, no_history}
use Rattle.terms.specs.declared.Submissions.{Submissions}
use Rattle.terms.specs.Lists.{pick}
use Rattle.text.specs.Text.{decimal}
use Rattle.ledger.specs.declared.Book.{Book}
use Rattle.ledger.specs.Ledger.{total_of, look_up}
use Rattle.replica.specs.declared.Replica.{Replica}
use Rattle.replica.specs.Record.{fresh_record}
use Rattle.room.specs.declared.Desk.{Desk}
use Rattle.room.specs.declared.Log.{Log}
use Rattle.terms.specs.declared.Roles.{Roles}
use Rattle.room.specs.Settled.{settled_of, shown_record}
use Rattle.play_lines.specs.Lines.{lines_from}
use Rattle.room_lines.specs.Pieces.{dash, event_text, submission_text, submitted_text, history_text, content_text, counter_text, kept_text, record_text}

-- ---- the event, submissions, histories

-- the answer to event n, counted from 1; there are 4,096 at the most
unfoldable pub answer_in : Answers → ℕ → List ℕ
answer_in answers n = pick (eqb n 0) dash (pick (ltb events_max n) dash (decimal (get_or answers (n - 1) 0)))

abbrev pub submission_at : Submissions → ℕ → List ℕ
submission_at submissions i = submission_text (get_or submissions.requests i 0) (get_or submissions.ticks i 0)

unfoldable pub submissions_in : Submissions → ℕ → List ℕ
submissions_in submissions n = lines_from 0 (min n requests_max) (submission_at submissions)

unfoldable pub submitted_line : Submissions → ℕ → List ℕ
submitted_line submissions n = submitted_text (submissions_in submissions n)

abbrev pub history_at : Histories → ℕ → List ℕ
history_at histories h = let history = get_or histories h no_history in history_text h history.j history.k (take history.count history.list)

unfoldable pub history_lines : Histories → ℕ → List ℕ
history_lines histories n = lines_from 0 (min n histories_max) (history_at histories)

-- ---- counters

-- nothing where no content stands
abbrev pub choice_text : Option Content → List ℕ
choice_text None = []
choice_text (Some c) = content_text c

-- the content after the first i
abbrev pub content_at_place : Book → ℕ → ℕ → ℕ → List ℕ
content_at_place book x name i = choice_text (look_up book x name (suc i))

unfoldable pub contents_in : Book → ℕ → ℕ → ℕ → List ℕ
contents_in book x name n = lines_from 0 (min n places_max) (content_at_place book x name)

unfoldable pub counter_line : Book → ℕ → ℕ → List ℕ
counter_line book x name =
    counter_text x name (total_of book x name) (contents_in book x name (total_of book x name))

-- the three counters of replica x
unfoldable pub counters_at : Book → ℕ → List ℕ
counters_at book x = counter_line book x ag ++ (counter_line book x up ++ counter_line book x sw)

unfoldable pub counter_lines : Book → ℕ → List ℕ
counter_lines book size = lines_from 0 (min size replicas_max) (counters_at book)

-- ---- replicas

-- what a record keeps
unfoldable pub kept_in : Replica → List ℕ
kept_in p = kept_text p.held (take p.count p.noted) (take p.pairs p.marks) (λ c. get_or p.accepted c 0)

-- the line of replica x with this record, which has settled this list
unfoldable pub record_line : ℕ → Replica → List ℕ → List ℕ
record_line x p list =
    record_text x p.condition p.mark p.held (take p.count p.noted) (take p.pairs p.marks) (λ c. get_or p.accepted c 0) list

-- what is shown of its record, and what it has settled
unfoldable pub replica_line : Roles → Histories → Book → ℕ → Replica → List ℕ
replica_line roles histories book x p = record_line x (shown_record p) (settled_of roles histories book x p)

-- the line of replica x
abbrev pub replica_at : Roles → Histories → Book → List Replica → ℕ → List ℕ
replica_at roles histories book replicas x = replica_line roles histories book x (get_or replicas x (fresh_record true))

-- one line for each replica
unfoldable pub replica_lines : List Replica → Roles → Histories → Book → List ℕ
replica_lines replicas roles histories book = lines_from 0 (min roles.size replicas_max) (replica_at roles histories book replicas)

-- ---- the whole

-- the room after n events
unfoldable pub lines_of_room : Log → ℕ → Desk → List Replica → Roles → Submissions → Histories → Book → List ℕ
lines_of_room log n desk replicas roles submissions histories book =
    event_text n desk.clock (answer_in log.answers n) desk.late
    ++ (submitted_line submissions desk.submitted
    ++ (history_lines histories desk.histories ++ (counter_lines book roles.size ++ replica_lines replicas roles histories book)))
