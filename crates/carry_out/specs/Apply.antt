-- What a decision does to the record of the replica concerned and to the counters, on every record and every ledger. Laws: ApplyLaws.
-- Assumes nothing.
use Rattle.std.specs.Prelude.{Bool, true, false, List, ℕ, get_or, take, leb, ltb, Option, None, Some, Ok, Err}
use Rattle.terms.specs.Lent.{Histories, no_history}
use Rattle.terms.specs.Limits.{ag, up, sw, requests_max, histories_max}
use Rattle.terms.specs.Lists.{pick}
use Rattle.terms.specs.Mark.{next_mark, mark_of}
use Rattle.terms.specs.declared.Content.{Content}
use Rattle.rules.specs.Reading.{is_running}
use Rattle.ledger.specs.declared.Book.{Book}
use Rattle.ledger.specs.Ledger.{total_of, issue_on}
use Rattle.replica.specs.declared.Replica.{Replica}
use Rattle.replica.specs.Record.{note_on, note_pair_on, accept_on, mark_on, halt_on, hold_on, close_on, settled_in, switches_in, mark_in}
use Rattle.room.specs.declared.Desk.{Desk}
use Rattle.terms.specs.declared.Roles.{Roles}
use Rattle.terms.specs.declared.Act.{Act}
use Rattle.terms.specs.Numbers.{Decision}
use Rattle.terms.specs.declared.Deed.{Deed}
use Rattle.terms.specs.declared.Deed.TheVariants.{Submit, Issue, Idle, Build, File}

-- the record and the counters after it
pub record Applied : Type 0 where
  pub replica : Replica
  pub book : Book

abbrev pub applied : Replica → Book → Applied
applied p b = record { replica = p; book = b }

-- ---- settling

-- the request at a place, 0 past the end
unfoldable pub request_at : List ℕ → ℕ → ℕ
request_at list c = pick (leb requests_max c) 0 (get_or list c 0)

-- the settled count was c and is now d
unfoldable pub settle_on : Replica → ℕ → ℕ → ℕ → Book → Applied
settle_on p c d me b =
    let request = request_at p.noted c in
    let mark = next_mark p.mark request in
    pick (ltb c d) (applied (mark_on p mark) (issue_on b me up (Content.Update request mark))) (applied p b)

-- ---- each decision

unfoldable pub lead_on : Replica → ℕ → ℕ → Book → Applied
lead_on p request me b = pick (is_running p.condition) (applied (note_on p request) (issue_on b me ag (Content.Prepare request))) (applied p b)

unfoldable pub prepare_on : Replica → ℕ → ℕ → ℕ → ℕ → Roles → Book → Applied
prepare_on p sender value request me roles b =
    let q = accept_on (note_on p request) sender ag value in
    let b₁ = issue_on b me ag (Content.Commit request value) in
    settle_on q (settled_in p.accepted roles.table roles.leader me (total_of b me ag))
    (settled_in q.accepted roles.table roles.leader me (total_of b₁ me ag)) me b₁

unfoldable pub commit_on : Replica → ℕ → ℕ → ℕ → Roles → Book → Applied
commit_on p sender value me roles b =
    let q = accept_on p sender ag value in
    let own = total_of b me ag in
    settle_on q (settled_in p.accepted roles.table roles.leader me own) (settled_in q.accepted roles.table roles.leader me own) me b

-- the mark is that of the last settled pair
unfoldable pub pair_on : Replica → ℕ → ℕ → ℕ → Roles → Replica
pair_on p sender value me roles =
    let q = accept_on p sender up value in
    mark_on q (mark_in q.marks (settled_in q.accepted roles.table roles.leader me 0))

-- the mark of the list that is held
unfoldable pub held_mark : Option ℕ → Histories → ℕ
held_mark None histories = 0
held_mark (Some h) histories =
    let history = get_or histories h no_history in
    pick (leb histories_max h) 0 (mark_of (take history.count history.list))

-- with f senders accepted it closes
unfoldable pub switch_on : Replica → ℕ → ℕ → Roles → Histories → Replica
switch_on p sender value roles histories =
    let q = accept_on p sender sw value in
    pick (ltb (switches_in q.accepted roles.size) roles.f) q (close_on q (held_mark q.held histories))

unfoldable pub hand_on : Replica → ℕ → ℕ → Book → Applied
hand_on p history me b = applied (hold_on p history) (issue_on b me sw (Content.Switch history))

-- h histories were filed before
unfoldable pub build_on : Replica → ℕ → ℕ → Book → Applied
build_on p h me b = pick (leb histories_max h) (applied p b) (hand_on p h me (issue_on (issue_on b me ag (Content.History h)) me up (Content.History h)))

-- what replica `me` does at what has reached it
unfoldable pub act_on : Replica → Act → ℕ → Roles → Histories → Book → Applied
act_on p (Act.Prepare sender value request) me roles histories b = prepare_on p sender value request me roles b
act_on p (Act.Commit sender value) me roles histories b = commit_on p sender value me roles b
act_on p (Act.KnownPair sender value) me roles histories b = applied (pair_on p sender value me roles) b
act_on p (Act.NewPair sender value request mark) me roles histories b = applied (pair_on (note_pair_on p request mark) sender value me roles) b
act_on p (Act.Switch sender value) me roles histories b = applied (switch_on p sender value roles histories) b
act_on p (Act.Hand history) me roles histories b = hand_on p history me b
act_on p Act.Panic me roles histories b = applied (halt_on p) b

unfoldable pub apply_on : Replica → Decision → Desk → ℕ → Roles → Histories → Book → Applied
apply_on p (Ok (Submit request)) desk me roles histories b = lead_on p request me b
apply_on p (Ok (Issue replica name content)) desk me roles histories b = applied p (issue_on b replica name content)
apply_on p (Ok (Deed.Act act)) desk me roles histories b = act_on p act me roles histories b
apply_on p (Ok (Build j k)) desk me roles histories b = build_on p desk.histories me b
apply_on p (Err answer) desk me roles histories b = applied p b
apply_on p (Ok Idle) desk me roles histories b = applied p b
apply_on p (Ok (File j k)) desk me roles histories b = applied p b

-- whether a decision does anything to a record or a counter
unfoldable pub moves_on : Decision → Bool
moves_on (Ok (Submit request)) = true
moves_on (Ok (Issue replica name content)) = true
moves_on (Ok (Deed.Act act)) = true
moves_on (Ok (Build j k)) = true
moves_on (Err answer) = false
moves_on (Ok Idle) = false
moves_on (Ok (File j k)) = false
