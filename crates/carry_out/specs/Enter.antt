-- What a decision enters in the room's lists, on every room. Laws: ApplyLaws. Assumes nothing.
use Rattle.std.specs.Prelude.{List, [], ◌∷◌, ℕ, ◌+◌, set, take, leb, Ok, Err}
use Rattle.terms.specs.Lent.{Requests, Histories}
use Rattle.terms.specs.Limits.{requests_max, histories_max}
use Rattle.terms.specs.Lists.{pick, holds}
use Rattle.terms.specs.declared.Submissions.{Submissions}
use Rattle.terms.specs.declared.History.{History}
use Rattle.rules.specs.Switching.{missing}
use Rattle.replica.specs.declared.Replica.{Replica}
use Rattle.room.specs.declared.Desk.{Desk}
use Rattle.terms.specs.Numbers.{Decision}
use Rattle.terms.specs.declared.Deed.{Deed}
use Rattle.terms.specs.declared.Deed.TheVariants.{Submit, Issue, Idle, Build, File}

-- ---- submissions

unfoldable pub store_request : ℕ → ℕ → ℕ → Submissions → Submissions
store_request n request clock s =
    pick (leb requests_max n) s (record { requests = set s.requests n request; ticks = set s.ticks n clock })

-- ---- histories

unfoldable pub file_on : ℕ → History → Histories → Histories
file_on h history histories = pick (leb histories_max h) histories (set histories h history)

-- a request goes to the end of a history's list
abbrev pub listed : History → ℕ → History
listed h request = record { j = h.j; k = h.k; count = h.count + 1; list = set h.list h.count request }

-- requests go there, as far as there is room
abbrev pub store_all : History → List ℕ → History
store_all h [] = h
store_all h (q ∷ qs) = pick (leb requests_max h.count) h (store_all (listed h q) qs)

-- a request goes there if it is not noted
unfoldable pub add_missing : List ℕ → ℕ → History → History
add_missing noted request h = pick (holds request noted) h (pick (leb requests_max h.count) h (listed h request))

-- the noted requests and then the submitted ones not noted
unfoldable pub built_on : Replica → List ℕ → ℕ → ℕ → History
built_on p submitted j k = store_all (record { j = j; k = k; count = p.count; list = p.noted }) (missing (take p.count p.noted) submitted)

-- ---- each decision

pub record Entered : Type 0 where
  pub submissions : Submissions
  pub histories : Histories

abbrev pub entered : Submissions → Histories → Entered
entered s f = record { submissions = s; histories = f }

-- p is the record of the replica concerned, the n requests of `list` those of a filed history
unfoldable pub enter_on : Decision → Desk → Replica → Requests → ℕ → Submissions → Histories → Entered
enter_on (Ok (Submit request)) desk p list n s f = entered (store_request desk.submitted request desk.clock s) f
enter_on (Ok (File j k)) desk p list n s f = entered s (file_on desk.histories (record { j = j; k = k; count = n; list = list }) f)
enter_on (Ok (Build j k)) desk p list n s f = entered s (file_on desk.histories (built_on p (take desk.submitted s.requests) j k) f)
enter_on (Err answer) desk p list n s f = entered s f
enter_on (Ok (Issue replica name content)) desk p list n s f = entered s f
enter_on (Ok (Deed.Act act)) desk p list n s f = entered s f
enter_on (Ok Idle) desk p list n s f = entered s f
