-- The player's loop: what one event makes of the parts that it keeps, and what the first events do. Laws: TurnLaws. Assumes nothing.
use Rattle.std.specs.Prelude.{List, [], ℕ, zero, suc, ◌+◌, min, get_or, set, replicate, None}
use Rattle.terms.specs.Limits.{requests_max, events_max}
use Rattle.terms.specs.Lent.{Requests, Histories}
use Rattle.terms.specs.Numbers.{answer_number}
use Rattle.terms.specs.declared.Condition.TheVariants.{Running}
use Rattle.ledger.specs.declared.Book.{Book}
use Rattle.replica.specs.declared.Replica.{Replica}
use Rattle.room.specs.declared.Desk.{Desk}
use Rattle.room.specs.declared.Log.{Log}
use Rattle.room.specs.declared.Played.{Played}
use Rattle.terms.specs.declared.Submissions.{Submissions}
use Rattle.terms.specs.declared.Roles.{Roles}
use Rattle.terms.specs.Numbers.{Decision}
use Rattle.room.specs.Desk.{fresh_desk}
use Rattle.room.specs.Layout.{Parts}
use Rattle.rules.specs.Outcome.{answer_of}
use Rattle.kit.specs.Reader.{next_in, list_after}
use Rattle.kit.specs.declared.Next.{Next}
use Rattle.kit.specs.declared.Settings.{Settings}
use Rattle.clock.specs.Clocked.{clock_on}
use Rattle.decide.specs.Decided.{concerned_in}
use Rattle.decide.specs.DecidedLaws.{decided_on}
use Rattle.carry_out.specs.Done.{done_on}
use Rattle.player.specs.Opening.{roles_in, fresh_replicas}

-- the parts of the room, what is said of the events so far, the list of the last filed history, and the cursor of the next event
pub record Stage : Type 0 where
  pub parts : Parts
  pub log : Log
  pub list : Requests
  pub at : ℕ

-- what stands where there is no replica
abbrev pub no_replica : Replica
no_replica = record { condition = Running; noted = []; count = 0; marks = []; pairs = 0; mark = 0; accepted = []; held = None }

-- event k's answer and clock are said
abbrev pub said : Log → ℕ → ℕ → ℕ → Log
said log k answer clock = record { answers = set log.answers k answer; clocks = set log.clocks k clock }

-- ---- one event: clock, decision, what is done

-- event k, where the clock has ticked: e is what was read, `list` the requests of a history that it files
module _ (roles : Roles) (k : ℕ) (s : Stage) (e : Next) (list : Requests) where
  abbrev pub doing : Parts → ℕ → Replica → Decision → Stage
  doing parts me p d =
      record {
        parts = done_on roles parts p me d list e.count;
        log = said s.log k (answer_number (answer_of d)) parts.desk.clock;
        list = list;
        at = e.next;
      }

  abbrev pub deciding : Parts → ℕ → Replica → Stage
  deciding parts me p = doing parts me p (decided_on roles parts p e.event)

  abbrev pub ticking : Parts → Stage
  ticking parts = deciding parts (concerned_in e.event roles) (get_or parts.replicas (concerned_in e.event roles) no_replica)

unfoldable pub turn_on : List ℕ → Roles → ℕ → Stage → Stage
turn_on bytes roles k s =
    ticking roles k s (next_in bytes s.at) (list_after bytes s.at s.list) (clock_on roles s.parts (next_in bytes s.at).gap)

-- m more events, the next one being event k
unfoldable pub turns_from : List ℕ → Roles → ℕ → ℕ → Stage → Stage
turns_from bytes roles k zero s = s
turns_from bytes roles k (suc m) s = turns_from bytes roles (k + 1) m (turn_on bytes roles k s)

-- ---- the loop's state and what it leaves

abbrev pub stage : Desk → List Replica → Log → Submissions → Histories → Book → Requests → ℕ → Stage
stage desk replicas log submissions histories book list at =
    record {
      parts = record { desk = desk; submissions = submissions; histories = histories; book = book; replicas = replicas };
      log = log;
      list = list;
      at = at;
    }

-- what is left of a stage when the play ends
pub record Left : Type 0 where
  pub parts : Parts
  pub log : Log

abbrev pub left_of : Stage → Left
left_of s = record { parts = s.parts; log = s.log }

abbrev pub left : Played → Log → Submissions → Histories → Book → Left
left p log submissions histories book = left_of (stage p.desk p.replicas log submissions histories book [] 0)

-- the first events, `most` of them and no more than a kit has; the first stands at this place
unfoldable pub played_from_records : List ℕ → ℕ → ℕ → Roles → List Replica → Log → Submissions → Histories → Book → Left
played_from_records bytes first most roles fresh log submissions histories book =
    left_of
    (turns_from bytes roles 0 (min most events_max)
    (stage fresh_desk fresh log submissions histories book (replicate requests_max 0) first))

-- the same from the room that these settings open
unfoldable pub play_on : List ℕ → Settings → ℕ → Log → Submissions → Histories → Book → Left
play_on bytes s most log submissions histories book =
    played_from_records bytes s.first most (roles_in s) (fresh_replicas s.table) log submissions histories book
