-- What an event is decided by on the parts as the player keeps them: the rules' own table of answers, asked of the arrays. That on a room's own parts
-- it is what the rules decide is a law: DecidedLaws. Assumes nothing.
use Rattle.std.specs.Prelude.{Bool, not, ◌&&◌, ℕ, take, leb, Ok}
use Rattle.terms.specs.Lent.{Histories}
use Rattle.terms.specs.Limits.{replicas_max, ag, up}
use Rattle.terms.specs.Lists.{pick, holds}
use Rattle.terms.specs.declared.Event.{Event}
use Rattle.terms.specs.Numbers.{Decision}
use Rattle.terms.specs.declared.Deed.TheVariants.{Idle}
use Rattle.rules.specs.Reading.{entry_at}
use Rattle.rules.specs.Sight.{Sight}
use Rattle.rules.specs.Submit.{decide_submit, decide_issue, decide_file}
use Rattle.rules.specs.Deliver.{decide_deliver}
use Rattle.rules.specs.Switching.{Handing, decide_panic, decide_build, decide_hand}
use Rattle.rules.specs.Decide.{concerned_by}
use Rattle.ledger.specs.declared.Book.{Book}
use Rattle.ledger.specs.Ledger.{total_of, content_on}
use Rattle.replica.specs.declared.Replica.{Replica}
use Rattle.replica.specs.Record.{accepted_in, active_in, settled_in}
use Rattle.room.specs.declared.Desk.{Desk}
use Rattle.terms.specs.declared.Roles.{Roles}
use Rattle.terms.specs.declared.Submissions.{Submissions}
use Rattle.validity.specs.Validity.{is_valid_on}

-- ---- who is concerned

-- one of the seven records; 0 where there is none of that number
unfoldable pub below_seven : ℕ → ℕ
below_seven n = pick (leb replicas_max n) 0 n

unfoldable pub concerned_in : Event → Roles → ℕ
concerned_in event roles = below_seven (concerned_by roles.leader roles.switcher event)

-- ---- what the rules ask, answered by the parts

-- a request that is submitted and that the receiver, whose record is p, has not noted yet
abbrev pub is_new_in : Replica → Desk → Submissions → ℕ → Bool
is_new_in p desk submissions request = holds request (take desk.submitted submissions.requests) && not (holds request (take p.count p.noted))

-- p is the record of the replica concerned
abbrev pub sight_in : Replica → Desk → Roles → Submissions → Sight
sight_in p desk roles submissions =
    record {
      leader = roles.leader;
      is_submitted = λ request. holds request (take desk.submitted submissions.requests);
      condition = p.condition;
      noted_count = p.count;
      noted_at = entry_at p.noted;
      has_noted = λ request. holds request (take p.count p.noted);
      pair_mark_at = entry_at p.marks;
      held = p.held;
    }

-- which histories are valid at ag value p and up value q
abbrev pub valid_in : Desk → Roles → Submissions → Histories → Book → ℕ → ℕ → ℕ → Bool
valid_in desk roles submissions histories book p q h =
    is_valid_on book roles (take desk.submitted submissions.requests) histories desk.histories h p q

abbrev pub handing_in : Desk → Roles → Submissions → Histories → Book → ℕ → ℕ → ℕ → Handing
handing_in desk roles submissions histories book p q to =
    record {
      switcher = roles.switcher;
      to = to;
      first = content_on book roles.switcher ag p;
      second = content_on book roles.switcher up q;
      valid = λ h. valid_in desk roles submissions histories book p q h;
    }

-- ---- the event

unfoldable pub decide_on : Event → Replica → Desk → Roles → Submissions → Histories → Book → Decision
decide_on (Event.Submit request) p desk roles submissions histories book =
    decide_submit (λ q. holds q (take desk.submitted submissions.requests)) desk.submitted request
decide_on (Event.Issue replica name content) p desk roles submissions histories book =
    decide_issue p.condition desk.histories (total_of book replica name) replica name content
decide_on (Event.Deliver sender name value to) p desk roles submissions histories book =
    decide_deliver (sight_in p desk roles submissions) (active_in roles.table) (accepted_in p.accepted sender name)
    (record { sender = sender; name = name; value = value; to = to })
    (content_on book sender name value)
decide_on (Event.Hand first second to) p desk roles submissions histories book =
    decide_hand p.condition p.held (handing_in desk roles submissions histories book first second to)
decide_on (Event.Panic to) p desk roles submissions histories book = decide_panic p.condition
decide_on Event.Idle p desk roles submissions histories book = Ok Idle
decide_on Event.Build p desk roles submissions histories book =
    let own = total_of book roles.switcher ag in
    decide_build p.condition p.held (settled_in p.accepted roles.table roles.leader roles.switcher own) own
decide_on (Event.File j k) p desk roles submissions histories book = decide_file desk.filed j k
