-- What the clock does to the desk: the gap, the search for an overdue submission, the late tick. Laws: ClockLaws, where desk and arrays are
-- a room's. Assumes nothing.
use Rattle.std.specs.Prelude.{Option, Some, ℕ, zero, suc, ◌+◌, ◌-◌, ◌%◌, ◌^◌, Bool, ◌&&◌, List, nat_le, nat_lt, slice_index}
use Rattle.terms.specs.Limits.{requests_max}
use Rattle.terms.specs.Lists.{pick, is_some}
use Rattle.ledger.specs.declared.Book.{Book}
use Rattle.room.specs.declared.Desk.{Desk}
use Rattle.terms.specs.declared.Roles.{Roles}
use Rattle.terms.specs.declared.Submissions.{Submissions}
use Rattle.clock.specs.AnsweredOn.{answered_on}

-- ticks are numbers of 64 bits
unfoldable pub due_at : ℕ → ℕ → ℕ
due_at tick patience = (tick + patience) % 2 ^ 64

-- the wait is at least the patience
unfoldable pub is_due : ℕ → ℕ → ℕ → Bool
is_due tick patience clock = nat_le (due_at tick patience) clock

-- submission i is due and answered
unfoldable pub passed : ℕ → Roles → Submissions → Book → ℕ → Bool
passed clock roles submissions book i =
    nat_lt i requests_max
    && (is_due (slice_index submissions.ticks i) roles.patience clock && answered_on roles (slice_index submissions.requests i) book)

-- the first number from i on that fails, of n; the one after them if none does
abbrev pub first_from : (ℕ → Bool) → ℕ → ℕ → ℕ
first_from t i zero = i
first_from t i (suc n) = pick (t i) (first_from t (i + 1) n) i

-- the first of the submissions not known to be answered that is not both due and answered
unfoldable pub first_open : ℕ → ℕ → ℕ → Roles → Submissions → Book → ℕ
first_open known submitted clock roles submissions book = first_from (passed clock roles submissions book) known (submitted - known)

-- the desk with this clock, late tick and number of submissions known to be answered
abbrev pub desk_at : Desk → ℕ → Option ℕ → ℕ → Desk
desk_at d clock late known = record d { clock = clock; late = late; known = known }

-- the desk at this clock, nothing being late before, where the search stops at submission k: overdue if there is one and it is due
unfoldable pub stops_at : Desk → ℕ → ℕ → List ℕ → ℕ → Desk
stops_at d clock patience ticks k =
    pick (nat_lt k d.submitted && (nat_lt k requests_max && is_due (slice_index ticks k) patience clock)) (desk_at d clock (Some (due_at (slice_index ticks k) patience)) k)
    (desk_at d clock d.late k)

-- lateness happens once
unfoldable pub tick_on : Desk → ℕ → Roles → Submissions → Book → Desk
tick_on d gap roles submissions book =
    let clock = (d.clock + gap) % 2 ^ 64 in
    pick (is_some d.late) (desk_at d clock d.late d.known)
    (stops_at d clock roles.patience submissions.ticks (first_open d.known d.submitted clock roles submissions book))
