-- The clock comes first: the gap is added, then lateness is tested once, before the event. Laws: Laws.Time, Laws.Lateness. Assumes nothing.
use Rattle.std.specs.Prelude.{not, ◌&&◌, List, [], ◌∷◌, ℕ, ◌+◌, ◌-◌, leb, Option, None, Some}
use Rattle.terms.specs.Lists.{pick, is_some}
use Rattle.terms.specs.Kit.{Kit}
use Rattle.rules.specs.Room.{Room, with_clock, with_late}
use Rattle.rules.specs.Reading.{answered}

-- the late tick that the submissions and their ticks give: the earliest unanswered one whose wait is at least the patience, plus patience
abbrev pub overdue : Kit → Room → List ℕ → List ℕ → Option ℕ
overdue kit r [] ticks = None
overdue kit r (q ∷ qs) [] = None
overdue kit r (q ∷ qs) (t ∷ ts) =
    pick (not (answered kit r q) && leb kit.patience (r.clock - t)) (Some (t + kit.patience)) (overdue kit r qs ts)

-- only clock and late tick move: the late tick stays if there was one, else it is what the submissions give. Nobody halts by it
unfoldable pub tick : Kit → Room → ℕ → Room
tick kit r gap =
    let later = with_clock r (r.clock + gap) in
    with_late later (pick (is_some r.late) r.late (overdue kit later later.submitted later.ticks))
