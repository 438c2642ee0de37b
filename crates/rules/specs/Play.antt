-- Playing: one event after the clock, the room after the first n events of a kit, and the answer to each. Laws: the folder proofs/Laws. Assumes nothing.
use Rattle.std.specs.Prelude.{Option, None, Some, List, [], ◌∷◌, ℕ, take}
use Rattle.terms.specs.Lists.{nth}
use Rattle.terms.specs.Kit.{Kit, Entry}
use Rattle.terms.specs.declared.Event.{Event}
use Rattle.terms.specs.Numbers.{Answer}
use Rattle.rules.specs.Room.{Room, fresh_room}
use Rattle.rules.specs.Clock.{tick}
use Rattle.rules.specs.Outcome.{Outcome}
use Rattle.rules.specs.Decide.{concerned, decide, done}

-- the event itself: what is decided of it is done; the requests are those of a filed history
unfoldable pub on_event : Kit → Room → Event → List ℕ → Outcome
on_event kit r e list = done kit r (concerned kit e) list (decide kit r e)

-- the clock first, then the event
unfoldable pub step : Kit → Room → Entry → Outcome
step kit r e = on_event kit (tick kit r e.gap) e.event e.requests

-- the room after some events
unfoldable pub play : Kit → Room → List Entry → Room
play kit r [] = r
play kit r (e ∷ es) = play kit (step kit r e).room es

-- the room after the first n events of a kit
unfoldable pub after : Kit → ℕ → Room
after kit n = play kit (fresh_room kit) (take n kit.events)

abbrev pub answer_in : Kit → Room → Option Entry → Option Answer
answer_in kit r None = None
answer_in kit r (Some e) = Some (step kit r e).answer

-- the answer to the event that comes after the first n
unfoldable pub answer : Kit → ℕ → Option Answer
answer kit n = answer_in kit (after kit n) (nth kit.events n)
