-- What is read off a room: contents by value, settled counts and lists, whether a request is answered. Laws: ReadingLaws. Assumes nothing.
use Rattle.std.specs.Prelude.{Bool, true, false, ◌&&◌, List, [], ℕ, zero, suc, ◌-◌, length, take, get_or, eqb, Option, None, Some}
use Rattle.terms.specs.Limits.{ag, up}
use Rattle.terms.specs.Lists.{pick, nth, all_of, any_below, least_over}
use Rattle.terms.specs.Kit.{Kit}
use Rattle.terms.specs.Numbers.{content_numbers}
use Rattle.terms.specs.declared.Content.{Content}
use Rattle.terms.specs.declared.Content.TheVariants.{Update}
use Rattle.terms.specs.declared.Condition.{Condition}
use Rattle.terms.specs.declared.Condition.TheVariants.{Running, Halted, Closed, Faulty}
use Rattle.rules.specs.Table.{is_active, actives}
use Rattle.rules.specs.Room.{Filing, Replica, Room}

-- ---- conditions

abbrev pub is_running : Condition → Bool
is_running Running = true
is_running Halted = false
is_running Closed = false
is_running Faulty = false

abbrev pub is_closed : Condition → Bool
is_closed Running = false
is_closed Halted = false
is_closed Closed = true
is_closed Faulty = false

abbrev pub is_faulty : Condition → Bool
is_faulty Running = false
is_faulty Halted = false
is_faulty Closed = false
is_faulty Faulty = true

-- ---- requests and contents, by value: values count from 1

-- request i of a list
abbrev pub entry_at : List ℕ → ℕ → ℕ
entry_at list i = get_or list (i - 1) 0

-- the content at a value of a counter: value 0 is never issued
abbrev pub content_at : List Content → ℕ → Option Content
content_at issued zero = None
content_at issued (suc i) = nth issued i

-- the same kind, a and b
unfoldable pub same_content : Content → Content → Bool
same_content c d =
    let same : ℕ → Bool = λ i. eqb (get_or (content_numbers c) i 0) (get_or (content_numbers d) i 0) in
    same 0 && (same 1 && same 2)

-- whether this content was issued there
abbrev pub is_content : Option Content → Content → Bool
is_content None c = false
is_content (Some d) c = same_content d c

-- a and b of a content
abbrev pub first_of : Option Content → ℕ
first_of None = 0
first_of (Some c) = get_or (content_numbers c) 1 0

abbrev pub second_of : Option Content → ℕ
second_of None = 0
second_of (Some c) = get_or (content_numbers c) 2 0

-- ---- settled

-- how many values a replica has issued on ag
abbrev pub ag_total : Room → ℕ → ℕ
ag_total r x = length (r.counter x ag)

-- what replica x has of the active replica y: on ag, of itself, its own total, and of another the last accepted ag value, where x is
-- active; the last accepted up value where x is passive
abbrev pub value_seen : Bool → ℕ → ℕ → (ℕ → ℕ → ℕ) → ℕ → ℕ
value_seen active own x accepted y = pick active (pick (eqb y x) own (accepted y ag)) (accepted y up)

-- the settled count of replica x with this record and this ag total: the least over all active replicas. The least is taken from one of
-- them on, which therefore changes nothing: x itself where x is active, the leader where x is passive
unfoldable pub settled_count : Kit → ℕ → Replica → ℕ → ℕ
settled_count kit x p own =
    least_over (actives kit) (value_seen (is_active kit x) own x p.accepted) (pick (is_active kit x) own (p.accepted kit.leader up))

-- the first c of its noted requests
unfoldable pub settled_noted : Kit → ℕ → Replica → ℕ → List ℕ
settled_noted kit x p own = take (settled_count kit x p own) p.noted

abbrev pub list_of : Option Filing → List ℕ
list_of None = []
list_of (Some h) = h.list

unfoldable pub held_list : Room → Option ℕ → List ℕ
held_list r None = []
held_list r (Some h) = list_of (nth r.histories h)

-- a faulty replica settles nothing, a closed one has settled the whole list of the history that it holds
unfoldable pub settled : Kit → Room → ℕ → List ℕ
settled kit r x =
    pick (is_faulty (r.replica x).condition) []
    (pick (is_closed (r.replica x).condition) (held_list r (r.replica x).held)
    (settled_noted kit x (r.replica x) (ag_total r x)))

-- ---- answered

-- every active replica's up value i is the same UPDATE of the request, its mark included: the leader is one of them, so its mark is the
-- one that all have
unfoldable pub answered_at : Kit → Room → ℕ → ℕ → Bool
answered_at kit r request i =
    let mark = second_of (content_at (r.counter kit.leader up) i) in
    all_of (actives kit) (λ y. is_content (content_at (r.counter y up) i) (Update request mark))

-- for some value i that the leader has issued on up
unfoldable pub answered : Kit → Room → ℕ → Bool
answered kit r request = any_below (length (r.counter kit.leader up)) (λ i. answered_at kit r request (suc i))
