-- The operands of each kind of event, as document 01's table has them, and what each has to be. Assumes nothing.
use Rattle.std.specs.Prelude.{Option, Some, None, Bool, true, ◌||◌, List, [], ◌∷◌, ℕ, ◌+◌, eqb, leb, ltb, get_or}
use Rattle.terms.specs.Limits.{name_max, requests_max}
use Rattle.terms.specs.declared.Content as Said
use Rattle.terms.specs.Lists.{pick, within}
use Rattle.terms.specs.Kit.{is_request}
use Rattle.terms.specs.Numbers.{content_of}
use Rattle.terms.specs.declared.Kind.{Kind}
use Rattle.terms.specs.declared.Event.{Event}
use Rattle.grammar.specs.declared.operands.Operand.{Operand}
use Rattle.grammar.specs.declared.operands.Operand.TheVariants.{Any, Replica, Name, Content, B, Request, K, E}

-- ---- the table

-- request; replica, name, content kind, a, b; sender, name, value, to; ag value, up value, to; to; none; none; j, k, e
abbrev pub operands_of : Kind → List Operand
operands_of Kind.Submit = Request ∷ []
operands_of Kind.Issue = Replica ∷ Name ∷ Content ∷ Any ∷ B ∷ []
operands_of Kind.Deliver = Replica ∷ Name ∷ Any ∷ Replica ∷ []
operands_of Kind.Hand = Any ∷ Any ∷ Replica ∷ []
operands_of Kind.Panic = Replica ∷ []
operands_of Kind.Idle = []
operands_of Kind.Build = []
operands_of Kind.File = Any ∷ K ∷ E ∷ []

unfoldable pub operand_of : Kind → ℕ → Operand
operand_of kind at = get_or (operands_of kind) at Any

-- ---- what each has to be

-- COMMIT and UPDATE have a b
abbrev pub uses_b : ℕ → Bool
uses_b content = within 2 3 content

-- size is how many replicas there are, ops the operands before: the content kind is the third, j the first and k the second
abbrev pub fits : Operand → ℕ → List ℕ → ℕ → Bool
fits Any size ops n = true
fits Replica size ops n = ltb n size
fits Name size ops n = leb n name_max
fits Content size ops n = within 1 5 n
fits B size ops n = uses_b (get_or ops 2 0) || eqb n 0
fits Request size ops n = is_request n
fits K size ops n = leb (get_or ops 0 0) n
fits E size ops n = leb (get_or ops 1 0 + n) requests_max

-- how many requests k and e file
unfoldable pub filed_of : ℕ → ℕ → ℕ
filed_of k e = pick (leb (k + e) requests_max) (k + e) 0

-- how many requests follow the operands of a kind, of which the second and the third are given
abbrev pub filed_by : Kind → ℕ → ℕ → ℕ
filed_by Kind.Submit k e = 0
filed_by Kind.Issue k e = 0
filed_by Kind.Deliver k e = 0
filed_by Kind.Hand k e = 0
filed_by Kind.Panic k e = 0
filed_by Kind.Idle k e = 0
filed_by Kind.Build k e = 0
filed_by Kind.File k e = filed_of k e

-- ---- the event that the operands make

-- numbers that are no content make nothing
abbrev pub issue_of : ℕ → ℕ → Option Said.Content → Event
issue_of replica name (Some c) = Event.Issue replica name c
issue_of replica name None = Event.Idle

module _ (ops : List ℕ) where
  abbrev op : ℕ → ℕ
  op i = get_or ops i 0

abbrev pub event_of : Kind → List ℕ → Event
event_of Kind.Submit ops = Event.Submit (op ops 0)
event_of Kind.Issue ops = issue_of (op ops 0) (op ops 1) (content_of (op ops 2) (op ops 3) (op ops 4))
event_of Kind.Deliver ops = Event.Deliver (op ops 0) (op ops 1) (op ops 2) (op ops 3)
event_of Kind.Hand ops = Event.Hand (op ops 0) (op ops 1) (op ops 2)
event_of Kind.Panic ops = Event.Panic (op ops 0)
event_of Kind.Idle ops = Event.Idle
event_of Kind.Build ops = Event.Build
event_of Kind.File ops = Event.File (op ops 0) (op ops 1)
