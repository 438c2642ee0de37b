-- The paper's number and values of each case of the declared enums. Assumes nothing.
use Rattle.std.specs.Prelude.{Option, Some, None, Result, Ok, Err, ⊤, ℕ, List, [], ◌∷◌, ◌==◌}
use Rattle.terms.specs.Lists.{pick}
use Rattle.terms.specs.declared.Content.{Content}
use Rattle.terms.specs.declared.Content.TheVariants.{Prepare, Commit, Update, History, Switch}
use Rattle.terms.specs.declared.Condition.{Condition}
use Rattle.terms.specs.declared.Condition.TheVariants.{Running, Halted, Closed, Faulty}
use Rattle.terms.specs.declared.Kind.{Kind}
use Rattle.terms.specs.declared.KitRefusal.{KitRefusal}
use Rattle.terms.specs.declared.Refusal.{Refusal}
use Rattle.terms.specs.declared.Deed.{Deed}

-- a content's kind, a and b: for PREPARE, HISTORY and SWITCH b is 0
abbrev pub content_numbers : Content → List ℕ
content_numbers (Prepare request) = 1 ∷ request ∷ 0 ∷ []
content_numbers (Commit request value) = 2 ∷ request ∷ value ∷ []
content_numbers (Update request mark) = 3 ∷ request ∷ mark ∷ []
content_numbers (History number) = 4 ∷ number ∷ 0 ∷ []
content_numbers (Switch number) = 5 ∷ number ∷ 0 ∷ []

-- a content whose b is not used
abbrev pub without_b : Content → ℕ → Option Content
without_b c b = pick (b == 0) (Some c) None

-- the content of a kind, a and b: kinds are 1 to 5
unfoldable pub content_of : ℕ → ℕ → ℕ → Option Content
content_of kind a b =
    pick (kind == 1) (without_b (Prepare a) b)
    (pick (kind == 2) (Some (Commit a b))
    (pick (kind == 3) (Some (Update a b))
    (pick (kind == 4) (without_b (History a) b)
    (pick (kind == 5) (without_b (Switch a) b) None))))

abbrev pub kind_number : Kind → ℕ
kind_number Kind.Submit = 1
kind_number Kind.Issue = 2
kind_number Kind.Deliver = 3
kind_number Kind.Hand = 4
kind_number Kind.Panic = 5
kind_number Kind.Idle = 6
kind_number Kind.Build = 7
kind_number Kind.File = 8

-- the kind of a number: kinds are 1 to 8
unfoldable pub kind_of : ℕ → Option Kind
kind_of n =
    pick (n == 1) (Some Kind.Submit)
    (pick (n == 2) (Some Kind.Issue)
    (pick (n == 3) (Some Kind.Deliver)
    (pick (n == 4) (Some Kind.Hand)
    (pick (n == 5) (Some Kind.Panic)
    (pick (n == 6) (Some Kind.Idle)
    (pick (n == 7) (Some Kind.Build)
    (pick (n == 8) (Some Kind.File) None)))))))

-- what is said of a whole kit: it is accepted, or refused
abbrev pub KitAnswer : Type 0
KitAnswer = Result ⊤ KitRefusal

abbrev pub Accepted : KitAnswer
Accepted = Ok tt

abbrev pub kit_refusal_number : KitRefusal → ℕ
kit_refusal_number KitRefusal.Cut = 1
kit_refusal_number KitRefusal.Misspelled = 2
kit_refusal_number KitRefusal.WrongSettings = 3
kit_refusal_number KitRefusal.WrongEvent = 4
kit_refusal_number KitRefusal.Excess = 5
kit_refusal_number KitRefusal.NoRoom = 6
kit_refusal_number KitRefusal.TooLong = 9

abbrev pub kit_number_of : KitAnswer → ℕ
kit_number_of (Ok t) = 0
kit_number_of (Err refusal) = kit_refusal_number refusal

-- what is said of an event: it is taken, or refused
abbrev pub Answer : Type 0
Answer = Result ⊤ Refusal

abbrev pub Taken : Answer
Taken = Ok tt

-- what an event comes to, once it is decided: what is to be done, or a refusal
abbrev pub Decision : Type 0
Decision = Result Deed Refusal

abbrev pub refusal_number : Refusal → ℕ
refusal_number Refusal.AlreadySubmitted = 11
refusal_number Refusal.SubmissionsFull = 12
refusal_number Refusal.NotFaulty = 13
refusal_number Refusal.CounterFull = 14
refusal_number Refusal.NotIssued = 15
refusal_number Refusal.ReceiverFaulty = 16
refusal_number Refusal.TooLate = 17
refusal_number Refusal.TooEarly = 18
refusal_number Refusal.NotNext = 19
refusal_number Refusal.WrongRoles = 20
refusal_number Refusal.Unexpected = 21
refusal_number Refusal.NotValid = 22
refusal_number Refusal.FilesFull = 23
refusal_number Refusal.CannotBuild = 24

abbrev pub answer_number : Answer → ℕ
answer_number (Ok t) = 0
answer_number (Err refusal) = refusal_number refusal

-- a condition as it is printed: "running", "halted", "closed", "faulty"
abbrev pub condition_word : Condition → List ℕ
condition_word Running = 0x72 ∷ 0x75 ∷ 0x6e ∷ 0x6e ∷ 0x69 ∷ 0x6e ∷ 0x67 ∷ []
condition_word Halted = 0x68 ∷ 0x61 ∷ 0x6c ∷ 0x74 ∷ 0x65 ∷ 0x64 ∷ []
condition_word Closed = 0x63 ∷ 0x6c ∷ 0x6f ∷ 0x73 ∷ 0x65 ∷ 0x64 ∷ []
condition_word Faulty = 0x66 ∷ 0x61 ∷ 0x75 ∷ 0x6c ∷ 0x74 ∷ 0x79 ∷ []
