-- The arrays that are lent from one layer to the next, as lists: the code's type aliases of the same names. Assumes nothing.
use Rattle.std.specs.Prelude.{ℕ, List, []}
use Rattle.terms.specs.declared.History.{History}

-- one number a replica
abbrev pub Table : Type 0
Table = List ℕ

-- requests in order, and the ticks of the submitted ones
abbrev pub Requests : Type 0
Requests = List ℕ

abbrev pub Ticks : Type 0
Ticks = List ℕ

-- the marks of a passive replica's pairs
abbrev pub Marks : Type 0
Marks = List ℕ

-- the last accepted value of each sender's counters
abbrev pub Accepted : Type 0
Accepted = List ℕ

-- the histories, those filed by events 8 and the built one
abbrev pub Histories : Type 0
Histories = List History

-- what stands where there is no history
abbrev pub no_history : History
no_history = record { j = 0; k = 0; count = 0; list = [] }

-- the clock after each event, and the number that it was answered by
abbrev pub Clocks : Type 0
Clocks = List ℕ

abbrev pub Answers : Type 0
Answers = List ℕ
