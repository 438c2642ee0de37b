-- A room's counters as the ledger keeps them: 96 places each, the unused ones empty, and how many are taken. Laws: LedgerLaws.
-- Assumes nothing.
use Rattle.std.specs.Prelude.{Option, List, ℕ, length}
use Rattle.terms.specs.Limits.{places_max}
use Rattle.terms.specs.Lists.{nth}
use Rattle.terms.specs.Tabulate.{tab, grid}
use Rattle.terms.specs.declared.Content.{Content}
use Rattle.ledger.specs.declared.Counter.{Counter}
use Rattle.ledger.specs.declared.Book.{Book}

unfoldable pub lay_places : List Content → List (Option Content)
lay_places issued = tab places_max (λ i. nth issued i)

abbrev pub lay_counter : List Content → Counter
lay_counter issued = record { places = lay_places issued; issued = length issued }

unfoldable pub lay_book : (ℕ → ℕ → List Content) → Book
lay_book counter = record { counters = grid (λ x name. lay_counter (counter x name)) }
