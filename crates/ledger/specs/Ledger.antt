-- The counters as the code keeps them: 96 places each, and how many of them are taken. Laws: LedgerLaws, where a room's counters are laid out
-- in this way. Assumes nothing.
use Rattle.std.specs.Prelude.{Option, None, Some, ℕ, ◌+◌, ◌*◌, ◌-◌, ◌&&◌, get_or, set, replicate, ltb, eqb}
use Rattle.terms.specs.Limits.{names, replicas_max, counters, places_max}
use Rattle.terms.specs.Lists.{pick}
use Rattle.terms.specs.declared.Content.{Content}
use Rattle.ledger.specs.declared.Counter.{Counter}
use Rattle.ledger.specs.declared.Book.{Book}

-- nothing is issued: every place is empty, none is taken
abbrev pub fresh_counter : Counter
fresh_counter = record { places = replicate places_max None; issued = 0 }

abbrev pub fresh_book : Book
fresh_book = record { counters = replicate counters fresh_counter }

-- the row of a replica's counter of this name, if there is one
unfoldable pub place_index : ℕ → ℕ → Option ℕ
place_index replica name = pick (ltb replica replicas_max && ltb name names) (Some (names * replica + name)) None

-- the counter of a row
abbrev pub counter_in : Book → ℕ → Counter
counter_in book c = get_or book.counters c fresh_counter

abbrev pub total_in : Book → Option ℕ → ℕ
total_in book None = 0
total_in book (Some c) = (counter_in book c).issued

unfoldable pub total_of : Book → ℕ → ℕ → ℕ
total_of book replica name = total_in book (place_index replica name)

-- the content at a place of a counter, counted from 1
abbrev pub content_in : Counter → ℕ → Option Content
content_in counter value =
    pick (eqb value 0) None (pick (ltb counter.issued value) None (pick (ltb places_max value) None (get_or counter.places (value - 1) None)))

abbrev pub look_up_in : Book → Option ℕ → ℕ → Option Content
look_up_in book None value = None
look_up_in book (Some c) value = content_in (counter_in book c) value

unfoldable pub look_up : Book → ℕ → ℕ → ℕ → Option Content
look_up book replica name value = look_up_in book (place_index replica name) value

-- the content that a counter's value is bound to, if it was issued
abbrev pub content_on : Book → ℕ → ℕ → ℕ → Option Content
content_on = look_up

-- a counter after one more content was issued, if it has an empty place
abbrev pub counter_after : Counter → Content → Counter
counter_after counter content =
    pick (ltb counter.issued places_max) (record { places = set counter.places counter.issued (Some content); issued = counter.issued + 1 }) counter

abbrev pub issue_in : Book → Option ℕ → Content → Book
issue_in book None content = book
issue_in book (Some c) content = record { counters = set book.counters c (counter_after (counter_in book c) content) }

unfoldable pub issue_on : Book → ℕ → ℕ → Content → Book
issue_on book replica name content = issue_in book (place_index replica name) content
