-- Document 01's limits, each by its name, and the names of the counters. The code has the same as constants of crate terms. Assumes nothing.
use Rattle.std.specs.Prelude.{ℕ, ◌+◌}

-- ---- replicas

-- a kit has this many
abbrev pub replicas : ℕ → ℕ
replicas f = f + f + 1

-- f is 1 to 3
abbrev pub faults_max : ℕ
faults_max = 3

-- so that there are at most seven
abbrev pub replicas_max : ℕ
replicas_max = 7

-- ---- counters

-- each replica owns three, of these names
abbrev pub ag : ℕ
ag = 0

abbrev pub up : ℕ
up = 1

abbrev pub sw : ℕ
sw = 2

-- the greatest name
abbrev pub name_max : ℕ
name_max = 2

-- how many names there are, and how many counters
abbrev pub names : ℕ
names = 3

abbrev pub counters : ℕ
counters = 21

-- places of one counter
abbrev pub places_max : ℕ
places_max = 96

-- ---- lists

-- requests submitted, and requests in one history
abbrev pub requests_max : ℕ
requests_max = 64

-- histories filed by events 8, and all histories
abbrev pub filed_max : ℕ
filed_max = 7

abbrev pub histories_max : ℕ
histories_max = 8

-- ---- kits

-- gaps and the patience are below 2^28 ticks
abbrev pub ticks_max : ℕ
ticks_max = 0xfff_ffff

abbrev pub events_max : ℕ
events_max = 4096

-- bytes that the programs read
abbrev pub bytes_max : ℕ
bytes_max = 65536
