-- The laws of the rules, with FirstLaws as their page: what is true of every kit.
-- Of the definitions alone: a room or a record with one part made anew (RoomLaws), the table (TableLaws), what is read off a room (ReadingLaws), lists
-- without repeats (Missing). Of every event: what was tested where it is decided (Tested), and what it can change (Changes). By these, in every play of
-- any kit: counters, submissions and histories only grow (Growth), what stays with a replica (Holding), how many histories are filed (Filings), by how
-- much one event lets accepted values and totals rise (Rising), what refusals leave alone (Refused), what is issued (Certificates), the clock and its
-- ticks (Time), answered requests (Answered) and the late tick (Lateness), at every moment (Moments); that only a PANIC halts (Halting); what an event
-- looks at (Settings, LateAside), and so that the patience decides the late tick alone (Patience); idle time in a room (Idle), a kit with some of its
-- events replaced (Instead), and from both what an editor may do to a kit's idle time (IdleEdits, with the plays in IdlePlays and IdleRows by
-- computation); what a delivery looks at and what it changes (Own), so that two may come in either order (Order), and a kit with two of its deliveries
-- exchanged (Exchange, with ExchangeRows by computation). Assumes nothing.
pub mod RoomLaws
pub mod Tested
pub mod Growth
pub mod TableLaws
pub mod ReadingLaws
pub mod Holding
pub mod Missing
pub mod Filings
pub mod Rising
pub mod Moments
pub mod Changes
pub mod Refused
pub mod Certificates
pub mod Time
pub mod Answered
pub mod Lateness
pub mod Halting
pub mod Settings
pub mod LateAside
pub mod Patience
pub mod Idle
pub mod Instead
pub mod IdleEdits
pub mod IdlePlays
pub mod IdleRows
pub mod Own
pub mod Order
pub mod Exchange
pub mod ExchangeRows
pub mod FirstLaws
