-- Demand 3 of document 01: settled lists agree. Open Theorem first; Closing says what the fall-back keeps, Sizes how long everything can get, and
-- Rows that none of it is empty. The proof: Invariant and what it says of one room (OneRoom); one replica's part through each change (OneReplica), from
-- there to the room (Frame), and every event (Delivery, Handover, Events) at every moment (Throughout). Standing says what the invariant says of a
-- replica's settled count, mark, UPDATEs and accepted COMMITs. On the same invariant stands that a correct switch leader is believed: open Believed;
-- Sound is a history that has all that a hand asks for, which makes it pass (Passes), Built is event 7 in a play, HandedIn a kit into which a hand
-- is put, and BelievedRows has plays. Assumes nothing.
pub mod Theorem
pub mod Closing
pub mod Sizes
pub mod Rows
pub mod Invariant
pub mod OneRoom
pub mod OneReplica
pub mod Frame
pub mod Delivery
pub mod Handover
pub mod Events
pub mod Throughout
pub mod Standing
pub mod Believed
pub mod BelievedRows
pub mod Built
pub mod Sound
pub mod Passes
pub mod HandedIn
