-- The calls at a replica, in the order of reading: what a call answers, a replica just made, the calls that move the turn, classes and their load,
-- the calls of a client, notices, all of them as data, and a restart. A station, which has no number, is in `Station.antt`; its calls are the same.
pub mod Answers
pub mod Make
pub mod Moves
pub mod Classes
pub mod Client
pub mod Notices
pub mod Calls
pub mod Restart
pub mod Worked
pub mod Frames
pub mod History
pub mod Shape
pub mod OneClass
pub mod Staleness
pub mod Sent
pub mod Claims
pub mod OwnSent
pub mod Station
pub mod Restarts
pub mod Tickets
pub mod NoticeClaims
pub mod Window
