-- Agreement, document 01's demand 3, in the order of reading: the group, its calls and the premise; then what is claimed. The observer is that of
-- `protocol/specs/Observer.antt`.
pub mod Group
pub mod Statement
pub mod Journals
pub mod Tickets
pub mod OutSlots
-- what holds with no premise
pub mod Handed
pub mod SixRows
-- a small run
pub mod Worked
