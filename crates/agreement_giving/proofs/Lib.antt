-- Windows and givings in a group. Assumes nothing.
-- a journal's blocks, and lists of calls in parts
pub mod JournalBlocks
pub mod Lists
-- the windows, with no premise
pub mod Windows
-- what journals and places have, under the premise on each call
pub mod Journaled
pub mod HandedOver
-- givings and lists with them
pub mod Givings
pub mod Happenings
-- what a giving promises: the values at a turn, the stages of a giving, and the theorem
pub mod OneLog
pub mod Values
pub mod Stages
pub mod Promise
-- tied replicas give the same: one block for a slot, and the theorem
pub mod OneBlock
pub mod Spread
