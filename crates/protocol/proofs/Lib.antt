-- The proof of agreement, in the order of use. Assumes nothing.
-- what is computed from the definitions
pub mod Worked
pub mod WorkedNotices
-- the laws and the theorems
pub mod ListLaws
pub mod WriteLaws
pub mod SequenceLaws
pub mod NoticeLaws
pub mod Log
pub mod Tracking
pub mod OpenLaws
pub mod SendLaws
pub mod RestartLaws
pub mod Moved
pub mod Lone
pub mod LoneSteps
pub mod LoneRestart
pub mod Deeds
pub mod JournalLaws
pub mod Invariant
pub mod KeepClient
pub mod KeepMoves
pub mod KeepRestart
pub mod Keep
pub mod ClaimLaws
pub mod Agreed
pub mod Slots
pub mod Fates
pub mod Agreement
pub mod Refinement
pub mod Stations
pub mod BlockLaws
