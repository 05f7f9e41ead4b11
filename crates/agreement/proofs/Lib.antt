-- From the replicas' memory and bytes to the protocol's model, and the theorem. Assumes nothing.
-- what is computed from the definitions
pub mod Worked
-- the memory as the model sees it: its rows, the writes of a row, its places, a block's writesets; what holds of it after every call
pub mod View
pub mod RowView
pub mod RowChange
pub mod RowWrites
pub mod PutLaws
pub mod PlaceView
pub mod BlockView
pub mod AbortLaws
pub mod Soundness
-- what each call owes
pub mod ClientStep
pub mod BeginStep
pub mod ReadStep
pub mod WriteStep
pub mod AskStep
pub mod WithdrawStep
pub mod Sendable
pub mod SendStep
pub mod DeliverStep
pub mod WorkStep
pub mod NoticeStep
pub mod RestartView
pub mod RestartAnswers
pub mod RestartStep
pub mod MemberStep
-- the journals
pub mod JournalView
-- the replicas as a machine of the protocol, its runs, the theorem
pub mod Replicas
pub mod Runs
pub mod Premises
pub mod OneList
pub mod Agreement
pub mod Theorem
pub mod JournalLength
pub mod Journals
pub mod Tickets
pub mod OutSlots
-- what holds with no premise
pub mod Handed
