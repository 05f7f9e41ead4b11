-- Replies from outcomes, calls with a lent table, notices lent, and refusals.
pub mod ReplyLaws
pub mod CalledLaws
pub mod NoticeLaws
pub mod FaultLaws
