-- Document 02's Req 11 and 12, worked.
pub mod Givings
