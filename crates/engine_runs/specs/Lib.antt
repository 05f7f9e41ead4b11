-- Document 01's marked cases; document 02's Req 01, Req 05, Req 07 and Req 10, worked.
pub mod Cases
pub mod Journals
pub mod Notices
pub mod Staleness
pub mod Stations
