-- The cases, the journals, the notices, a stale item that is held and a station computed.
pub mod Cases
pub mod Journals
pub mod Notices
pub mod Staleness
pub mod Stations
