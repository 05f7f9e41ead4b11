-- Windows and givings in a group, document 02's Req 11 and 12, in the order of reading.
pub mod Windows
pub mod Givings
pub mod Promise
pub mod Spread
