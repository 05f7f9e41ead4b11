-- The journal that the program keeps at a place, and the notices.
pub mod Journals
pub mod Taken
