-- No row and no record is left out by the contracts of the client's calls.
pub mod Tables
