-- The replica that a client's call leaves.
pub mod Rows
