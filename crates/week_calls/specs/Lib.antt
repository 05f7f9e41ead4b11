-- What a line of a week does at its replica.
pub mod Steps
