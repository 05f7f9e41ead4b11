-- How long a change waits, document 02's Req 06, and a run in which the bound is reached.
pub mod Waiting
pub mod Worked
