-- The replica that a make or a restart leaves.
pub mod Makes
