-- The blocks of a week that are kept.
pub mod Blocks
