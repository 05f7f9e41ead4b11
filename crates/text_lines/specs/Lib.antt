-- When the answers that a program holds are written, and what is held after.
pub mod Outputs
