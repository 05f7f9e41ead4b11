-- What a line of input says.
pub mod Lines
