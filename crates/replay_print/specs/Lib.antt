-- What an answer's line is.
pub mod Text
