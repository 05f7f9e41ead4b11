-- What a call does, by its letter.
pub mod Letters
