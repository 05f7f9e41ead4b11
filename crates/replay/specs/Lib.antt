-- What a call at a place does, where a journal is kept too, and what is said of it.
pub mod Answers
pub mod Givings
pub mod Places
