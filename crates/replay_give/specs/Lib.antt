-- What a line of a giving tells, what the giving shows and leaves, and the journal after it.
pub mod Givings
pub mod Kept
pub mod Told
