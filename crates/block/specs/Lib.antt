-- The 512-byte block, in the order of reading: numbers in bytes, the check, a message and what is valid of it,
-- the bytes of a message, the message of bytes, and what the functions answer.
pub mod Numbers
pub mod Check
pub mod Message
pub mod Bytes
pub mod Form
pub mod Answers
pub mod Writing
pub mod Worked
pub mod Theorems
