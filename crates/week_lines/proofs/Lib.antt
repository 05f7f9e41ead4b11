-- The lines worked out, the laws that the functions' proofs cite, and how long a line may be.
pub mod Worked
pub mod LongLaws
