-- The laws, over plain variables, that the proofs cite: one for each answer of a send, and those of the block that it writes.
pub mod SendLaws
pub mod BlockLaws
