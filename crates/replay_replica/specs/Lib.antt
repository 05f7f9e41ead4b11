-- A replica as the program has it, and what a call at it gives and leaves.
pub mod Effects
