-- What the contract of the aborts says beside the definition of a commit.
pub mod Marks
