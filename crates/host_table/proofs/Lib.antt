-- what belongs to no one function: the laws of the table that the proofs cite
pub mod TableLaws
