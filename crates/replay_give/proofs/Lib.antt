-- Laws that the proofs of several functions cite.
pub mod GiveLaws
pub mod KeptLaws
pub mod ToldLaws
