-- Laws that the proofs of several functions cite.
pub mod AnswerLaws
pub mod GivingLaws
pub mod PlaceLaws
pub mod RequestLaws
