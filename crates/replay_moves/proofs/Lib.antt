-- Laws that the proofs of several functions cite.
pub mod MoveLaws
pub mod StationLaws
