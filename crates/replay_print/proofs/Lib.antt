-- Laws of the text in a buffer, which several proofs cite.
pub mod TextLaws
