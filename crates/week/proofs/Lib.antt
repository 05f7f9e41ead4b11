-- The laws that the functions' proofs cite.
pub mod TextLaws
pub mod WeekLaws
