-- The places that an Out looks through, and one law for each answer of a notice, over plain variables.
pub mod PlaceLaws
pub mod NoticeLaws
