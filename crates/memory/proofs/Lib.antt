-- What belongs to no one function: the laws, over plain lists and numbers, that the proofs cite.
pub mod RowLaws
pub mod SearchLaws
pub mod ByteLaws
pub mod NoticeLaws
pub mod WindowLaws
