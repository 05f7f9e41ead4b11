-- The choice of the giver, and one law for each answer, over plain variables.
pub mod ChoiceLaws
pub mod AskLaws
