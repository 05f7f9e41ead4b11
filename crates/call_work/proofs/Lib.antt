-- One law for each answer of a work, over plain variables, and those of an out slot.
pub mod WorkLaws
pub mod OutLaws
