-- A writeset's end from its parts, over plain variables.
pub mod EndingLaws
