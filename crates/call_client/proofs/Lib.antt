-- One law for each answer of a call, over plain variables; every row and record are those of some table.
pub mod ReadLaws
pub mod AskLaws
pub mod Tables
