-- One law for each answer of a deliver, over plain variables.
pub mod DeliverLaws
