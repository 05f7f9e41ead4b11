-- Laws of the bytes that a line names, which several proofs cite.
pub mod DeliveryLaws
