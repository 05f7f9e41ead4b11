-- The givings computed.
pub mod Givings
