-- Which bytes a line names.
pub mod Deliveries
