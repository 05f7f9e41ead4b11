-- What the writers of header and record leave.
pub mod Writing
