-- The laws that the writers' proofs cite, and those of who calls them.
pub mod WriterLaws
pub mod WholeLaws
