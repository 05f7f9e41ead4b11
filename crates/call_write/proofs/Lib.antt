-- The laws of a write, over plain variables; of an item that nobody holds.
pub mod HeldLaws
pub mod WriteLaws
