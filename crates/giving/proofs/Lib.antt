-- what is computed from the definitions
pub mod Worked
-- The choice of the giver, the window as a ring and the giving, on every memory.
pub mod Choices
pub mod Spread
pub mod Rings
pub mod Kept
pub mod Givings
pub mod Freed
pub mod FreedRows
pub mod Tickets
pub mod Passed
pub mod Slots
pub mod Endings
