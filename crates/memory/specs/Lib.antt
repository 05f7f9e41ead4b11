-- A replica's memory, in the order of reading: its parts, the slots that notices put out, the rows of open transactions, the turn and the places, the window.
pub mod Memory
pub mod Notices
pub mod Rows
pub mod Turns
pub mod Window
