-- A row with a ticket that was given had it before; what is due by an own slot; the bound; that what has ended stays so; the run computed.
pub mod Traced
pub mod Due
pub mod First
pub mod Waiting
pub mod Ended
pub mod Worked
