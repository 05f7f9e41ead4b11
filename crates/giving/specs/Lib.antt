-- Coming back after a holiday, document 02's Req 11 and 12, in the order of reading: the choice of the giver, the giving; then what is claimed of them, and what is computed.
pub mod Choice
pub mod Giving
pub mod Statement
pub mod Spread
pub mod Worked
