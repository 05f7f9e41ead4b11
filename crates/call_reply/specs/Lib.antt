-- What a call is lent, what it answers a host, and why it is refused.
pub mod Parts
pub mod Replies
pub mod Called
pub mod Notices
pub mod Faults
pub mod Clients
