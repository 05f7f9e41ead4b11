-- Agreement of a group of replicas: lists, the model of one replica and its calls, the observer, the group, the statement, and the statement for a machine. The steps of the model's
-- calls have the names of the engine's, whose counterparts they are.
pub mod Lists
pub mod Writesets
pub mod Notices
pub mod Replica
pub mod Client
pub mod Moves
pub mod Journal
pub mod Blocks
pub mod Observer
pub mod System
pub mod Statement
pub mod Machine
pub mod Worked
pub mod WorkedNotices
