-- The runs, computed. Assumes nothing.
pub mod Premises
pub mod OneLists
pub mod Worked
pub mod Notices
pub mod Progress
pub mod ProgressNotices
