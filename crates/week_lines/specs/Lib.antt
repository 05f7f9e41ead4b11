-- What a line of a week says.
pub mod Weeks
pub mod Worked
