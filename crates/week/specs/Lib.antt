-- What a line does to a week, what a week begins with, and what it prints.
pub mod Weeks
pub mod Texts
