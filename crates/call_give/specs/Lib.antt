-- What a giving is lent and what it answers, and how far the code is in it.
pub mod Gifts
