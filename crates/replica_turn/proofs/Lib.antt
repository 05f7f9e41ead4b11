-- From the calls by value to the calls on lent parts.
pub mod Facts
