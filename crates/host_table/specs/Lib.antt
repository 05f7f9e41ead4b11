-- What the contracts of the thin functions over a lent table say.
pub mod Table
