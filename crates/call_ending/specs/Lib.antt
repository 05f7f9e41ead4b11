-- What a writeset's end is.
pub mod Writesets
