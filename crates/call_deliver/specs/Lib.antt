-- What the functions of a deliver say beside the definition of the call.
pub mod Lengths
