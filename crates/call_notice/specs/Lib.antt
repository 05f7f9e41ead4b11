-- What the functions of a notice say beside the definition of the call.
pub mod Placed
