-- What the functions of a work say beside the definition of the call.
pub mod Works
