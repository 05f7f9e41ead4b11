-- What the functions of a send say beside the definition of the call.
pub mod Writing
