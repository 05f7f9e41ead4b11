-- What the functions of a restart say beside the definition of the call.
pub mod Answered
