-- What is answered to who asks for the giver.
pub mod Asked
