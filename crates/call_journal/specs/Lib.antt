-- What the reading of a journal says beside the definition of a restart.
pub mod Replays
