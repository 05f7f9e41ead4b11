-- A host's calls are the engine's.
pub mod Hosted
