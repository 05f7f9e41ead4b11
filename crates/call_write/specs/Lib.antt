-- What the contracts of the helpers say beside the definition of a write.
pub mod Parts
