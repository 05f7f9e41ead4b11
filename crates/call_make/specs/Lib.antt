-- What the contract of a make says beside the definition.
pub mod Made
