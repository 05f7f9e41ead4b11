-- What notices put out; a block that has come; the blocks handed out; a first part of a list of calls, and a block given there; the theorem; what a block handed out is answered.
pub mod NoticeLists
pub mod Come
pub mod HandedBlocks
pub mod Parts
pub mod Blocks
pub mod Given
pub mod Progress
pub mod Answers
