-- Laws over plain lists and numbers: the block given back, and the answers of a restart.
pub mod BackLaws
pub mod AnswerLaws
