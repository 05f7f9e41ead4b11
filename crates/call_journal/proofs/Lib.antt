-- Laws over plain lists and numbers: one writeset more, one block more, and one notice more.
pub mod ChunkLaws
pub mod WritesetLaws
pub mod ReadLaws
pub mod JournalLaws
pub mod NoticeLaws
