-- Document 02's Req 06, with Req 10: some replica can send or work; and what a block handed out is answered.
pub mod Progress
