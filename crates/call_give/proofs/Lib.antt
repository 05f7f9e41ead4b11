-- Tickets gathered, the range that a window has; then a giving call by call and slot by slot, and its answers.
pub mod TicketLaws
pub mod FreedLaws
pub mod GiftLaws
pub mod RangeLaws
pub mod LoopLaws
pub mod StandLaws
pub mod SlotLaws
pub mod AnswerLaws
