-- Worked runs beside the theorem of agreement.
pub mod Worked
pub mod Notices
pub mod Progress
