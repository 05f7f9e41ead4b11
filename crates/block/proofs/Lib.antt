-- what is computed from the definitions
pub mod Worked
-- What belongs to no one function. Laws, each over plain lists and numbers: of tests, lists, numbers in bytes, the check, messages, the bytes written,
-- the bytes read, and of each answer of the code. Then the theorems.
pub mod BoolLaws
pub mod ListLaws
pub mod NumberLaws
pub mod CheckLaws
pub mod MessageLaws
pub mod BlockLaws
pub mod AnswerLaws
pub mod ReadLaws
pub mod ReaderLaws
pub mod FormLaws
pub mod WriteLaws
pub mod RoundTrip
pub mod Reading
pub mod TwoWords
pub mod OneBit
pub mod Theorems
