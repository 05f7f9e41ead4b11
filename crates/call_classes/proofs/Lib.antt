-- One turn of each loop, over plain lists and numbers, and what a write's wait and a load are by their tests.
pub mod ClassLaws
pub mod WaitLaws
pub mod LoadLaws
