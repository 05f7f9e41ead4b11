-- What belongs to no one function: one turn of each loop, over plain lists and numbers.
pub mod ListLaws
pub mod EntryLaws
pub mod EndLaws
pub mod HitLaws
pub mod RisingLaws
pub mod QueueLaws
