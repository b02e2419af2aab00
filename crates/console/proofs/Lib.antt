-- The laws of the program's lines, by subject.
pub mod Saying
pub mod Heads
pub mod Searching
pub mod Replying
pub mod Judging
pub mod Gathering
pub mod Pieces
pub mod Parts
pub mod Joining
pub mod Passing
pub mod LineByLine
pub mod Feeding
pub mod Held
pub mod Whole
pub mod Agreeing
pub mod Short
pub mod Unique
