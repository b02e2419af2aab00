-- The answers of the C functions, and the promise of each.
pub mod Answers
pub mod Calls
