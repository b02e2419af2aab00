-- The scope's table of refusals, what a call says on paper, the order of checks, and what a promise fixes.
pub mod Table
pub mod Verdict
pub mod Paper
pub mod Order
pub mod Promises
