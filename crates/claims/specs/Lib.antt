-- What a reader may conclude: the scope's three demands, its worked policy, and what goes beyond. Statements only.
pub mod Code
pub mod Demand1
pub mod Demand2
pub mod Files
pub mod Absent
pub mod Actions
pub mod Misses
pub mod Demand3
pub mod Parts
pub mod Compiler
pub mod Stops
pub mod Worked
pub mod Numbers
pub mod Beyond
pub mod Runs
pub mod Claims
