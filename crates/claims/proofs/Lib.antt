-- The claims, each proved in a line or two from the laws of the crates below.
pub mod Demand1
pub mod Demand2
pub mod Absent
pub mod Actions
pub mod Misses
pub mod Demand3
pub mod Parts
pub mod Compiler
pub mod Stops
pub mod Worked
pub mod Numbers
pub mod Beyond
pub mod Claims
