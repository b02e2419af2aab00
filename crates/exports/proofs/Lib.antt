-- Laws of the C functions: that their promises are exact.
pub mod Unique
