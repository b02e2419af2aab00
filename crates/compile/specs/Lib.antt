-- What is asked of the compiler.
pub mod Asks
