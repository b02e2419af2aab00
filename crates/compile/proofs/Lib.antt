-- The laws of the compiler: what is asked of it, and the part that is gone on from.
pub mod Asked
