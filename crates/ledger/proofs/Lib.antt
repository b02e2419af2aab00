-- The laws of the ledger: what a read says, and entries one after another.
pub mod Reading
pub mod Entering
