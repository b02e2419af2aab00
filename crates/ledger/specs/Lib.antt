-- What a read says, and the ledger.
pub mod Reads
pub mod Ledger
