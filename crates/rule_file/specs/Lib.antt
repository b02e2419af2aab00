-- The rule file: one rule and its line, the two kinds, the whole text, and the promises of its reader and its writers.
pub mod ListText
pub mod Records
pub mod Kinds
pub mod RuleText
pub mod Reading
pub mod ReadSteps
pub mod Writing
pub mod Pieces
