-- Trees: their words, *spelt*, the walk of a header, and the promises of the tree search.
pub mod Words
pub mod Standing
pub mod Node
pub mod Spelt
pub mod Walk
pub mod Search
pub mod Answers
pub mod TreeAll
pub mod TreeFirst
pub mod Steps
