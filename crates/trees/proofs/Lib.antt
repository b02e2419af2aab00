-- Laws of trees: their sizes, *spelt*, the walk, and the search.
pub mod Sizes
pub mod Nodes
pub mod LeafSpelling
pub mod NodeSpelling
pub mod Spelling
pub mod Walking
pub mod WalkLoop
pub mod Entries
pub mod Reaching
pub mod Answers
pub mod Unique
