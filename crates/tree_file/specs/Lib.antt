-- The tree file: what a text says, the text of a tree, and the promises of the reader and the writer.
pub mod TreeText
pub mod TreeLines
pub mod Reading
pub mod Writing
pub mod ReadSteps
pub mod NodeSteps
pub mod WriteSteps
