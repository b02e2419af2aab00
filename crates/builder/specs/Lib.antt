-- The build, at once and in steps: its promises, and what the code asks for and leaves on the way. The tree itself is
-- defined in `built`.
pub mod Said
pub mod Build
pub mod BoxWords
pub mod Sorting
pub mod Choices
pub mod ChoiceSteps
pub mod Growing
pub mod BuildSteps
pub mod Answers
pub mod Reached
