-- What the files say, who serves, what the programs write, and what a list is compiled into, at once and in steps.
pub mod Said
pub mod Files
pub mod TakeList
pub mod TakeTree
pub mod WhoServes
pub mod Output
pub mod Compiled
pub mod TakePart
pub mod Steps
pub mod StepOutput
