-- The laws of what the programs do with the system: files read after read, the number that an argument says, what is
-- handed out, and standard input, read after read.
pub mod Loading
pub mod Telling
pub mod Handing
pub mod Turning
pub mod Inputs
pub mod Running
pub mod Asking
pub mod Outcomes
pub mod Results
