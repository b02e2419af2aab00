-- What a file is, the number that an argument says, what is handed out, standard input, read after read, whole runs,
-- and what comes of them.
pub mod Files
pub mod Said
pub mod TellsNumber
pub mod Handing
pub mod Turns
pub mod Runs
pub mod Outcomes
