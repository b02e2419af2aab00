-- Texts: places, numbers, lines, whole texts, and what the cursor and the writers answer.
pub mod Words
pub mod Places
pub mod Numbers
pub mod Line
pub mod Text
pub mod Addresses
pub mod Cursors
pub mod Onward
pub mod EndLines
pub mod Puts
pub mod Said
