-- The law of the program: whoever serves answers as the list does.
pub mod Serving
