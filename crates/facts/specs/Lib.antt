-- Words for tests over numbers and for lists of numbers.
pub mod Below
pub mod Lists
