-- Laws of lists of rules: which are twins and how they are found, what is good and with which actions, what a rule
-- means, the ends of its fields, what entries lack, what the searches say and list, why a rule missed, and that
-- promises are exact.
pub mod EqualWords
pub mod TwinRules
pub mod Slots
pub mod Chains
pub mod Chaining
pub mod Lists
pub mod Actions
pub mod Forms
pub mod Misses
pub mod Meaning
pub mod Absent
pub mod Ends
pub mod AnyWords
pub mod Lacks
pub mod Listing
pub mod Searches
pub mod Found
pub mod Comparing
pub mod Unique
pub mod Walks
