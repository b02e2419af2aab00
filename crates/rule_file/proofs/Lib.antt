-- The laws of the rule file: words in parts, the kinds, one rule and its line, the texts of lists over a format and
-- those of the kinds, the two round trips, a text that is cut, twins in a text, the length of a text, what the reader
-- answers, and the calls after one another.
pub mod Parts
pub mod Lists
pub mod KindOf
pub mod Records
pub mod KindRecords
pub mod Formats
pub mod KindFormats
pub mod Writing
pub mod Back
pub mod SoFar
pub mod Exact
pub mod Cut
pub mod ReadTwins
pub mod RoundTrips
pub mod Lengths
pub mod ReadLines
pub mod Passes
pub mod ReadAnswers
pub mod Calls
pub mod Pieces
