-- The program's lines: what a head line asks, what is answered, and how input bytes become lines.
pub mod Heads
pub mod Lines
pub mod Replies
pub mod MissLines
pub mod Judged
pub mod Gathered
pub mod LineEnds
pub mod Feeding
