-- Laws of prefixes, ranges, ranges of ports, fields of rules, headers, boxes and cuts.
pub mod Prefixes
pub mod PrefixLast
pub mod Ranges
pub mod Ports
pub mod Fields
pub mod Headers
pub mod Boxes
pub mod Root
pub mod Cuts
pub mod Cutting
pub mod Parts
