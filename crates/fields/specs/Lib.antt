-- What bounds a field; headers, prefixes, ranges, ranges of ports, fields of rules, boxes and cuts.
pub mod Words
pub mod Headers
pub mod Prefixes
pub mod PrefixSteps
pub mod Ranges
pub mod Ports
pub mod Fields
pub mod Boxes
pub mod Cuts
