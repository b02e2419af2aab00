-- Lists of rules, twins among them, the ends of their fields, and the promises of the rule check, of the line search
-- and of the call that says why a rule missed.
pub mod Words
pub mod Twins
pub mod Good
pub mod Matching
pub mod Bounds
pub mod Lacking
pub mod Chains
pub mod RuleCheck
pub mod LineAll
pub mod Hits
pub mod LineFirst
pub mod Scan
pub mod Found
pub mod ScanSteps
pub mod RuleMisses
