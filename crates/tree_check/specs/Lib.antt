-- Well-formed trees, whole and so far, the preorder check, the tree check and the part check.
pub mod Whole
pub mod SoFar
pub mod Said
pub mod Preorder
pub mod TreeCheck
pub mod PartCheck
pub mod Serves
pub mod Leads
pub mod Lacks
pub mod MayGoOn
pub mod Figures
pub mod Answering
pub mod Steps
