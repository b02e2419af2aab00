-- The tree of a list: boxes, cut values, the tree as a value, its words, the tree that is grown from nodes that stand
-- already, a tree whose building is stopped, and what the build says of a list and the room that it is lent.
pub mod Boxes
pub mod CutValues
pub mod Trees
pub mod Layout
pub mod GrownOn
pub mod Stops
pub mod BuiltTree
pub mod StopOf
pub mod FirstUnfit
