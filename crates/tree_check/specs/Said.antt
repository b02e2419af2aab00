-- What the checks of a part and of a tree say, besides a refusal. Definitions only.
--   Complete         no leaf lacks a rule
--   Lacks i r        leaf i lacks rule r
--   Good n c l y     the part ends before node n, with at most c cuts above a leaf, l entries in its longest leaf, and
--                    the lack y
--   Accepted c l     the tree is accepted, with at most c cuts above a leaf and l entries in its longest leaf
use Rattle.std.specs.Prelude.{ℕ, Option, Some, None, Result, Ok}
use Rattle.refusals.specs.declared.Refusal.{Refusal}
use Rattle.tree_check.specs.declared.preorder.Lack.{Lack}
use Rattle.tree_check.specs.declared.preorder.Part.{Part}
use Rattle.tree_check.specs.declared.check.Figures.{Figures}

pattern abbrev pub Complete : Option Lack
Complete = None

abbrev pub Lacks : ℕ → ℕ → Option Lack
Lacks i r = Some (record { node = i; rule = r })

abbrev pub Good : ℕ → ℕ → ℕ → Option Lack → Result Part Refusal
Good n c l y = Ok (record { next = n; cuts = c; longest = l; lack = y })

abbrev pub Accepted : ℕ → ℕ → Result Figures Refusal
Accepted c l = Ok (record { cuts = c; longest = l })
