-- `tree_check::preorder::join` meets its contract: the deeper, the longer, and the first lack. Assumes nothing.
use mathlib.Core.Path.{◌≡◌, refl}
use Rattle.std.specs.Prelude.{Option, None, Some}
use Rattle.std.specs.Option.{option_or}
use Rattle.tree_check.specs.declared.preorder.Lack.{Lack}
use Rattle.tree_check.specs.Preorder.{earlier}
use Rattle.tree_check.proofs.preorder.join.Goals as goal

-- the earlier of two lacks is the first, or else the second
first_or : (lack other : Option Lack) → option_or lack other ≡ earlier lack other
first_or None other = refl
first_or (Some lack) other = refl

pub returns : goal.returns
returns c = rw (c.max.ensures, c.max-2.ensures, c.or.ensures, first_or c.args.left.lack c.args.right.lack)
