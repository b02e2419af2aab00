-- The cuts still allowed fall at each call of `tree_check::preorder::part_of`.
use Rattle.tree_check.proofs.preorder.+part_of.Given as goal

abbrev pub decreases-part_of : goal.decreases-part_of
decreases-part_of l = l.cuts
