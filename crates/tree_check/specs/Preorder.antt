-- The preorder check: one recursion on the cuts still allowed. Definitions only. The flag `far` says that the tree is
-- one so far: its nodes may end before it does.
--   lack_of rs l b i              the lowest rule whose box meets the box of leaf i, and which its entries l lack; or
--                                 none
--   leaf_part rs l b i            leaf i with the entries l: 7 where they do not rise
--   no_part far i                  where no node i is there: so far, a part that is not begun; else 6
--   child_at far m next           the right child that a cut must have whose left part ends at next, of m nodes: next;
--                                 but so far 0 where no node next is there
--   after_left far m at child left right   a cut after its left part: 6 at the cut for the right child's number, then
--                                          its right part
--   after_right cuts longest lack right    both parts joined: the deeper, the longer, and the first lack
--   preorder_of far k rs nodes pool b i   the part that begins at node i, for box b, with k more cuts allowed: a node
--                                 that is there; a leaf; or a cut: its depth, its value, its left part, its child, its
--                                 right part
--   part_of k rs nodes pool b i    the same in a whole tree
use Rattle.tree_check.specs.declared.preorder.Part.{Part}
use Rattle.tree_check.specs.declared.preorder.Lack.{Lack}
use Rattle.tree_check.specs.Said.{Complete, Good, Lacks}
use Rattle.refusals.specs.declared.Refusal.{Refusal}
use Rattle.std.specs.Prelude.{ℕ, zero, suc, ◌+◌, max, Bool, true, false, cond, List, length, ltb, eqb, Err, Option, Result, Ok, Some}
use Rattle.facts.specs.Lists.{rises}
use Rattle.refusals.specs.declared.Refusal.TheVariants.{NodeWrong, LeafWrong}
use Rattle.fields.specs.Cuts.{divides, left_of, right_of}
use Rattle.rules.specs.Words.{rule_count}
use Rattle.rules.specs.Lacking.{lowest_lacking}
use Rattle.trees.specs.Words.{leaf_mark, node_count, field_of, value_of, child_of, entries}

-- by a test, one of two; each waits until it is picked
abbrev pub pick : Bool → (Unit {0} → Result Part Refusal) → (Unit {0} → Result Part Refusal) → Result Part Refusal
pick true f g = f tt
pick false f g = g tt

unfoldable pub lack_of : List ℕ → List ℕ → List (List ℕ) → ℕ → Option Lack
lack_of rs l b i = let r = lowest_lacking rs l b in cond (ltb r (rule_count rs)) (Lacks i r) Complete

unfoldable pub leaf_part : List ℕ → List ℕ → List (List ℕ) → ℕ → Result Part Refusal
leaf_part rs l b i = cond (rises 0 l) (Good (i + 1) 0 (length l) (lack_of rs l b i)) (Err (LeafWrong i))

abbrev pub earlier : Option Lack → Option Lack → Option Lack
earlier Complete other = other
earlier (Some lack) other = Some lack

abbrev pub after_right : ℕ → ℕ → Option Lack → Result Part Refusal → Result Part Refusal
after_right cuts longest lack (Err why) = Err why
after_right cuts longest lack (Ok part) =
    Good part.next (max cuts part.cuts + 1) (max longest part.longest) (earlier lack part.lack)

abbrev pub no_part : Bool → ℕ → Result Part Refusal
no_part true i = Good i 0 0 Complete
no_part false i = Err (NodeWrong i)

abbrev pub child_at : Bool → ℕ → ℕ → ℕ
child_at true m next = cond (ltb next m) next 0
child_at false m next = next

abbrev pub after_left : Bool → ℕ → ℕ → ℕ → Result Part Refusal → (ℕ → Result Part Refusal) → Result Part Refusal
after_left far m at child (Err why) right = Err why
after_left far m at child (Ok left) right =
    pick (eqb child (child_at far m left.next)) (λ _. after_right left.cuts left.longest left.lack (right left.next))
    (λ _. Err (NodeWrong at))

unfoldable pub cut_part : Bool → List ℕ → List (List ℕ) → ℕ → (List (List ℕ) → ℕ → Result Part Refusal) → Result Part Refusal
cut_part far nodes b i part =
    pick (divides b (field_of nodes i) (value_of nodes i))
    (λ _.
    after_left far (node_count nodes) i (child_of nodes i)
    (part (left_of b (field_of nodes i) (value_of nodes i)) (i + 1))
    (λ next. part (right_of b (field_of nodes i) (value_of nodes i)) next))
    (λ _. Err (NodeWrong i))

unfoldable pub node_part : Bool → List ℕ → List ℕ → List ℕ → List (List ℕ) → ℕ → (Unit {0} → Result Part Refusal) → Result Part Refusal
node_part far rs nodes pool b i cut =
    pick (ltb i (node_count nodes))
    (λ _. pick (ltb (field_of nodes i) leaf_mark) cut (λ _. leaf_part rs (entries nodes pool i) b i))
    (λ _. no_part far i)

unfoldable pub preorder_of : Bool → ℕ → List ℕ → List ℕ → List ℕ → List (List ℕ) → ℕ → Result Part Refusal
preorder_of far zero rs nodes pool b i = node_part far rs nodes pool b i (λ _. Err (NodeWrong i))
preorder_of far (suc k) rs nodes pool b i =
    node_part far rs nodes pool b i (λ _. cut_part far nodes b i (preorder_of far k rs nodes pool))

abbrev pub part_of : ℕ → List ℕ → List ℕ → List ℕ → List (List ℕ) → ℕ → Result Part Refusal
part_of k rs nodes pool b i = preorder_of false k rs nodes pool b i
