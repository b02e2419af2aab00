-- `trees::spelt::all_under` meets its contract: it asks of every number what `all_under` does. Assumes nothing.
use Prim.Native.Nat.{ℕ}
use mathlib.Core.Path.{◌≡◌, refl, ◌∙◌}
use mathlib.Core.List.{List, [], ◌∷◌}
use lib.Dec.{ltb}
use Rattle.std.specs.List.{list_all}
use Rattle.std.proofs.Common.{rules, tests}
use Rattle.std.proofs.lemmas.Iterator.{YieldsList-from_slice}
use Rattle.std.proofs.lemmas.Iterator.Search.{all_from_yields_List}
use Rattle.facts.specs.Lists.{all_under}
use Rattle.trees.proofs.spelt.all_under.Goals as goal

-- `all_under` is a test of every number
under_is_all : (n : ℕ) (l : List ℕ) → list_all (λ x. ltb x n) l ≡ all_under n l
unfolding all_under
under_is_all n [] = refl
under_is_all n (x ∷ xs) = rw (under_is_all n xs)

pub returns : goal.returns
returns c =
    all_from_yields_List (λ (x : ℕ). ltb x c.args.n) _ _ _ c.all.ensures.ran
    (YieldsList-from_slice c.args.numbers.now (cc)) (λ x b q k. search (rules, tests)) ∙
    under_is_all _ _
