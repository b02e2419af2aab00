-- What is claimed of actions holds.
use mathlib.Core.Path.{◌≡◌, refl}
use mathlib.Core.List.{[], ◌∷◌}
use Rattle.refusals.proofs.Promises.{fine_by}
use Rattle.rules.specs.Words.{largest_action}
use Rattle.rules.specs.LineFirst.{first_of}
use Rattle.rules.proofs.Actions.{good_to_iff, fine_to_iff}
use Rattle.rules.proofs.Forms.{matches_same}
use Rattle.rules.proofs.Searches.{first_action}
use Rattle.trees.specs.Search.{tree_list}
use Rattle.trees.specs.TreeFirst.{first_values}
use Rattle.claims.specs.Actions.{Actions}

pub actions_claim : Actions
actions_claim =
    record {
      by_tree = λ rs ns es h n a v k p.
          let e : v ∷ k ∷ n ∷ a ∷ [] ≡ first_values rs ns es h = (fine_by p refl).1 in
          let q : n ∷ a ∷ [] ≡ first_of rs (tree_list rs ns es h) = cc in
          first_action rs (tree_list rs ns es h) q;
      largest = λ rs r g. ((good_to_iff largest_action rs r).0 g).1;
      aside = matches_same;
      small = λ most rs l. fine_to_iff l rs;
    }
