-- The compiler: from any list, and any room for its tree, what `build` answers. The tree is that of `built_tree`, which
-- is a value that is defined apart from the code. Statements only.
use Rattle.builder.specs.Said.{BuiltTree}
use Rattle.std.specs.Prelude.{ℕ, ◌*◌, ◌≤◌, min, ◌≡◌, ◌↔◌, List, length, take, Err}
use Rattle.facts.specs.Lists.{written}
use Rattle.refusals.specs.declared.Refusal.{Refusal}
use Rattle.refusals.specs.Verdict as no
use Rattle.refusals.specs.Verdict.{Fine}
use Rattle.rules.specs.Good.{list_verdict}
use Rattle.trees.specs.Words.{node_words, most_nodes, most_pool}
use Rattle.tree_check.specs.Serves.{Serves}
use Rattle.built.specs.Layout.{size}
use Rattle.built.specs.BuiltTree.{built_tree, built_nodes, built_pool}
use Rattle.built.specs.FirstUnfit.{FirstUnfit}
use Rattle.builder.specs.Build.{TreeBuilt}

pub record Compiler : Type 0 where
  -- it completes exactly where the list is good, and the words of its tree fit in what is lent and in a tree's limits
  pub completes :
      (rs ns es : List ℕ) →
      ((n : ℕ) × (p : ℕ) × (x : List ℕ) × (y : List ℕ) × TreeBuilt rs ns es (BuiltTree n p) x y) ↔
      ((list_verdict rs ≡ Fine) × (length (built_nodes rs) ≤ length ns) ×
      (length (built_nodes rs) ≤ most_nodes * node_words) × (length (built_pool rs) ≤ length es) ×
      (length (built_pool rs) ≤ most_pool))
  -- then the words of that tree stand in front of both outputs, the rest being as found, and it says how many nodes and
  -- entries there are
  pub words :
      (rs ns es x y : List ℕ) (n p : ℕ) → TreeBuilt rs ns es (BuiltTree n p) x y →
      (n ≡ size (built_tree rs)) × (p ≡ length (built_pool rs)) × (x ≡ written (built_nodes rs) ns) ×
      (y ≡ written (built_pool rs) es)
  -- a list that is not good is refused as the rule check refuses it, and both outputs are as found
  pub bad_list :
      (rs ns es : List ℕ) (why : Refusal) → list_verdict rs ≡ no.Refused why → TreeBuilt rs ns es (Err why) ns es
  -- of a good list it says 4 exactly at the first node that does not fit, with what is wanted there
  pub short :
      (rs ns es : List ℕ) (why : Refusal) → list_verdict rs ≡ Fine →
      TreeBuilt rs ns es (Err why) ns es ↔
      FirstUnfit (built_nodes rs) (min (length ns) (most_nodes * node_words)) (min (length es) most_pool) why
  -- what is built may serve; and so the tree check accepts it for that list (`TreeCheck`, `accepts`)
  pub serves :
      (rs ns es x y : List ℕ) (n p : ℕ) → TreeBuilt rs ns es (BuiltTree n p) x y →
      Serves rs (take (n * node_words) x) (take p y)
  -- one list gives one tree, whatever the room and whatever stood in it
  pub one_tree :
      (rs ns es us vs x y z w : List ℕ) (n p m q : ℕ) → TreeBuilt rs ns es (BuiltTree n p) x y →
      TreeBuilt rs us vs (BuiltTree m q) z w →
      (n ≡ m) × (p ≡ q) × (take (n * node_words) x ≡ take (m * node_words) z) × (take p y ≡ take q w)
