-- What a list is compiled into may serve it: the text, as a tree file, says the tree that is built, and that tree
-- serves.
use Prim.Native.Nat.{ℕ, ◌*◌, ◌^◌}
use native.Mathlib.Omega.{arith}
use mathlib.Core.Path.{◌≡◌}
use mathlib.Core.List.{List}
use mathlib.Core.Option.{some}
use Rattle.refusals.specs.Verdict.{Fine}
use Rattle.rules.specs.Words.{rule_count}
use Rattle.trees.specs.Words.{node_words, most_nodes, most_pool}
use Rattle.trees.proofs.Sizes.{sizes_fine_iff}
use Rattle.built.specs.BuiltTree.{built_tree, built_nodes, built_pool}
use Rattle.built.proofs.Laying.{length_laid}
use Rattle.built.proofs.Covering.{built_covers}
use Rattle.built.proofs.BuiltAccepted.{built_serves}
use Rattle.text.specs.Line.{EachUnder}
use Rattle.text.specs.Text.{good}
use Rattle.tree_file.specs.TreeText.{tree}
use Rattle.tree_file.proofs.RoundTrips.{tree_plain, read_of_written}
use Rattle.policy.specs.Files.{tree_of}
use Rattle.policy.specs.Output.{serving_verdict, TreeServes}
use Rattle.policy.specs.Compiled.{largest_build, built_text}
use Rattle.policy.proofs.Output.{accepted_iff}
use Rattle.policy.proofs.BuiltWords.{root_in_root, laid_under}
use Rattle.policy.proofs.Compiling.{built_spelling}

module _ (rs : List ℕ) (e : largest_build rs ≡ Fine) where
  -- where the build is fine, the words of the nodes have 32 bits
  built_under : EachUnder (2 ^ 32) (built_nodes rs)
  built_under =
      let s = (sizes_fine_iff (built_nodes rs) (built_pool rs)).0 (built_spelling rs e).sizes in
      laid_under (built_covers rs) root_in_root 0 0 (omega (arith, s.few_nodes, length_laid (built_tree rs) 0 0))
      (omega (arith, s.short_pool))

  -- the text that a list is compiled into, as a tree file, says the tree that is built
  pub compiled_says : tree_of (some (built_text rs)) ≡ good (tree (rule_count rs) (built_nodes rs) (built_pool rs))
  unfolding tree_of built_text
  compiled_says = read_of_written _ tree_plain (built_spelling rs e) built_under

  -- it holds a tree that may serve the list
  pub compiled_serves : TreeServes rs (some (built_text rs))
  compiled_serves =
      record {
        count = rule_count rs;
        nodes = built_nodes rs;
        pool = built_pool rs;
        holds = compiled_says;
        serves = built_serves rs (most_nodes * node_words) most_pool e;
      }

  -- so it is not refused
  pub compiled_taken : serving_verdict rs (tree_of (some (built_text rs))) ≡ Fine
  compiled_taken = (accepted_iff rs (some (built_text rs))).1 compiled_serves
