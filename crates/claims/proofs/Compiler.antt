-- What is claimed of the compiler holds.
use Rattle.builder.proofs.BuildAnswers.{list_refuses}
use Rattle.builder.proofs.Calls.{completes_iff, tree_counts, tree_words, short_iff, tree_serves, one_tree}
use Rattle.claims.specs.Compiler.{Compiler}

pub compiler_claim : Compiler
compiler_claim =
    record {
      completes = completes_iff;
      words = λ rs ns es x y n p w. ((tree_counts rs w).0, (tree_counts rs w).1, (tree_words rs w).0, (tree_words rs w).1);
      bad_list = λ rs ns es why e. list_refuses rs e;
      short = short_iff;
      serves = λ rs ns es x y n p w. tree_serves rs w;
      one_tree = λ rs ns es us vs x y z w n p m q a b. one_tree rs a b;
    }
