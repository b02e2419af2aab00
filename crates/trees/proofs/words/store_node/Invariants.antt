-- `trees::words::store_node` meets its contract: at j the first j words are stored.
use Prim.Native.Nat.{◌*◌}
use mathlib.Core.Path.{◌≡◌}
use lib.ListN.{take}
use lib.Seq.{sets}
use Rattle.trees.specs.Words.{node_words}
use Rattle.trees.proofs.words.store_node.Given as goal

abbrev pub invariant-loop-j : goal.invariant-loop-j
invariant-loop-j l = l.nodes ≡ sets l.initial.nodes (l.i * node_words) (take l.j l.words)
