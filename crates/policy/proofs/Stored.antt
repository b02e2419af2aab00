-- A tree that was stored: its words stand in front of both outputs.
use Prim.Native.Nat.{ℕ, ◌*◌, ◌≤◌}
use native.Mathlib.Omega.{arith}
use mathlib.Core.Path.{◌≡◌, sym, ap, ◌∙◌}
use mathlib.Core.List.{List}
use lib.ListN.{length, take, drop, length-append}
use Rattle.facts.specs.Lists.{written}
use Rattle.facts.proofs.Setting.{written_front}
use Rattle.trees.specs.Words.{node_words}
use Rattle.built.specs.Trees.{Tree}
use Rattle.built.specs.Layout.{size, laid}
use Rattle.built.proofs.Laying.{length_laid}

-- words that were written stand in front, and are within
pub stands :
    (new found : List ℕ) {after : List ℕ} (n : ℕ) → after ≡ written new found → length new ≡ n →
    (take n after ≡ new) × (n ≤ length after)
unfolding written
stands new found n left many = (
  ap (take n) left ∙ written_front new found n many,
  rw (left, length-append new (drop (length new) found)) (omega (arith, many)),
)

-- the words of the nodes of a tree, by their number
pub node_words_lem : (t : Tree) (k : ℕ) → k ≡ size t → length (laid t 0 0) ≡ k * node_words
node_words_lem t k count = length_laid t 0 0 ∙ ap (λ (j : ℕ). j * node_words) (sym count)
