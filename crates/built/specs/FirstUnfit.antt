-- What refusal 4 of the build is to mean, by node numbers and words. Definitions only.
--   RoomAt nodes a b i       node i fits in the room a for node words and b for pool words: the words of the nodes up
--                            to and including it do, and the entries of the leaves up to and including it
--   Unfit nodes a b i why    node i does not, and why says what is wanted: its node words, or else its entries
--   FirstUnfit nodes a b why     `node` is the first that does not fit, and why says what is wanted
use Rattle.std.specs.Prelude.{ℕ, ◌+◌, ◌*◌, ◌≤◌, ◌<◌, List}
use Rattle.refusals.specs.declared.Refusal.{Refusal}
use Rattle.refusals.specs.declared.Refusal.TheVariants.{OutputShort}
use Rattle.trees.specs.Words.{node_words, node_count}
use Rattle.trees.specs.Spelt.{counts_below}

abbrev pub RoomAt : List ℕ → ℕ → ℕ → ℕ → Type 0
RoomAt nodes a b i = ((i + 1) * node_words ≤ a) × (counts_below nodes (i + 1) ≤ b)

pub data Unfit (nodes : List ℕ) (a b i : ℕ) : Refusal → Type 0 where
  node_short : a < (i + 1) * node_words → Unfit nodes a b i (OutputShort ((i + 1) * node_words) 0)
  pool_short :
      (i + 1) * node_words ≤ a → b < counts_below nodes (i + 1) →
      Unfit nodes a b i (OutputShort (counts_below nodes (i + 1)) 1)

pub record FirstUnfit (nodes : List ℕ) (a b : ℕ) (why : Refusal) : Type 0 where
  pub node : ℕ
  pub there : node < node_count nodes
  pub before : (j : ℕ) → j < node → RoomAt nodes a b j
  pub unfit : Unfit nodes a b node why
