-- Whether a part fits, by what stands at its first node: the node's words, a leaf's entries, and the parts of a cut.
use Prim.Native.Nat.{ℕ, ◌+◌, ◌*◌, ◌≤◌, ◌<◌}
use native.Mathlib.Omega.{arith}
use mathlib.Core.Path.{◌≡◌, ◌∙◌}
use mathlib.Core.List.{List}
use lib.ListN.{length}
use borrow.Author.Tests.{lt-leb}
use Rattle.refusals.specs.declared.Refusal.{Refusal}
use Rattle.refusals.specs.declared.Refusal.TheVariants.{OutputShort}
use Rattle.refusals.specs.Verdict.{Fine, Refused}
use Rattle.refusals.proofs.Order.{fails_refused, then_fine, then_refused}
use Rattle.trees.specs.Words.{node_words}
use Rattle.built.specs.Trees.{Tree, bud, leaf, cut}
use Rattle.built.specs.Layout.{size, pooled, node_fits, entries_fit, fits}
use Rattle.built.proofs.Fitting.{node_fits_iff, entries_fit_iff}

node_short : (i a : ℕ) → a < (i + 1) * node_words → node_fits i a ≡ Refused (OutputShort ((i + 1) * node_words) 0)
unfolding node_fits
node_short i a l = fails_refused _ (lt-leb _ _ l)

-- a part that is begun, and whose first node does not fit, is refused there
pub first_node_short :
    (t : Tree) (i s a b : ℕ) → 0 < size t → a < (i + 1) * node_words →
    fits t i s a b ≡ Refused (OutputShort ((i + 1) * node_words) 0)
unfolding fits size
first_node_short bud i s a b some h = absurd (omega arith)
first_node_short (leaf l) i s a b some h = then_refused _ (node_short i a h)
first_node_short (cut f v x y) i s a b some h = then_refused _ (node_short i a h)

module _ (i s a b : ℕ) (there : (i + 1) * node_words ≤ a) where
  -- a leaf whose words fit, and whose entries do not, is refused for the pool
  pub entries_short : (l : List ℕ) → b < s + length l → fits (leaf l) i s a b ≡ Refused (OutputShort (s + length l) 1)
  unfolding fits entries_fit
  entries_short l h = then_fine _ ((node_fits_iff i a).1 there) ∙ fails_refused _ (lt-leb _ _ h)

  -- a leaf fits where its words and its entries do
  pub leaf_fits : (l : List ℕ) → s + length l ≤ b → fits (leaf l) i s a b ≡ Fine
  unfolding fits
  leaf_fits l h = then_fine _ ((node_fits_iff i a).1 there) ∙ (entries_fit_iff _ _).1 h

  module _ (f v : ℕ) (x y : Tree) where
    -- a cut whose words fit is refused where its left part is
    pub left_refuses :
        {why : Refusal} → fits x (i + 1) s a b ≡ Refused why → fits (cut f v x y) i s a b ≡ Refused why
    unfolding fits
    left_refuses e = then_fine _ ((node_fits_iff i a).1 there) ∙ then_refused _ e

    -- a cut whose words and whose left part fit is as its right part is
    pub right_decides :
        fits x (i + 1) s a b ≡ Fine →
        fits (cut f v x y) i s a b ≡ fits y (i + 1 + size x) (s + length (pooled x)) a b
    unfolding fits
    right_decides e = then_fine _ ((node_fits_iff i a).1 there) ∙ then_fine _ e
