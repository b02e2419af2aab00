-- The words of a part, stored node by node: the left part of a cut, then the cut itself, then its right part.
use Prim.Native.Nat.{ℕ, ◌+◌, ◌*◌}
use native.Mathlib.Omega.{arith}
use mathlib.Core.Path.{◌≡◌, sym, ◌∙◌}
use mathlib.Core.List.{List, [], ◌∷◌, ◌++◌}
use lib.ListN.{length}
use lib.Seq.{sets}
use Rattle.facts.proofs.Setting.{sets_append}
use Rattle.facts.proofs.Sets.{sets_apart}
use Rattle.trees.specs.Words.{node_words}
use Rattle.built.specs.Trees.{Tree, cut}
use Rattle.built.specs.Layout.{size, pooled, right_child, laid}
use Rattle.built.proofs.Laying.{length_laid}

-- the words of a cut, c being its right child: those of its left part, then its own, then those of its right part
pub cut_words :
    (f v c : ℕ) (x y : Tree) (i s : ℕ) (w : List ℕ) → c ≡ right_child y (i + 1 + size x) →
    sets (sets (sets w ((i + 1) * node_words) (laid x (i + 1) s)) (i * node_words) (f ∷ v ∷ c ∷ []))
    ((i + 1 + size x) * node_words) (laid y (i + 1 + size x) (s + length (pooled x))) ≡
    sets w (i * node_words) (laid (cut f v x y) i s)
unfolding laid
cut_words f v c x y i s w q =
    let next : i * node_words + 3 ≡ (i + 1) * node_words = omega arith in
    let far : (i + 1) * node_words + length (laid x (i + 1) s) ≡ (i + 1 + size x) * node_words =
    omega (arith, length_laid x (i + 1) s) in
    rw (
      ← q,
      sets_apart w (i * node_words) ((i + 1) * node_words) (f ∷ v ∷ c ∷ []) (laid x (i + 1) s)
          (omega arith),
    )
    (sym
    (sets_append w (i * node_words) (f ∷ v ∷ c ∷ [])
    (laid x (i + 1) s ++ laid y (i + 1 + size x) (s + length (pooled x))) ∙
    rw next
    (sets_append (sets w (i * node_words) (f ∷ v ∷ c ∷ [])) ((i + 1) * node_words) (laid x (i + 1) s)
    (laid y (i + 1 + size x) (s + length (pooled x))) ∙
    rw far)))

-- the entries of a cut: those of its left part, then those of its right part
pub cut_entries :
    (f v : ℕ) (x y : Tree) (s : ℕ) (w : List ℕ) →
    sets (sets w s (pooled x)) (s + length (pooled x)) (pooled y) ≡ sets w s (pooled (cut f v x y))
unfolding pooled
cut_entries f v x y s w = sym (sets_append w s (pooled x) (pooled y))
