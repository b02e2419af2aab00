-- A stop past the last node that fits is none: the tree fits alike with it and without, and where it fits it is whole.
-- A stop before is refused only as the whole tree is.
use Prim.Native.Nat.{ℕ, ◌+◌, ◌*◌, ◌≤◌, ◌<◌}
use native.Mathlib.Omega.{arith}
use mathlib.Core.Path.{◌≡◌, sym, ◌∙◌}
use mathlib.Core.Logic.{◌⊎◌, inl, inr}
use lib.ListN.{length}
use Rattle.facts.proofs.Cases.{WithinOrOver, at_most, over, within_or_over}
use Rattle.refusals.specs.declared.Refusal.{Refusal}
use Rattle.refusals.specs.Verdict.{Fine, Refused}
use Rattle.refusals.specs.Order.{◌then◌}
use Rattle.refusals.proofs.Order.{refused_not_fine, then_refused, then_cases}
use Rattle.refusals.proofs.Splitting.{then_same}
use Rattle.trees.specs.Words.{node_words}
use Rattle.built.specs.Trees.{Tree, bud, leaf, cut}
use Rattle.built.specs.Layout.{size, pooled, node_fits, fits}
use Rattle.built.specs.Stops.{up_to}
use Rattle.built.proofs.Fitting.{node_fits_iff, fine_nodes}
use Rattle.built.proofs.FirstNode.{left_refuses, right_decides}
use Rattle.built.proofs.Stopping.{up_to_bud, up_to_leaf, up_to_cut, up_to_end, up_to_whole, up_to_size}

module _ (a b e : ℕ) (late : a < e * node_words) where
  -- what is grown before a late stop, and fits, is whole
  pub late_whole :
      (t : Tree) (i s : ℕ) → i * node_words ≤ a → fits (up_to e t i) i s a b ≡ Fine → up_to e t i ≡ t
  late_whole t i s h f = go (within_or_over e (i + size t))
    where
      go : WithinOrOver e (i + size t) → up_to e t i ≡ t
      go (at_most l) =
          absurd (omega (arith, fine_nodes (up_to e t i) i s a b h f, up_to_size e t i (omega arith) l))
      go (over l) = up_to_whole e t i (omega arith)

  -- it fits as the whole does
  pub late_fits : (t : Tree) (i s : ℕ) → i * node_words ≤ a → fits (up_to e t i) i s a b ≡ fits t i s a b
  unfolding fits
  late_fits bud i s h = rw (up_to_bud e i)
  late_fits (leaf l) i s h = rw (up_to_leaf e l i (omega arith))
  late_fits (cut f v x y) i s h =
      rw (up_to_cut e f v x y i (omega arith))
      (then_same (node_fits i a)
      (λ n.
      let there = (node_fits_iff i a).0 n in
      rw (late_fits x (i + 1) s there)
      (then_same (fits x (i + 1) s a b)
      (λ p.
      let q = late_fits x (i + 1) s there ∙ p in
      let whole = late_whole x (i + 1) s there q in
      rw whole
      (late_fits y (i + 1 + size x) (s + length (pooled x)) (fine_nodes x (i + 1) s a b there p))))))

module _ (a b e : ℕ) where
  none_refused : (i s : ℕ) {t : Tree} {why : Refusal} → t ≡ bud → fits t i s a b ≡ Refused why → ⊥
  unfolding fits
  none_refused i s p q = refused_not_fine (sym q ∙ rw p)

  -- of a cut that is grown the parts decide
  module _ (f v : ℕ) (x y : Tree) (i s : ℕ) where
    left : Tree
    left = up_to e x (i + 1)

    right : Tree
    right = up_to e y (i + 1 + size x)

    -- a refusal of the right part, behind a left part that fits
    right_early :
        {why : Refusal} → (i + 1) * node_words ≤ a →
        (fits right (i + 1 + size x) (s + length (pooled x)) a b ≡ Refused why →
        fits y (i + 1 + size x) (s + length (pooled x)) a b ≡ Refused why) →
        fits left (i + 1) s a b ≡ Fine →
        fits right (i + 1 + size left) (s + length (pooled left)) a b ≡ Refused why →
        fits (cut f v x y) i s a b ≡ Refused why
    unfolding left right
    right_early {why} there r p q = go (within_or_over e (i + 1 + size x))
      where
        go : WithinOrOver e (i + 1 + size x) → fits (cut f v x y) i s a b ≡ Refused why
        go (at_most h) = absurd (none_refused _ _ (up_to_end e y (i + 1 + size x) h) q)
        go (over h) =
            let whole = up_to_whole e x (i + 1) (omega arith) in
            right_decides i s a b there f v x y (rw whole at p) ∙ r (rw whole at q)

    cut_early :
        {why : Refusal} → (fits left (i + 1) s a b ≡ Refused why → fits x (i + 1) s a b ≡ Refused why) →
        (fits right (i + 1 + size x) (s + length (pooled x)) a b ≡ Refused why →
        fits y (i + 1 + size x) (s + length (pooled x)) a b ≡ Refused why) →
        fits (cut f v left right) i s a b ≡ Refused why → fits (cut f v x y) i s a b ≡ Refused why
    unfolding fits
    cut_early {why} l r q = first (then_cases (node_fits i a) _ q)
      where
        parts :
            (i + 1) * node_words ≤ a →
            (fits left (i + 1) s a b ≡ Refused why) ⊎
            ((fits left (i + 1) s a b ≡ Fine) ×
            (fits right (i + 1 + size left) (s + length (pooled left)) a b ≡ Refused why)) →
            fits (cut f v x y) i s a b ≡ Refused why
        parts there (inl u) = left_refuses i s a b there f v x y (l u)
        parts there (inr u) = right_early there r u.0 u.1

        first :
            (node_fits i a ≡ Refused why) ⊎
            ((node_fits i a ≡ Fine) ×
            ((fits left (i + 1) s a b then fits right (i + 1 + size left) (s + length (pooled left)) a b) ≡
            Refused why)) →
            fits (cut f v x y) i s a b ≡ Refused why
        first (inl u) = then_refused _ u
        first (inr u) = parts ((node_fits_iff i a).0 u.0) (then_cases (fits left (i + 1) s a b) _ u.1)

  -- what is grown before a stop is refused only as the whole is
  pub early_refused :
      (t : Tree) (i s : ℕ) {why : Refusal} → fits (up_to e t i) i s a b ≡ Refused why → fits t i s a b ≡ Refused why
  unfolding left right
  early_refused bud i s q = absurd (none_refused i s (up_to_bud e i) q)
  early_refused (leaf l) i s {why} q = go (within_or_over e i)
    where
      go : WithinOrOver e i → fits (leaf l) i s a b ≡ Refused why
      go (at_most h) = absurd (none_refused i s (up_to_end e (leaf l) i h) q)
      go (over h) = rw (up_to_leaf e l i h) at q
  early_refused (cut f v x y) i s {why} q =
      go (within_or_over e i) (λ h. early_refused x (i + 1) s h)
      (λ h. early_refused y (i + 1 + size x) (s + length (pooled x)) h)
    where
      go :
          WithinOrOver e i →
          (fits (up_to e x (i + 1)) (i + 1) s a b ≡ Refused why → fits x (i + 1) s a b ≡ Refused why) →
          (fits (up_to e y (i + 1 + size x)) (i + 1 + size x) (s + length (pooled x)) a b ≡ Refused why →
          fits y (i + 1 + size x) (s + length (pooled x)) a b ≡ Refused why) →
          fits (cut f v x y) i s a b ≡ Refused why
      go (at_most h) l r = absurd (none_refused i s (up_to_end e (cut f v x y) i h) q)
      go (over h) l r = cut_early f v x y i s l r (rw (up_to_cut e f v x y i h) at q)
