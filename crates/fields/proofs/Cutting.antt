-- Cuts of boxes of any number of fields: the two sides share out the headers of the box, and neither is empty.
use Prim.Native.Nat.{ℕ, ◌+◌, ◌≤◌, ◌<◌}
use native.Mathlib.Omega.{arith}
use mathlib.Core.Path.{◌≡◌, ap, ◌∙◌}
use mathlib.Core.Logic.{◌⊎◌, inl, inr}
use mathlib.Core.List.{List, []}
use lib.ListN.{length, get_or, set, length-set}
use lib.Seq.{get_or-set_same, get_or-set_other}
use Rattle.facts.proofs.Cases.{same_or_not}
use Rattle.fields.specs.Boxes.{low_of, high_of, Pairs, Inside, Full}
use Rattle.fields.specs.Cuts.{left_of, right_of}

-- ---- one end stored

-- the box b with v at end i of field f
abbrev stored : List (List ℕ) → ℕ → ℕ → ℕ → List (List ℕ)
stored b f i v = set b f (set (get_or b f []) i v)

module _ (b : List (List ℕ)) (f i v : ℕ) where
  other_field : (g : ℕ) → (g ≡ f → ⊥) → get_or (stored b f i v) g [] ≡ get_or b g []
  other_field g d = get_or-set_other b f g _ _ d

  that_field : f < length b → get_or (stored b f i v) f [] ≡ set (get_or b f []) i v
  that_field l = get_or-set_same b f _ _ l

  -- the other end is as it was, in each field
  other_end :
      f < length b → (j : ℕ) → (j ≡ i → ⊥) → (g : ℕ) →
      get_or (get_or (stored b f i v) g []) j 0 ≡ get_or (get_or b g []) j 0
  other_end l j d g = go (same_or_not g f)
    where
      go : (g ≡ f) ⊎ (g ≡ f → ⊥) → get_or (get_or (stored b f i v) g []) j 0 ≡ get_or (get_or b g []) j 0
      go (inl e) = rw e (ap (λ (r : List ℕ). get_or r j 0) (that_field l) ∙ get_or-set_other (get_or b f []) i j v 0 d)
      go (inr k) = ap (λ (r : List ℕ). get_or r j 0) (other_field g k)

  that_end : f < length b → i < length (get_or b f []) → get_or (get_or (stored b f i v) f []) i 0 ≡ v
  that_end l u = ap (λ (r : List ℕ). get_or r i 0) (that_field l) ∙ get_or-set_same (get_or b f []) i v 0 u

  pairs_stored : (n : ℕ) → f < n → Pairs n b → Pairs n (stored b f i v)
  pairs_stored n k p = record { fields = length-set b f _ ∙ p.fields; pair = λ g l. go g l (same_or_not g f) }
    where
      go : (g : ℕ) → g < n → (g ≡ f) ⊎ (g ≡ f → ⊥) → length (get_or (stored b f i v) g []) ≡ 2
      go g l (inl e) =
          rw e (ap length (that_field (omega (arith, p.fields))) ∙ length-set (get_or b f []) i v ∙ p.pair f k)
      go g l (inr d) = ap length (other_field g d) ∙ p.pair g l

-- ---- the ends of the two sides

module _ (n : ℕ) (b : List (List ℕ)) (p : Pairs n b) (f v : ℕ) (k : f < n) where
  there : f < length b
  there = omega (arith, p.fields)

  -- the left side has n pairs
  pub pairs_left : Pairs n (left_of b f v)
  unfolding left_of
  pairs_left = pairs_stored b f 1 v n k p

  -- the right side has n pairs
  pub pairs_right : Pairs n (right_of b f v)
  unfolding right_of
  pairs_right = pairs_stored b f 0 (v + 1) n k p

  -- the left side begins where the box does, in each field
  pub low_left : (g : ℕ) → low_of (left_of b f v) g ≡ low_of b g
  unfolding left_of
  low_left g = other_end b f 1 v there 0 (λ e. omega arith) g

  -- in the field of the cut the left side ends at the value
  pub high_left : high_of (left_of b f v) f ≡ v
  unfolding left_of
  high_left = that_end b f 1 v there (omega (arith, p.pair f k))

  -- in the other fields the left side ends where the box does
  pub high_left_other : (g : ℕ) → (g ≡ f → ⊥) → high_of (left_of b f v) g ≡ high_of b g
  unfolding left_of
  high_left_other g d = ap (λ (r : List ℕ). get_or r 1 0) (other_field b f 1 v g d)

  -- the right side ends where the box does, in each field
  pub high_right : (g : ℕ) → high_of (right_of b f v) g ≡ high_of b g
  unfolding right_of
  high_right g = other_end b f 0 (v + 1) there 1 (λ e. omega arith) g

  -- in the field of the cut the right side begins after the value
  pub low_right : low_of (right_of b f v) f ≡ v + 1
  unfolding right_of
  low_right = that_end b f 0 (v + 1) there (omega (arith, p.pair f k))

  -- in the other fields the right side begins where the box does
  pub low_right_other : (g : ℕ) → (g ≡ f → ⊥) → low_of (right_of b f v) g ≡ low_of b g
  unfolding right_of
  low_right_other g d = ap (λ (r : List ℕ). get_or r 0 0) (other_field b f 0 (v + 1) g d)

  -- ---- the headers of the two sides

  -- a header of the box whose field is at most the value lies on the left
  pub inside_left : (h : List ℕ) → Inside n b h → get_or h f 0 ≤ v → Inside n (left_of b f v) h
  inside_left h q c g l = go (same_or_not g f)
    where
      go : (g ≡ f) ⊎ (g ≡ f → ⊥) → (low_of (left_of b f v) g ≤ get_or h g 0) × (get_or h g 0 ≤ high_of (left_of b f v) g)
      go (inl e) = (rw (low_left g) (q g l).0, rw (e, high_left) c)
      go (inr d) = rw (low_left g, high_left_other g d) (q g l)

  -- a header of the box whose field is over the value lies on the right
  pub inside_right : (h : List ℕ) → Inside n b h → v < get_or h f 0 → Inside n (right_of b f v) h
  inside_right h q c g l = go (same_or_not g f)
    where
      go : (g ≡ f) ⊎ (g ≡ f → ⊥) → (low_of (right_of b f v) g ≤ get_or h g 0) × (get_or h g 0 ≤ high_of (right_of b f v) g)
      go (inl e) = (rw (e, low_right) (omega arith), rw (high_right g) (q g l).1)
      go (inr d) = rw (high_right g, low_right_other g d) (q g l)

  -- a header of the left side lies in the box, and its field is at most the value
  pub left_inside : v < high_of b f → (h : List ℕ) → Inside n (left_of b f v) h → Inside n b h × (get_or h f 0 ≤ v)
  left_inside c h q = (λ g l. go g l (same_or_not g f), rw high_left at (q f k).1)
    where
      go : (g : ℕ) → g < n → (g ≡ f) ⊎ (g ≡ f → ⊥) → (low_of b g ≤ get_or h g 0) × (get_or h g 0 ≤ high_of b g)
      go g l (inl e) = (rw (low_left g) at (q g l).0, rw e (omega (arith, rw high_left at (q f k).1)))
      go g l (inr d) = rw (low_left g, high_left_other g d) at (q g l)

  -- a header of the right side lies in the box, and its field is over the value
  pub right_inside : low_of b f ≤ v → (h : List ℕ) → Inside n (right_of b f v) h → Inside n b h × (v < get_or h f 0)
  right_inside c h q = (λ g l. go g l (same_or_not g f), omega (arith, rw low_right at (q f k).0))
    where
      go : (g : ℕ) → g < n → (g ≡ f) ⊎ (g ≡ f → ⊥) → (low_of b g ≤ get_or h g 0) × (get_or h g 0 ≤ high_of b g)
      go g l (inl e) = (rw e (omega (arith, rw low_right at (q f k).0)), rw (high_right g) at (q g l).1)
      go g l (inr d) = rw (high_right g, low_right_other g d) at (q g l)

  -- the left side is not empty, where the value is at least the low end
  pub full_left : low_of b f ≤ v → Full n b → Full n (left_of b f v)
  full_left c q g l = go (same_or_not g f)
    where
      go : (g ≡ f) ⊎ (g ≡ f → ⊥) → low_of (left_of b f v) g ≤ high_of (left_of b f v) g
      go (inl e) = rw (low_left g) (rw (e, high_left) c)
      go (inr d) = rw (low_left g, high_left_other g d) (q g l)

  -- the right side is not empty, where the value is below the high end
  pub full_right : v < high_of b f → Full n b → Full n (right_of b f v)
  full_right c q g l = go (same_or_not g f)
    where
      go : (g ≡ f) ⊎ (g ≡ f → ⊥) → low_of (right_of b f v) g ≤ high_of (right_of b f v) g
      go (inl e) = rw (high_right g) (rw (e, low_right) (omega arith))
      go (inr d) = rw (high_right g, low_right_other g d) (q g l)
