-- The words of the nodes of the tree that is built have 32 bits: each value is below the high end of a box that lies in
-- the root's box.
use Prim.Native.Nat.{ℕ, ◌+◌, ◌^◌, ◌<◌}
use native.Mathlib.Omega.{arith}
use mathlib.Core.Bool.{Bool, true}
use mathlib.Core.Path.{◌≡◌}
use mathlib.Core.List.{List}
use lib.ListN.{length, get_or}
use Rattle.facts.specs.Lists.{tabulate}
use Rattle.facts.proofs.Tables.{get_or_tab}
use Rattle.fields.specs.Words.{tops, field_count}
use Rattle.fields.specs.Boxes.{high_of, Pairs, Inside, Full, root_box}
use Rattle.fields.specs.Cuts.{divides, left_of, right_of}
use Rattle.fields.proofs.Cuts.{divides_iff}
use Rattle.fields.proofs.Cutting.{pairs_left, pairs_right, left_inside, right_inside, full_left, full_right}
use Rattle.fields.proofs.Root.{root_ends, root_pairs, root_full}
use Rattle.built.specs.Trees.{Tree}
use Rattle.built.specs.Layout.{size, pooled, laid}
use Rattle.built.proofs.Laying.{size_cut, pooled_leaf, length_pooled, right_child_below}
use Rattle.built.proofs.Laying.{laid_bud, laid_leaf, laid_cut}
use Rattle.built.proofs.Covering.{Covers, by_bud, by_leaf, by_cut}
use Rattle.text.specs.Line.{EachUnder}
use Rattle.text.proofs.Below.{below_append, below_at}

-- a box in the root's box: no field of it is empty, and its headers lie in the root's box
pub record InRoot (b : List (List ℕ)) : Type 0 where
  pub pairs : Pairs field_count b
  pub full : Full field_count b
  pub inside : (h : List ℕ) → Inside field_count b h → Inside field_count root_box h

-- the root's box is one
pub root_in_root : InRoot root_box
root_in_root = record { pairs = root_pairs; full = root_full; inside = λ h q. q }

-- no top has more than 32 bits
top_under : (f : ℕ) → f < field_count → high_of root_box f < 2 ^ 32
top_under f k =
    let each : EachUnder (2 ^ 32) tops =
    (omega arith, (omega arith, (omega arith, (omega arith, (omega arith, tt))))) in
    rw (root_ends f k) (below_at (2 ^ 32) tops f (omega arith) each)

module _ {b : List (List ℕ)} {f : ℕ} (v : ℕ) (w : InRoot b) (k : f < field_count) (d : divides b f v ≡ true) where
  -- so is the left side of a box that is one
  pub left_in_root : InRoot (left_of b f v)
  left_in_root =
      let e = (divides_iff b f v).0 d in
      record {
        pairs = pairs_left field_count b w.pairs f v k;
        full = full_left field_count b w.pairs f v k e.0 w.full;
        inside = λ h q. w.inside h (left_inside field_count b w.pairs f v k e.1 h q).0;
      }

  -- and the right side
  pub right_in_root : InRoot (right_of b f v)
  right_in_root =
      let e = (divides_iff b f v).0 d in
      record {
        pairs = pairs_right field_count b w.pairs f v k;
        full = full_right field_count b w.pairs f v k e.1 w.full;
        inside = λ h q. w.inside h (right_inside field_count b w.pairs f v k e.0 h q).0;
      }

  -- the value that divides it has 32 bits
  pub value_under : v < 2 ^ 32
  value_under =
      let e = (divides_iff b f v).0 d in
      let high : List ℕ = tabulate field_count (λ g. high_of b g) in
      let at : (g : ℕ) → g < field_count → get_or high g 0 ≡ high_of b g = get_or_tab field_count (λ g. high_of b g) in
      let in_box : Inside field_count b high = λ g l. (rw (at g l) (w.full g l), omega (arith, at g l)) in
      omega (arith, e.1, at f k, (w.inside high in_box f k).1, top_under f k)

-- the words of a tree that covers a list in such a box have 32 bits, where its last node and its last entry have
pub laid_under :
    {far : Bool} {rs : List ℕ} {k : ℕ} {b : List (List ℕ)} {t : Tree} → Covers far rs k b t → InRoot b → (i s : ℕ) →
    i + size t < 2 ^ 32 → s + length (pooled t) < 2 ^ 32 → EachUnder (2 ^ 32) (laid t i s)
laid_under (by_bud e) w i s a c = rw (laid_bud i s) tt
laid_under (by_leaf {l = l} lists) w i s a c =
    let few : s + length l < 2 ^ 32 = rw (pooled_leaf l) at c in
    rw (laid_leaf l i s) (omega arith, (omega arith, (omega arith, tt)))
laid_under (by_cut {f = f} {v = v} {x = x} {y = y} u d p q) w i s a c =
    let nodes = size_cut f v x y in
    let entries = length_pooled f v x y in
    let j = i + 1 + size x in
    let more = s + length (pooled x) in
    let left = laid_under p (left_in_root v w u d) (i + 1) s (omega arith) (omega arith) in
    let right = laid_under q (right_in_root v w u d) j more (omega arith) (omega arith) in
    rw (laid_cut f v x y i s) (
      omega arith,
      (
        value_under v w u d,
        (
          right_child_below y j (2 ^ 32) (omega arith) (omega arith),
          below_append (2 ^ 32) (laid x (i + 1) s) (laid y j more) left right,
        ),
      ),
    )
