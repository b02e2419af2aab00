-- The check of a part accepts exactly the well-formed parts, where the first words of the nodes are in order.
use Rattle.tree_check.specs.declared.preorder.Lack.{Lack}
use Rattle.tree_check.specs.Said.{Good}
use Rattle.std.specs.Prelude.{Option}
use Prim.Native.Nat.{ℕ, suc, ◌+◌, ◌≤◌, ◌<◌, max}
use native.Mathlib.Omega.{arith}
use mathlib.Core.Bool.{Bool, true, false, false≢true}
use mathlib.Core.Path.{◌≡◌, ◌∙◌}
use mathlib.Core.List.{List}
use lib.ListN.{length}
use borrow.Author.Tests.{eq-eqb}
use Rattle.facts.specs.Lists.{rises}
use Rattle.fields.proofs.Cuts.{divides_iff}
use Rattle.trees.specs.Words.{leaf_mark, node_count, field_of, value_of, child_of, entries}
use Rattle.tree_check.specs.Whole.{Whole, leaf, cut}
use Rattle.tree_check.specs.Preorder.{lack_of, earlier, child_at, preorder_of}
use Rattle.tree_check.specs.Leads.{left_box, right_box, Divides}
use Rattle.tree_check.proofs.Parts.{leaf_rising, preorder_leaf, preorder_divided}
use Rattle.tree_check.proofs.Built.{Built, of_none, of_leaf, of_cut}

-- the first word of each node is at most the leaf's mark
abbrev pub FirstWords : List ℕ → Type 0
FirstWords nodes = (i : ℕ) → i < node_count nodes → field_of nodes i ≤ leaf_mark

-- a built part is well formed
pub whole_of_built :
    {rs nodes pool : List ℕ} {k : ℕ} {b : List (List ℕ)} {i e c l : ℕ} {y : Option Lack} → FirstWords nodes →
    Built false rs nodes pool k b i e c l y → Whole nodes pool k b i e
whole_of_built first (of_none q a) = absurd (false≢true q)
whole_of_built first (of_leaf {i = i} a f r) = leaf a (omega (arith, first i a)) r
whole_of_built first (of_cut d p q r) =
    cut d.there d.field d.low d.high (whole_of_built first p) q (whole_of_built first r)

-- the check of a part accepts it, with these figures and this lack
pub record Accepts (far : Bool) (rs nodes pool : List ℕ) (k : ℕ) (b : List (List ℕ)) (i e : ℕ) : Type 0 where
  pub cuts : ℕ
  pub longest : ℕ
  pub lack : Option Lack
  pub says : preorder_of far k rs nodes pool b i ≡ Good e cuts longest lack

module _ (far : Bool) (rs nodes pool : List ℕ) (k : ℕ) (b : List (List ℕ)) (i : ℕ) where
  pub leaf_accepts :
      i < node_count nodes → leaf_mark ≤ field_of nodes i → rises 0 (entries nodes pool i) ≡ true →
      Accepts far rs nodes pool k b i (i + 1)
  leaf_accepts a f r =
      record {
        cuts = 0;
        longest = length (entries nodes pool i);
        lack = lack_of rs (entries nodes pool i) b i;
        says = preorder_leaf far rs nodes pool b i a k f ∙ leaf_rising rs nodes pool b i r;
      }

  pub cut_accepts :
      (m e : ℕ) → Divides nodes b i → Accepts far rs nodes pool k (left_box nodes b i) (i + 1) m →
      child_of nodes i ≡ child_at far (node_count nodes) m → Accepts far rs nodes pool k (right_box nodes b i) m e →
      Accepts far rs nodes pool (suc k) b i e
  cut_accepts m e d p q r =
      record {
        cuts = max p.cuts r.cuts + 1;
        longest = max p.longest r.longest;
        lack = earlier p.lack r.lack;
        says =
            preorder_divided far rs nodes pool b i d.there d.field k
            ((divides_iff b (field_of nodes i) (value_of nodes i)).1 (d.low, d.high)) ∙
            rw (p.says, eq-eqb (child_of nodes i) _ q, r.says);
      }

-- the check of a part accepts it where it is well formed
pub accepts_of_whole :
    (rs : List ℕ) {nodes pool : List ℕ} {k : ℕ} {b : List (List ℕ)} {i e : ℕ} → Whole nodes pool k b i e →
    Accepts false rs nodes pool k b i e
accepts_of_whole rs (leaf a f r) = leaf_accepts false rs _ _ _ _ _ a (omega arith) r
accepts_of_whole rs (cut a f u v p q r) =
    cut_accepts false rs _ _ _ _ _ _ _ (record { there = a; field = f; low = u; high = v }) (accepts_of_whole rs p) q
    (accepts_of_whole rs r)
