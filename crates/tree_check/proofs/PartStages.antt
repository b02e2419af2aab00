-- The stages of the part check: it is fine, or says that a leaf lacks a rule, exactly where it reaches the root's part
-- so far and accepts that, and the part's lack decides.
use Rattle.tree_check.specs.declared.preorder.Lack.{Lack}
use Rattle.tree_check.specs.Said.{Complete, Good}
use Rattle.std.specs.Prelude.{Option}
use Prim.Native.Nat.{ℕ}
use native.Mathlib.Omega.{arith}
use mathlib.Core.Bool.{true}
use mathlib.Core.Path.{◌≡◌, refl, ap, ◌∙◌}
use mathlib.Core.List.{List}
use borrow.Author.Tests.{eqb-true, eq-eqb}
use Rattle.refusals.specs.declared.Refusal.TheVariants.{NodeWrong}
use Rattle.refusals.specs.Verdict.{Verdict}
use Rattle.refusals.specs.Verdict.{Fine}
use Rattle.refusals.proofs.Order.{holds_fine, fine_iff_holds, then_fine}
use Rattle.refusals.proofs.Only.{only_wider, unless_only}
use Rattle.fields.specs.Boxes.{root_box}
use Rattle.rules.specs.Words.{rule_count}
use Rattle.rules.specs.Good.{list_verdict}
use Rattle.trees.specs.Words.{node_count, size_verdict}
use Rattle.trees.specs.Spelt.{Spelt}
use Rattle.trees.proofs.Spelling.{spelt_fine_iff}
use Rattle.tree_check.specs.Whole.{most_cuts}
use Rattle.tree_check.specs.Preorder.{preorder_of}
use Rattle.tree_check.specs.TreeCheck.{lack_verdict, part_verdict}
use Rattle.tree_check.specs.PartCheck.{so_far_verdict}
use Rattle.tree_check.proofs.NotLack.{Last, not_lack_of_malformed, then_last}
use Rattle.tree_check.proofs.NotLack.{list_no_lack, sizes_no_lack, spelt_malformed}
use Rattle.tree_check.proofs.Built.{Built, built, part_malformed}
use Rattle.tree_check.proofs.Stages.{part_last}
use Rattle.tree_check.proofs.Accepts.{lack_fine}

-- the stages before the last are fine, and the root's part so far is accepted, with these figures and this lack
pub record Taken (rs : List ℕ) (n : ℕ) (nodes pool : List ℕ) (c l : ℕ) (y : Option Lack) : Type 0 where
  pub list : list_verdict rs ≡ Fine
  pub sizes : size_verdict nodes pool ≡ Fine
  pub count : n ≡ rule_count rs
  pub spelt : Spelt (rule_count rs) nodes pool
  pub root : preorder_of true most_cuts rs nodes pool root_box 0 ≡ Good (node_count nodes) c l y

module _ (rs : List ℕ) (n : ℕ) (nodes pool : List ℕ) where
  -- where the part check gives what only its last stage gives, it reached the root's part, whose lack decides
  pub part_reached :
      {u : Verdict} → Last u → so_far_verdict rs n nodes pool ≡ u →
      (c : ℕ) × (l : ℕ) × (y : Option Lack) × Taken rs n nodes pool c l y × (lack_verdict y ≡ u)
  unfolding so_far_verdict
  part_reached last e =
      let s = then_last (list_no_lack rs) last e in
      let t = then_last (sizes_no_lack nodes pool) last s.1 in
      let a = then_last (unless_only _ (NodeWrong 0) (λ e. omega arith)) last t.1 in
      let w = then_last (only_wider not_lack_of_malformed (spelt_malformed (rule_count rs) nodes pool)) last a.1 in
      let whys = part_malformed true rs nodes pool most_cuts root_box 0 in
      let p = part_last (node_count nodes) (preorder_of true most_cuts rs nodes pool root_box 0) whys last w.1 in
      let reached : Taken rs n nodes pool p.0 p.1 p.2 =
      record {
        list = s.0;
        sizes = t.0;
        count = eqb-true n (rule_count rs) ((fine_iff_holds _ _).0 a.0);
        spelt = (spelt_fine_iff (rule_count rs) nodes pool).0 w.0;
        root = p.3;
      } in
      (p.0, p.1, p.2, reached, p.4)

  -- where the part check is fine, the root's part so far is reached, without a lack
  pub part_taken : so_far_verdict rs n nodes pool ≡ Fine → (c : ℕ) × (l : ℕ) × Taken rs n nodes pool c l Complete
  part_taken e =
      let t = part_reached tt e in
      let none = lack_fine t.2 t.4 in
      (t.0, t.1, rw none at t.3)

module _ {rs : List ℕ} {n : ℕ} {nodes pool : List ℕ} {c l : ℕ} {y : Option Lack} (t : Taken rs n nodes pool c l y) where
  -- where the part check reaches the root's part, the part's lack decides
  pub taken_decides : so_far_verdict rs n nodes pool ≡ lack_verdict y
  unfolding so_far_verdict
  taken_decides =
      then_fine _ t.list ∙ then_fine _ t.sizes ∙
      then_fine _ (holds_fine _ (eq-eqb n (rule_count rs) t.count)) ∙
      then_fine _ ((spelt_fine_iff (rule_count rs) nodes pool).1 t.spelt) ∙
      ap (part_verdict (node_count nodes)) t.root ∙
      then_fine _ (holds_fine _ (eq-eqb (node_count nodes) (node_count nodes) refl))

  -- the root's part so far is built
  pub taken_built : Built true rs nodes pool most_cuts root_box 0 (node_count nodes) c l y
  taken_built = built true rs nodes pool t.root
