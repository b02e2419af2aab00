-- The stages of the check: it accepts, or says that a leaf lacks a rule, exactly where it reaches the root's part and
-- accepts that, and the part's lack decides.
use Rattle.tree_check.specs.declared.preorder.Part.{Part}
use Rattle.tree_check.specs.declared.preorder.Lack.{Lack}
use Rattle.tree_check.specs.Said.{Good}
use Rattle.std.specs.Prelude.{Err, Option, Result, Ok}
use Prim.Native.Nat.{ℕ}
use native.Mathlib.Omega.{arith}
use mathlib.Core.Bool.{false}
use mathlib.Core.Path.{◌≡◌, refl, ap, ◌∙◌}
use mathlib.Core.List.{List}
use lib.Dec.{eqb}
use borrow.Author.Tests.{eqb-true, eq-eqb}
use Rattle.refusals.specs.declared.Refusal.{Refusal}
use Rattle.refusals.specs.declared.Refusal.TheVariants.{NodeWrong}
use Rattle.refusals.specs.Verdict.{Verdict}
use Rattle.refusals.specs.Verdict as verdict
use Rattle.refusals.proofs.Order.{holds_fine, fine_iff_holds, then_fine}
use Rattle.fields.specs.Boxes.{root_box}
use Rattle.rules.specs.Words.{rule_count}
use Rattle.rules.specs.Good.{list_verdict}
use Rattle.rules.proofs.Lists.{good_of_fine}
use Rattle.trees.specs.Words.{node_count, size_verdict}
use Rattle.trees.specs.Spelt.{Spelt}
use Rattle.tree_check.specs.Whole.{most_cuts, Proper}
use Rattle.tree_check.specs.TreeCheck.{root_part, lack_verdict, part_verdict, check_verdict}
use Rattle.refusals.proofs.Only.{unless_only}
use Rattle.tree_check.proofs.NotLack.{Malformed, not_lack_of_malformed, Last, not_last, then_last}
use Rattle.tree_check.proofs.NotLack.{words_no_lack}
use Rattle.tree_check.proofs.Checks.{words_fine_iff}
use Rattle.tree_check.proofs.Built.{built, part_malformed}
use Rattle.tree_check.proofs.Formed.{whole_of_built, accepts_of_whole}
use Rattle.tree_check.proofs.Comes.{Formed}

-- the stages before the last are fine, and the root's part is accepted, with these figures and this lack
pub record Reached (rs nodes pool : List ℕ) (c l : ℕ) (y : Option Lack) : Type 0 where
  pub list : list_verdict rs ≡ verdict.Fine
  pub sizes : size_verdict nodes pool ≡ verdict.Fine
  pub spelt : Spelt (rule_count rs) nodes pool
  pub root : root_part rs nodes pool ≡ Good (node_count nodes) c l y

-- where the root's part says what only the last stage says, it is accepted, and its lack decides
pub part_last :
    (m : ℕ) (p : Result Part Refusal) {u : Verdict} → ((why : Refusal) → p ≡ Err why → Malformed why) → Last u →
    part_verdict m p ≡ u → (c : ℕ) × (l : ℕ) × (y : Option Lack) × (p ≡ Good m c l y) × (lack_verdict y ≡ u)
part_last m (Err why) n l e = not_last (not_lack_of_malformed why (n why refl)) l e
part_last m (Ok p) n l e =
    let t = then_last (unless_only (eqb p.next m) (NodeWrong p.next) (λ e. omega arith)) l e in
    let q : p.next ≡ m = eqb-true p.next m ((fine_iff_holds _ _).0 t.0) in
    (p.cuts, p.longest, p.lack, ap (λ (k : ℕ). Good k p.cuts p.longest p.lack) q, t.1)

module _ (rs nodes pool : List ℕ) where
  -- where the check gives what only its last stage gives, it reached the root's part, whose lack decides
  pub reached :
      {u : Verdict} → Last u → check_verdict rs nodes pool ≡ u →
      (c : ℕ) × (l : ℕ) × (y : Option Lack) × Reached rs nodes pool c l y × (lack_verdict y ≡ u)
  unfolding check_verdict root_part
  reached last e =
      let s = then_last (words_no_lack rs nodes pool) last e in
      let words = (words_fine_iff rs nodes pool).0 s.0 in
      let whys = part_malformed false rs nodes pool most_cuts root_box 0 in
      let t = part_last (node_count nodes) (root_part rs nodes pool) whys last s.1 in
      (t.0, t.1, t.2, record { list = words.0; sizes = words.1; spelt = words.2; root = t.3 }, t.4)

module _ {rs nodes pool : List ℕ} {c l : ℕ} {y : Option Lack} (t : Reached rs nodes pool c l y) where
  -- where the check reaches the root's part, the part's lack decides
  pub lack_decides : check_verdict rs nodes pool ≡ lack_verdict y
  unfolding check_verdict
  lack_decides =
      then_fine _ ((words_fine_iff rs nodes pool).1 (t.list, t.sizes, t.spelt)) ∙
      ap (part_verdict (node_count nodes)) t.root ∙
      then_fine _ (holds_fine _ (eq-eqb (node_count nodes) (node_count nodes) refl))

  -- the list is then good, and the root's part is built
  pub formed : Formed rs nodes pool c l y
  unfolding root_part
  formed = record { good = good_of_fine rs t.list; spelt = t.spelt; root = built false rs nodes pool t.root }

  -- the list and the sizes are fine, and the tree is well formed
  pub proper : Proper rs nodes pool
  proper =
      record {
        list = t.list;
        sizes = t.sizes;
        formed = record { spelt = t.spelt; preorder = whole_of_built t.spelt.first formed.root };
      }

-- where they are, the root's part is reached
pub reaches :
    {rs nodes pool : List ℕ} → Proper rs nodes pool → (c : ℕ) × (l : ℕ) × (y : Option Lack) × Reached rs nodes pool c l y
unfolding root_part
reaches {rs} p =
    let w = p.formed in
    let a = accepts_of_whole rs w.preorder in
    (a.cuts, a.longest, a.lack, record { list = p.list; sizes = p.sizes; spelt = w.spelt; root = a.says })
