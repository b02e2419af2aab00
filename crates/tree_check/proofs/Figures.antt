-- The figures of a tree whose root's part is built: they bound every legal header's walk and leaf, and each is met.
use Rattle.tree_check.specs.declared.preorder.Lack.{Lack}
use Rattle.std.specs.Prelude.{Option}
use Prim.Native.Nat.{ℕ, suc, ◌+◌, ◌≤◌}
use native.Mathlib.Omega.{arith}
use mathlib.Core.Bool.{Bool, true, false, cond}
use mathlib.Core.Path.{◌≡◌, ap, ◌∙◌}
use mathlib.Core.List.{List, [], ◌∷◌}
use lib.ListN.{length}
use Rattle.fields.specs.Words.{field_count}
use Rattle.fields.specs.Headers.{Legal}
use Rattle.fields.specs.Boxes.{Inside, root_box}
use Rattle.trees.specs.Words.{entries}
use Rattle.trees.specs.Walk.{walk_of, visited}
use Rattle.trees.specs.Search.{leaf_list, looked_at}
use Rattle.tree_check.specs.Leads.{Leads}
use Rattle.tree_check.specs.Figures.{Figures}
use Rattle.tree_check.proofs.Bounds.{deepest, longest}
use Rattle.tree_check.proofs.Comes.{Formed, point_of, finds, bounded, box_full, legal, comes, list_is}

module _ {rs nodes pool : List ℕ} {c l : ℕ} {y : Option Lack} (t : Formed rs nodes pool c l y) where
  module _ {cuts : List ℕ} {x : ℕ} {d : List (List ℕ)} (w : Leads nodes root_box 0 cuts x d) where
    visits_at : (h : List ℕ) → Inside field_count d h → visited (walk_of nodes h) ≡ length cuts + 1
    visits_at h inside = ap visited (comes t w h inside)

    entries_at : (h : List ℕ) → Inside field_count d h → length (leaf_list nodes pool h) ≡ length (entries nodes pool x)
    entries_at h inside = ap length (list_is t w h inside)

    -- a leaf's box has a legal header in it
    legal_point : (h : List ℕ) × Legal h × Inside field_count d h
    legal_point =
        let p = point_of d (box_full t w) in
        (p.point, legal t w p.point p.in_first p.fields, p.in_first)

  visits_bounded : (h : List ℕ) → Legal h → visited (walk_of nodes h) ≤ c + 1
  visits_bounded h k =
      let f = finds t h k in
      omega (arith, visits_at f.0.leads h f.1, (bounded t f.0.leads).cuts_most)

  entries_bounded : (h : List ℕ) → Legal h → length (leaf_list nodes pool h) ≤ l
  entries_bounded h k =
      let f = finds t h k in
      omega (arith, entries_at f.0.leads h f.1, (bounded t f.0.leads).entries_most)

  visits_reached : (h : List ℕ) × Legal h × (visited (walk_of nodes h) ≡ c + 1)
  visits_reached =
      let f = deepest t.root in
      let p = legal_point f.0.leads in
      (p.0, p.1, visits_at f.0.leads p.0 p.2 ∙ ap (λ (n : ℕ). n + 1) f.1)

  entries_reached : (h : List ℕ) × Legal h × (length (leaf_list nodes pool h) ≡ l)
  entries_reached =
      let f = longest t.root in
      let p = legal_point f.0.leads in
      (p.0, p.1, entries_at f.0.leads p.0 p.2 ∙ f.1)

  -- the figures bound every legal header, and each is met by one
  pub figures_met : Figures nodes pool c l
  figures_met =
      record {
        visits_most = visits_bounded;
        entries_most = entries_bounded;
        visits_met = visits_reached;
        entries_met = entries_reached;
      }

-- no more entries are looked at than there are
looked_at_most : (p : ℕ → Bool) (l : List ℕ) → length (looked_at p l) ≤ length l
unfolding looked_at
looked_at_most p [] = omega arith
looked_at_most p (x ∷ xs) = go (p x) (looked_at_most p xs)
  where
    go : (t : Bool) → length (looked_at p xs) ≤ length xs → suc (length (cond t [] (looked_at p xs))) ≤ suc (length xs)
    go true h = omega arith
    go false h = omega arith

-- where the figures are met, a search for the first match compares no more entries than the second figure says
pub compared_most :
    {nodes pool : List ℕ} {c l : ℕ} → Figures nodes pool c l → (p : ℕ → Bool) (h : List ℕ) → Legal h →
    length (looked_at p (leaf_list nodes pool h)) ≤ l
compared_most {nodes} {pool} f p h k =
    omega (arith, f.entries_most h k, looked_at_most p (leaf_list nodes pool h))
