-- Agreement: in a tree whose root's part is built, every legal header gets the right list exactly where no leaf lacks a
-- rule.
use Rattle.tree_check.specs.declared.preorder.Lack.{Lack}
use Rattle.tree_check.specs.Said.{Complete}
use Rattle.std.specs.Prelude.{Option}
use Prim.Native.Nat.{ℕ, ◌<◌}
use mathlib.Core.Bool.{true}
use mathlib.Core.Path.{◌≡◌, sym, ap, ◌∙◌}
use mathlib.Core.Logic.{◌↔◌}
use mathlib.Core.List.{List}
use Rattle.facts.specs.Lists.{keep, has}
use Rattle.facts.proofs.Rising.{kept_all, all_kept}
use Rattle.fields.specs.Words.{field_count}
use Rattle.fields.specs.Headers.{Legal}
use Rattle.fields.specs.Boxes.{Inside, meets, root_box}
use Rattle.fields.proofs.Boxes.{CommonPoint, meets_iff_common_point}
use Rattle.fields.proofs.Headers.{legal_iff}
use Rattle.rules.specs.Words.{rule_count}
use Rattle.rules.specs.Matching.{matches, matching, rule_box}
use Rattle.rules.proofs.Meaning.{matches_iff_inside, rule_box_full}
use Rattle.trees.specs.Words.{entries}
use Rattle.trees.specs.Search.{tree_list}
use Rattle.tree_check.specs.Leads.{Leads}
use Rattle.tree_check.specs.Lacks.{LacksNone}
use Rattle.tree_check.specs.Serves.{Agrees}
use Rattle.tree_check.proofs.Lacks.{complete_iff}
use Rattle.tree_check.proofs.FirstLack.{complete_at, complete_of_each}
use Rattle.tree_check.proofs.Comes.{Formed, finds, bounded, leaf_of_lem, box_full, legal, list_is}

module _ {rs nodes pool : List ℕ} {c l : ℕ} {y : Option Lack} (t : Formed rs nodes pool c l y) where
  module _ {cuts : List ℕ} {x : ℕ} {d : List (List ℕ)} (w : Leads nodes root_box 0 cuts x d) where
    -- the tree's list of a header in a leaf's box is what matches of the leaf's entries
    pub tree_list_is :
        (h : List ℕ) → Inside field_count d h → tree_list rs nodes pool h ≡ keep (matches rs h) (entries nodes pool x)
    unfolding tree_list
    tree_list_is h inside = ap (keep (matches rs h)) (list_is t w h inside)

    -- a rule's box meets a leaf's exactly where they have a common point
    rule_meets_iff :
        (r : ℕ) → r < rule_count rs →
        (meets field_count (rule_box rs r) d ≡ true) ↔ CommonPoint field_count (rule_box rs r) d
    rule_meets_iff r o =
        meets_iff_common_point field_count (rule_box rs r) d (rule_box_full rs r (t.good.each r o)) (box_full t w)

    -- a header in the box of a leaf that lacks none gets the right list
    pub right_list :
        LacksNone rs nodes pool d x → (h : List ℕ) → Legal h → Inside field_count d h →
        tree_list rs nodes pool h ≡ matching rs h
    unfolding matching
    right_list none h k inside =
        tree_list_is h inside ∙
        kept_all (matches rs h) (rule_count rs) (entries nodes pool x) (bounded t w).rising (leaf_of_lem t w).rules
        (λ r o m. none r o (meet r o ((matches_iff_inside rs r (t.good.each r o) h).0 m)))
      where
        meet :
            (r : ℕ) → r < rule_count rs → Inside field_count (rule_box rs r) h → meets field_count (rule_box rs r) d ≡ true
        meet r o m =
            (rule_meets_iff r o).1
            (record { point = h; fields = ((legal_iff h).0 k).0; in_first = m; in_second = inside })

    -- a rule whose box meets that of a leaf has a legal header in both, which matches it
    pub witness :
        (r : ℕ) → r < rule_count rs → meets field_count (rule_box rs r) d ≡ true →
        (h : List ℕ) × Legal h × Inside field_count d h × (matches rs h r ≡ true)
    witness r o m = (
      p.point,
      legal t w p.point p.in_second p.fields,
      p.in_second,
      (matches_iff_inside rs r (t.good.each r o) p.point).1 p.in_first,
    )
      where
        p : CommonPoint field_count (rule_box rs r) d
        p = (rule_meets_iff r o).0 m

    -- where a header in a leaf's box gets the right list, the leaf lists each rule that matches it
    pub listed_of_right :
        (h : List ℕ) → Inside field_count d h → tree_list rs nodes pool h ≡ matching rs h → (r : ℕ) → r < rule_count rs →
        matches rs h r ≡ true → has (entries nodes pool x) r ≡ true
    unfolding matching
    listed_of_right h inside q r o m =
        all_kept (matches rs h) (rule_count rs) (entries nodes pool x) (sym (tree_list_is h inside) ∙ q) r o m

  -- where there is no lack every legal header gets the right list
  pub agrees_of_complete : y ≡ Complete → Agrees rs nodes pool
  agrees_of_complete q h k =
      let f = finds t h k in
      let w = f.0.leads in
      right_list w ((complete_iff rs nodes pool f.0.box f.0.at).0 (complete_at t.root q w)) h k f.1

  -- where every legal header gets the right list there is no lack
  pub complete_of_agrees : Agrees rs nodes pool → y ≡ Complete
  complete_of_agrees q =
      complete_of_each t.root
      (λ cuts x d w.
      (complete_iff rs nodes pool d x).1
      (λ r o m. let p = witness w r o m in listed_of_right w p.0 p.2 (q p.0 p.1) r o p.3))
