-- Refusals 6 and 7 of the part check: with a good list, sizes that hold and the list's number of rules, they are given
-- exactly where the tree is not well formed so far.
use Prim.Native.Nat.{ℕ}
use mathlib.Core.Bool.{true}
use mathlib.Core.Path.{◌≡◌, refl, sym, subst, ◌∙◌}
use mathlib.Core.Logic.{◌↔◌, ◌⊎◌, inl, inr}
use mathlib.Core.List.{List}
use borrow.Author.Tests.{eq-eqb}
use Rattle.refusals.specs.declared.Refusal.{Refusal}
use Rattle.refusals.specs.declared.Refusal.TheVariants.{NodeWrong, LeafWrong}
use Rattle.refusals.specs.Verdict.{Verdict}
use Rattle.refusals.specs.Verdict.{Fine, Refused}
use Rattle.refusals.proofs.Order.{holds_fine, then_fine}
use Rattle.refusals.proofs.Only.{Only, fine, refused, only_wider, then_only}
use Rattle.fields.specs.Boxes.{root_box}
use Rattle.rules.specs.Words.{rule_count}
use Rattle.rules.specs.Good.{list_verdict}
use Rattle.trees.specs.Words.{node_count, size_verdict}
use Rattle.tree_check.specs.Whole.{most_cuts}
use Rattle.tree_check.specs.SoFar.{FormedSoFar}
use Rattle.tree_check.specs.PartCheck.{so_far_verdict}
use Rattle.tree_check.proofs.NotLack.{Malformed, six, seven, spelt_malformed}
use Rattle.tree_check.proofs.Built.{part_malformed}
use Rattle.tree_check.proofs.Malformed.{OfTree, malformed, lacks, part_of_tree, not_of_lack}
use Rattle.tree_check.proofs.PartStages.{part_taken, taken_decides}
use Rattle.tree_check.proofs.GoingOn.{taken_proper, takes, eight_taken}

module _
    (rs : List ℕ) (n : ℕ) (nodes pool : List ℕ) (list : list_verdict rs ≡ Fine) (size : size_verdict nodes pool ≡ Fine)
    (count : n ≡ rule_count rs)
  where
    -- the part check then refuses with 6, 7 or 8 alone
    check_of_part : Only OfTree (so_far_verdict rs n nodes pool)
    unfolding so_far_verdict
    check_of_part =
        subst (Only OfTree)
        (sym
        (then_fine _ list ∙ then_fine _ size ∙ then_fine _ (holds_fine _ (eq-eqb n (rule_count rs) count))))
        (then_only (only_wider (λ why m. malformed m) (spelt_malformed (rule_count rs) nodes pool))
        (part_of_tree (node_count nodes) _ (part_malformed true rs nodes pool most_cuts root_box 0)))

    -- a tree that is well formed so far is not refused with 6 or 7
    not_refused :
        {why : Refusal} → Malformed why → so_far_verdict rs n nodes pool ≡ Refused why →
        FormedSoFar (rule_count rs) nodes pool → ⊥
    not_refused m e w =
        let t = takes {n = n} (record { list = list; sizes = size; count = count; formed = w }) in
        not_of_lack t.2 m (sym (taken_decides t.3) ∙ e)

    -- one that is not is refused with 6 or 7
    refuses_malformed :
        (FormedSoFar (rule_count rs) nodes pool → ⊥) → {v : Verdict} → so_far_verdict rs n nodes pool ≡ v →
        Only OfTree v →
        (i : ℕ) ×
        ((so_far_verdict rs n nodes pool ≡ Refused (NodeWrong i)) ⊎
        (so_far_verdict rs n nodes pool ≡ Refused (LeafWrong i)))
    refuses_malformed bad e fine = absurd (bad (taken_proper (part_taken rs n nodes pool e).2).formed)
    refuses_malformed bad e (refused (malformed (six {i}))) = (i, inl e)
    refuses_malformed bad e (refused (malformed (seven {i}))) = (i, inr e)
    refuses_malformed bad e (refused lacks) = absurd (bad (taken_proper (eight_taken rs n nodes pool e).2).formed)

    -- the part check refuses with 6 or 7 exactly where the tree is not well formed so far
    pub malformed_iff_not_so_far :
        ((i : ℕ) ×
        ((so_far_verdict rs n nodes pool ≡ Refused (NodeWrong i)) ⊎
        (so_far_verdict rs n nodes pool ≡ Refused (LeafWrong i)))) ↔
        (FormedSoFar (rule_count rs) nodes pool → ⊥)
    malformed_iff_not_so_far = (λ t. to t.1, λ bad. refuses_malformed bad refl check_of_part)
      where
        to :
            {i : ℕ} →
            (so_far_verdict rs n nodes pool ≡ Refused (NodeWrong i)) ⊎
            (so_far_verdict rs n nodes pool ≡ Refused (LeafWrong i)) →
            FormedSoFar (rule_count rs) nodes pool → ⊥
        to (inl e) = not_refused six e
        to (inr e) = not_refused seven e
