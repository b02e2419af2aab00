-- Searches by an accepted tree: they refuse what the line search refuses, and give what it gives.
use Rattle.tree_check.specs.declared.preorder.Lack.{Lack}
use Rattle.trees.specs.declared.search.Listed.{Listed}
use Rattle.std.specs.Prelude.{Result, Option}
use Rattle.refusals.specs.declared.Refusal.{Refusal}
use Prim.Native.Nat.{ℕ, ◌+◌}
use mathlib.Core.Path.{◌≡◌, refl, sym, ap, ◌∙◌}
use mathlib.Core.List.{List}
use lib.ListN.{length}
use borrow.Author.Tests.{le-leb}
use Rattle.facts.proofs.Under.{all_under_iff_has}
use Rattle.refusals.specs.Verdict.{Verdict}
use Rattle.refusals.specs.Verdict.{Fine, Refused}
use Rattle.refusals.specs.Paper.{success}
use Rattle.refusals.specs.Order.{room_verdict, ◌then◌, ◌giving◌}
use Rattle.refusals.proofs.Order.{holds_fine, then_fine, then_refused, giving_fine, giving_refused}
use Rattle.refusals.proofs.Promises.{left_found}
use Rattle.fields.specs.Headers.{header_verdict, Legal}
use Rattle.rules.specs.Words.{rule_count}
use Rattle.rules.specs.Good.{list_verdict}
use Rattle.rules.specs.Matching.{matching}
use Rattle.rules.specs.LineAll.{all_verdict, LineAllSearched}
use Rattle.rules.specs.LineFirst.{first_of}
use Rattle.trees.specs.Words.{start_of, count_of, entries}
use Rattle.trees.specs.Walk.{Walk, leaf_of}
use Rattle.trees.specs.Search.{walk_verdict, leaf_verdict, reach_verdict, tree_list}
use Rattle.trees.specs.TreeAll.{tree_all_verdict, TreeAllSearched}
use Rattle.trees.specs.Spelt.{SpeltLeaf}
use Rattle.tree_check.specs.TreeCheck.{check_verdict}
use Rattle.tree_check.proofs.Comes.{Formed, finds, leaf_of_lem, comes}
use Rattle.tree_check.proofs.Agreement.{agrees_of_complete}
use Rattle.tree_check.proofs.Stages.{formed}
use Rattle.tree_check.proofs.Accepts.{accepted}

-- a leaf that is spelt is not refused
leaf_fine :
    (rs nodes pool : List ℕ) (i : ℕ) → SpeltLeaf (rule_count rs) nodes pool i → leaf_verdict rs nodes pool i ≡ Fine
unfolding leaf_verdict
leaf_fine rs nodes pool i s =
    then_fine _ (holds_fine _ (le-leb (start_of nodes i + count_of nodes i) (length pool) s.within)) ∙
    holds_fine _ ((all_under_iff_has (rule_count rs) (entries nodes pool i)).1 s.rules)

-- in a tree whose root's part is built no legal header is refused
pub built_refuses_none :
    {rs nodes pool : List ℕ} {c l : ℕ} {y : Option Lack} → Formed rs nodes pool c l y → (h : List ℕ) → Legal h →
    reach_verdict rs nodes pool h ≡ Fine
unfolding reach_verdict
built_refuses_none {rs} {nodes} {pool} t h k =
    let f = finds t h k in
    let way = comes t f.0.leads h f.1 in
    then_fine _ k ∙ then_fine _ (ap walk_verdict way) ∙
    ap (λ (v : Walk). leaf_verdict rs nodes pool (leaf_of v)) way ∙
    leaf_fine rs nodes pool f.0.at (leaf_of_lem t f.0.leads)

module _ (rs nodes pool : List ℕ) (ok : check_verdict rs nodes pool ≡ Fine) where
  -- by an accepted tree no legal header is refused
  pub refuses_none : (h : List ℕ) → Legal h → reach_verdict rs nodes pool h ≡ Fine
  refuses_none h k = built_refuses_none (formed (accepted rs nodes pool ok).2) h k

  -- every legal header gets the line search's list
  pub same_list : (h : List ℕ) → Legal h → tree_list rs nodes pool h ≡ matching rs h
  same_list h k = agrees_of_complete (formed (accepted rs nodes pool ok).2) refl h k

  -- the tree search for all matches refuses any header as the line search does, for any room
  pub same_verdict : (h : List ℕ) (room : ℕ) → tree_all_verdict rs nodes pool h room ≡ all_verdict rs h room
  unfolding tree_all_verdict all_verdict reach_verdict
  same_verdict h room = go (header_verdict h) refl
    where
      list : list_verdict rs ≡ Fine
      list = (accepted rs nodes pool ok).2.list

      go : (v : Verdict) → header_verdict h ≡ v → tree_all_verdict rs nodes pool h room ≡ all_verdict rs h room
      go Fine k =
          then_fine _ (refuses_none h k) ∙ ap (λ (ms : List ℕ). room_verdict (length ms) room) (same_list h k) ∙
          sym (then_fine _ list ∙ then_fine _ k)
      go (Refused why) k = then_refused _ (then_refused _ k) ∙ sym (then_fine _ list ∙ then_refused _ k)

  -- it leaves in any lent words what the line search leaves
  pub same_words :
      (h found : List ℕ) {r : Result Listed Refusal} {s : Result ℕ Refusal} {v u : List ℕ} → TreeAllSearched rs nodes pool h found r v →
      LineAllSearched rs h found s u → v ≡ u
  unfolding all_verdict
  same_words h found {v = v} {u = u} p q = go (header_verdict h) refl
    where
      same : tree_all_verdict rs nodes pool h (length found) ≡ all_verdict rs h (length found)
      same = same_verdict h (length found)

      go : (x : Verdict) → header_verdict h ≡ x → v ≡ u
      go Fine k = p.leaves ∙ rw (same, same_list h k) (sym q.leaves)
      go (Refused why) k =
          let line = then_fine _ (accepted rs nodes pool ok).2.list ∙ then_refused _ k in
          left_found p (same ∙ line) ∙ sym (left_found q line)

  -- of any header the search for the first match refuses or finds what the line search does
  pub same_first :
      (h : List ℕ) →
      (reach_verdict rs nodes pool h giving first_of rs (tree_list rs nodes pool h)) ≡
      ((list_verdict rs then header_verdict h) giving first_of rs (matching rs h))
  unfolding reach_verdict
  same_first h = go (header_verdict h) refl
    where
      list : list_verdict rs ≡ Fine
      list = (accepted rs nodes pool ok).2.list

      go :
          (x : Verdict) → header_verdict h ≡ x →
          (reach_verdict rs nodes pool h giving first_of rs (tree_list rs nodes pool h)) ≡
          ((list_verdict rs then header_verdict h) giving first_of rs (matching rs h))
      go Fine k =
          giving_fine _ (refuses_none h k) ∙ ap (λ (ms : List ℕ). success (first_of rs ms)) (same_list h k) ∙
          sym (giving_fine _ (then_fine _ list ∙ k))
      go (Refused why) k = giving_refused _ (then_refused _ k) ∙ sym (giving_refused _ (then_fine _ list ∙ k))
