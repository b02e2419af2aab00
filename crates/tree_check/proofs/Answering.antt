-- What the searches by an accepted tree answer: each answer that a promise allows is the one that is made here.
use Rattle.tree_check.specs.Said.{Accepted}
use Rattle.trees.specs.Answers.{Found}
use Prim.Native.Nat.{ℕ, ◌+◌, ◌≤◌}
use mathlib.Core.Path.{◌≡◌, refl, sym, ap, ◌∙◌}
use mathlib.Core.List.{List, [], ◌∷◌}
use lib.ListN.{length}
use Rattle.facts.specs.Lists.{written}
use Rattle.refusals.specs.Verdict.{Fine}
use Rattle.refusals.specs.Paper.{success}
use Rattle.refusals.proofs.Order.{then_fine, room_fine_iff}
use Rattle.refusals.proofs.Promises.{says_fine, says_unique, writes_fine, writes_unique}
use Rattle.fields.specs.Headers.{Legal}
use Rattle.rules.specs.Matching.{matches, matching}
use Rattle.rules.specs.LineFirst.{first_of}
use Rattle.trees.specs.Walk.{walk_of, visited}
use Rattle.trees.specs.Search.{leaf_list, looked_at}
use Rattle.trees.specs.TreeAll.{paper, tree_all_verdict, TreeAllSearched}
use Rattle.trees.specs.TreeFirst as first
use Rattle.trees.specs.TreeFirst.{TreeFirstSearched}
use Rattle.trees.proofs.Unique.{listed_apart, first_apart}
use Rattle.tree_check.specs.TreeCheck.{check_verdict, TreeChecked}
use Rattle.tree_check.specs.Answering.{AllGives, first_answer, FirstGives, Answering}
use Rattle.tree_check.proofs.Stages.{lack_decides}
use Rattle.tree_check.proofs.Figures.{compared_most}
use Rattle.tree_check.proofs.Searches.{refuses_none, same_list}
use Rattle.tree_check.proofs.Answers.{accepted_means, accepted_figures}

-- on paper the answer for the first of some numbers is the first of them
first_on_paper :
    (rs ms : List ℕ) (v k : ℕ) → first.paper (first_answer rs ms v k) ≡ success (v ∷ k ∷ first_of rs ms)
first_on_paper rs [] v k = refl
first_on_paper rs (r ∷ rest) v k = refl

module _ (rs nodes pool : List ℕ) (ok : check_verdict rs nodes pool ≡ Fine) (h : List ℕ) (legal : Legal h) where
  -- with room for the matches, this is an answer of the search for all matches
  all_answer :
      (found : List ℕ) → length (matching rs h) ≤ length found →
      TreeAllSearched rs nodes pool h found
      (Found (length (matching rs h)) (visited (walk_of nodes h)) (length (leaf_list nodes pool h)))
      (written (matching rs h) found)
  unfolding tree_all_verdict
  all_answer found enough =
      let same = same_list rs nodes pool ok h legal in
      let room = (room_fine_iff (length (matching rs h)) (length found)).1 enough in
      writes_fine (then_fine _ (refuses_none rs nodes pool ok h legal) ∙ rw same room)
      (ap (λ (ms : List ℕ). paper (Found (length ms) (visited (walk_of nodes h)) (length (leaf_list nodes pool h))))
      (sym same))
      (ap (λ (ms : List ℕ). written ms found) (sym same))

  -- this is an answer of the search for the first match
  first_answer_lem :
      TreeFirstSearched rs nodes pool h
      (first_answer rs (matching rs h) (visited (walk_of nodes h))
      (length (looked_at (matches rs h) (leaf_list nodes pool h))))
  first_answer_lem =
      says_fine (refuses_none rs nodes pool ok h legal)
      (rw (same_list rs nodes pool ok h legal) (first_on_paper rs (matching rs h) _ _))

  -- the search for all matches gives them, with what holds of its counts
  all_gives :
      (P : ℕ → ℕ → Type 0) → P (visited (walk_of nodes h)) (length (leaf_list nodes pool h)) → AllGives rs nodes pool h P
  all_gives P counts found enough r after s =
      let one = writes_unique listed_apart s (all_answer found enough) in
      record { visited = _; compared = _; answers = one.0; leaves = one.1; counts = counts }

  -- the search for the first match gives it, with what holds of its counts
  first_gives :
      (P : ℕ → ℕ → Type 0) →
      P (visited (walk_of nodes h)) (length (looked_at (matches rs h) (leaf_list nodes pool h))) →
      FirstGives rs nodes pool h P
  first_gives P counts r s =
      record {
        visited = _;
        compared = _;
        answers = says_unique first_apart s first_answer_lem;
        counts = counts;
      }

-- by an accepted tree a legal header gets its matches, and its first match, within the figures, and some header meets
-- each figure
pub accepted_answers :
    (rs nodes pool : List ℕ) {c l : ℕ} → TreeChecked rs nodes pool (Accepted c l) → Answering rs nodes pool c l
accepted_answers rs nodes pool {c} {l} p =
    let ok = lack_decides (accepted_means rs nodes pool p) in
    let figures = accepted_figures rs nodes pool p in
    let most = figures.visits_met in
    let longest = figures.entries_met in
    record {
      all = λ h k. all_gives rs nodes pool ok h k _ (figures.visits_most h k, figures.entries_most h k);
      first = λ h k.
          first_gives rs nodes pool ok h k _ (figures.visits_most h k, compared_most figures (matches rs h) h k);
      visits_met = (most.0, most.1, all_gives rs nodes pool ok most.0 most.1 (λ v k. v ≡ c + 1) most.2);
      compared_met =
          (longest.0, longest.1, all_gives rs nodes pool ok longest.0 longest.1 (λ v k. k ≡ l) longest.2);
    }
