-- What the answers of the searches by an accepted tree mean: what is listed is what matches, the first is the lowest
-- match, and none means none.
use Rattle.trees.specs.Answers.{Found, NoRule, Rule}
use Prim.Native.Nat.{ℕ}
use mathlib.Core.Path.{◌≡◌, refl, sym, ap, ◌∙◌}
use mathlib.Core.List.{List, [], ◌∷◌}
use lib.ListN.{length}
use Rattle.facts.specs.Lists.{written}
use Rattle.refusals.specs.Verdict.{Fine}
use Rattle.refusals.proofs.Order.{then_fine_iff}
use Rattle.refusals.proofs.Promises.{said_by, fine_by, left_written}
use Rattle.fields.specs.Headers.{Legal}
use Rattle.rules.specs.Words.{rule_count}
use Rattle.rules.specs.Matching.{matching}
use Rattle.rules.specs.LineFirst.{first_of}
use Rattle.rules.specs.Found.{AllMatches, FirstMatch, NoMatch}
use Rattle.rules.proofs.Listing.{all_found, first_found, none_found}
use Rattle.trees.specs.Search.{reach_verdict, tree_list}
use Rattle.trees.specs.TreeAll.{tree_all_verdict, all_values, TreeAllSearched}
use Rattle.trees.specs.TreeFirst.{first_values, TreeFirstSearched}
use Rattle.tree_check.specs.Serves.{Serves}
use Rattle.tree_check.proofs.Accepts.{accepts_iff_serves}
use Rattle.tree_check.proofs.Searches.{same_list}

-- a header that is not refused is legal
legal_of_reach : (rs nodes pool h : List ℕ) → reach_verdict rs nodes pool h ≡ Fine → Legal h
unfolding reach_verdict
legal_of_reach rs nodes pool h e = ((then_fine_iff _ _).0 e).0

module _ (rs nodes pool : List ℕ) (s : Serves rs nodes pool) (h : List ℕ) where
  -- the entries that match are the list's
  same : reach_verdict rs nodes pool h ≡ Fine → tree_list rs nodes pool h ≡ matching rs h
  same e = same_list rs nodes pool ((accepts_iff_serves rs nodes pool).1 s) h (legal_of_reach rs nodes pool h e)

  -- by a tree that serves, all-match lists exactly the rules that match, rising
  pub tree_all_found :
      (before after : List ℕ) (n v k : ℕ) → TreeAllSearched rs nodes pool h before (Found n v k) after →
      AllMatches (rule_count rs) rs h n after
  unfolding matching tree_all_verdict
  tree_all_found before after n v k w =
      let f = fine_by (said_by w) refl in
      let e : v ∷ k ∷ n ∷ [] ≡ all_values rs nodes pool h = f.1 in
      let list = same ((then_fine_iff _ _).0 f.0).0 in
      let size : length (tree_list rs nodes pool h) ≡ n = cc in
      all_found rs h (rule_count rs) n before after (ap length (sym list) ∙ size)
      (left_written w f.0 ∙ ap (λ (ms : List ℕ). written ms before) list)

  -- what a first match says, it says of the list's matches
  first_said :
      {vs : List ℕ} {v k : ℕ} → (reach_verdict rs nodes pool h ≡ Fine) × (v ∷ k ∷ vs ≡ first_values rs nodes pool h) →
      vs ≡ first_of rs (matching rs h)
  first_said {vs} {v} {k} f =
      let e = f.1 in
      let list = same f.0 in
      let said : vs ≡ first_of rs (tree_list rs nodes pool h) = cc in
      said ∙ ap (first_of rs) list

  -- its first match is the lowest rule that matches, with its action
  pub tree_first_found :
      (n a v k : ℕ) → TreeFirstSearched rs nodes pool h (Rule n a v k) → FirstMatch (rule_count rs) rs h n a
  unfolding matching
  tree_first_found n a v k p = first_found rs h (rule_count rs) (matching rs h) refl (first_said (fine_by p refl))

  -- where it finds none, no rule matches
  pub tree_none_found : (v k : ℕ) → TreeFirstSearched rs nodes pool h (NoRule v k) → NoMatch (rule_count rs) rs h
  unfolding matching
  tree_none_found v k p = none_found rs h (rule_count rs) (matching rs h) refl (first_said (fine_by p refl))
