-- What the searches by an accepted tree answer, in the types of the calls and under their promises. Definitions only.
--   AllFound rs h found P r after    r says how many rules match, `after` has their numbers in front and the rest of
--                                    `found` behind, and P holds of the nodes visited and the entries compared
--   AllGives rs nodes pool h P       with room for the matches, the search for all matches of header h answers so
--   first_answer rs ms v k           the answer for the first of the numbers ms, with its action, or for none
--   FirstFound, FirstGives           the same for the search for the first match
--   Answering rs nodes pool c l      what an accepted tree with the figures c and l answers
use Rattle.trees.specs.declared.search.Listed.{Listed}
use Rattle.trees.specs.declared.search.First.{First}
use Rattle.trees.specs.Answers.{Found, NoRule, Rule}
use Rattle.refusals.specs.declared.Refusal.{Refusal}
use Rattle.std.specs.Prelude.{ℕ, ◌+◌, ◌≤◌, ◌≡◌, List, [], ◌∷◌, length, Result}
use Rattle.facts.specs.Lists.{written}
use Rattle.fields.specs.Headers.{Legal}
use Rattle.rules.specs.Words.{action_of}
use Rattle.rules.specs.Matching.{matching}
use Rattle.trees.specs.TreeAll.{TreeAllSearched}
use Rattle.trees.specs.TreeFirst.{TreeFirstSearched}

pub record AllFound (rs h found : List ℕ) (P : ℕ → ℕ → Type 0) (r : Result Listed Refusal) (after : List ℕ) : Type 0 where
  pub visited : ℕ
  pub compared : ℕ
  pub answers : r ≡ Found (length (matching rs h)) visited compared
  pub leaves : after ≡ written (matching rs h) found
  pub counts : P visited compared

abbrev pub AllGives : List ℕ → List ℕ → List ℕ → List ℕ → (ℕ → ℕ → Type 0) → Type 0
AllGives rs nodes pool h P =
    (found : List ℕ) → length (matching rs h) ≤ length found → (r : Result Listed Refusal) (after : List ℕ) →
    TreeAllSearched rs nodes pool h found r after → AllFound rs h found P r after

abbrev pub first_answer : List ℕ → List ℕ → ℕ → ℕ → Result First Refusal
first_answer rs [] v k = NoRule v k
first_answer rs (r ∷ rest) v k = Rule r (action_of rs r) v k

pub record FirstFound (rs h : List ℕ) (P : ℕ → ℕ → Type 0) (r : Result First Refusal) : Type 0 where
  pub visited : ℕ
  pub compared : ℕ
  pub answers : r ≡ first_answer rs (matching rs h) visited compared
  pub counts : P visited compared

abbrev pub FirstGives : List ℕ → List ℕ → List ℕ → List ℕ → (ℕ → ℕ → Type 0) → Type 0
FirstGives rs nodes pool h P = (r : Result First Refusal) → TreeFirstSearched rs nodes pool h r → FirstFound rs h P r

pub record Answering (rs nodes pool : List ℕ) (c l : ℕ) : Type 0 where
  -- all-match of a legal header finds the matches, visits at most c + 1 nodes and compares at most l entries
  pub all : (h : List ℕ) → Legal h → AllGives rs nodes pool h (λ v k. (v ≤ c + 1) × (k ≤ l))
  -- first-match of a legal header finds the lowest match, or none, within the same bounds
  pub first : (h : List ℕ) → Legal h → FirstGives rs nodes pool h (λ v k. (v ≤ c + 1) × (k ≤ l))
  -- all-match of some legal header visits c + 1 nodes
  pub visits_met : (h : List ℕ) × Legal h × AllGives rs nodes pool h (λ v k. v ≡ c + 1)
  -- all-match of some legal header compares l entries
  pub compared_met : (h : List ℕ) × Legal h × AllGives rs nodes pool h (λ v k. k ≡ l)
