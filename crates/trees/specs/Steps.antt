-- What the steps of the tree search ask for and answer, in the code's types. Definitions only.
--   WordRead nodes i j w     w is word j of node i, and a word of 32 bits
--   walked w                 where the walk w ends
--   AtLeaf, Reaches          what is refused on the way to the leaf, or the leaf's words and the nodes visited
--   LeafJudged               the same at a leaf that the walk has come to
--   Comparable rs h l        the header has its words, and each entry of l names a rule
--   LeafListed               the entries of l that match are listed, if there is room for them
--   LeafFirst                what the search for the first match says of the entries l
use Rattle.trees.specs.declared.walk.Walked.{Walked}
use Rattle.trees.specs.declared.search.Reached.{Reached}
use Rattle.trees.specs.declared.search.Listed.{Listed}
use Rattle.trees.specs.declared.search.First.{First}
use Rattle.trees.specs.Answers.{Came, ComesTo, Lost}
use Rattle.std.specs.Prelude.{ℕ, ◌+◌, ◌<◌, ◌^◌, true, ◌≡◌, List, [], ◌∷◌, length, Err, Result}
use Rattle.facts.specs.Lists.{keep, all_under}
use Rattle.refusals.specs.declared.Refusal.{Refusal}
use Rattle.refusals.specs.Verdict as verdict
use Rattle.refusals.specs.Paper.{success}
use Rattle.refusals.specs.Order.{room_verdict}
use Rattle.refusals.specs.Promises.{Writes}
use Rattle.fields.specs.Words.{field_count}
use Rattle.rules.specs.Words.{rule_count}
use Rattle.rules.specs.Matching.{matches}
use Rattle.rules.specs.LineFirst.{first_of}
use Rattle.trees.specs.Words.{node_word, start_of, count_of}
use Rattle.trees.specs.Walk.{Walk, lost, came, walk_of, leaf_of, visited}
use Rattle.trees.specs.Search.{leaf_verdict, reach_verdict, looked_at}
use Rattle.trees.specs.TreeAll as all
use Rattle.trees.specs.TreeFirst as first

pub record WordRead (nodes : List ℕ) (i j w : ℕ) : Type 0 where
  pub is : w ≡ node_word nodes i j
  pub small : w < 2 ^ 32

abbrev pub walked : Walk → Result Walked Refusal
walked (lost i) = Lost i
walked (came cuts leaf) = Came leaf (length cuts + 1)

pub record AtLeaf (nodes : List ℕ) (leaf start count : ℕ) : Type 0 where
  pub start_is : start ≡ start_of nodes leaf
  pub count_is : count ≡ count_of nodes leaf

pub data LeafJudged (rs nodes pool : List ℕ) (leaf seen : ℕ) : Result Reached Refusal → Type 0 where
  refuses :
      {why : Refusal} → leaf_verdict rs nodes pool leaf ≡ verdict.Refused why →
      LeafJudged rs nodes pool leaf seen (Err why)
  holds :
      {start count n : ℕ} → leaf_verdict rs nodes pool leaf ≡ verdict.Fine → AtLeaf nodes leaf start count → n ≡ seen →
      LeafJudged rs nodes pool leaf seen (ComesTo start count n)

pub data Reaches (rs nodes pool h : List ℕ) : Result Reached Refusal → Type 0 where
  refuses : {why : Refusal} → reach_verdict rs nodes pool h ≡ verdict.Refused why → Reaches rs nodes pool h (Err why)
  comes :
      {start count n : ℕ} → reach_verdict rs nodes pool h ≡ verdict.Fine →
      AtLeaf nodes (leaf_of (walk_of nodes h)) start count → n ≡ visited (walk_of nodes h) →
      Reaches rs nodes pool h (ComesTo start count n)

pub record Comparable (rs h l : List ℕ) : Type 0 where
  pub five : length h ≡ field_count
  pub known : all_under (rule_count rs) l ≡ true

abbrev pub LeafListed : List ℕ → List ℕ → List ℕ → ℕ → List ℕ → Result Listed Refusal → List ℕ → Type 0
LeafListed rs h l seen before r after =
    Writes all.paper (room_verdict (length (keep (matches rs h) l)) (length before))
    (seen ∷ length l ∷ length (keep (matches rs h) l) ∷ []) (keep (matches rs h) l) before r after

pub record LeafFirst (rs h l : List ℕ) (seen : ℕ) (r : Result First Refusal) : Type 0 where
  pub is :
      first.paper r ≡ success (seen ∷ length (looked_at (matches rs h) l) ∷ first_of rs (keep (matches rs h) l))
