-- The way to the leaf: what the header, the walk and the leaf refuse, and the leaf's words where none does.
use Rattle.trees.specs.declared.search.Reached.{Reached}
use Rattle.trees.specs.declared.walk.Walked.{Walked}
use Rattle.trees.specs.Answers.{Came, ComesTo}
use Rattle.std.specs.Prelude.{Ok, Err, Result}
use Prim.Native.Nat.{ℕ, zero, suc, ◌+◌, ◌-◌, ◌≤◌, ◌<◌}
use native.Mathlib.Omega.{arith}
use mathlib.Core.Bool.{Bool, true, false}
use mathlib.Core.Path.{◌≡◌, refl, sym, ap, subst, ◌∙◌}
use mathlib.Core.List.{List}
use lib.ListN.{length, take, drop}
use borrow.Author.Tests.{le-leb, lt-leb}
use Rattle.facts.specs.Lists.{all_under}
use Rattle.facts.proofs.Bools.{held, failed}
use Rattle.refusals.specs.declared.Refusal.{Refusal}
use Rattle.refusals.specs.declared.Refusal.TheVariants.{NodeWrong, LeafWrong}
use Rattle.refusals.specs.Verdict.{Fine, Refused}
use Rattle.refusals.specs.Order.{refuse_unless}
use Rattle.refusals.proofs.Order.{holds_fine, fails_refused, then_fine, then_refused}
use Rattle.fields.specs.Headers.{header_verdict}
use Rattle.rules.specs.Words.{rule_count}
use Rattle.trees.specs.declared.walk.Step.{Step}
use Rattle.trees.specs.declared.walk.Step.TheVariants.{Wrong, Leaf, Next}
use Rattle.trees.specs.Words.{node_count, start_of, count_of, entries}
use Rattle.trees.specs.Walk.{Walk, lost, came, past, step_of, walk, walk_of, leaf_of, visited}
use Rattle.trees.specs.Search.{walk_verdict, leaf_verdict, reach_verdict}
use Rattle.trees.specs.Steps.{walked, AtLeaf, LeafJudged, Reaches}
use Rattle.trees.proofs.Spelling.{part_is_entries}
use Rattle.trees.proofs.Walking.{leaf_means}

-- ---- the leaf that the walk comes to

module _ (rs nodes pool : List ℕ) (leaf seen : ℕ) where
  module _ {s k : ℕ} (es : s ≡ start_of nodes leaf) (ek : k ≡ count_of nodes leaf) where
    -- entries past the pool's end are wrong
    pub leaf_past : length pool < s + k → LeafJudged rs nodes pool leaf seen (Err (LeafWrong leaf))
    unfolding leaf_verdict
    leaf_past l =
        LeafJudged.refuses
        (then_refused _
        (fails_refused _ (lt-leb (start_of nodes leaf + count_of nodes leaf) (length pool) (rw (es, ek) at l))))

    module _ (l : s + k ≤ length pool) {t : Bool}
        (et : t ≡ all_under (rule_count rs) (take (s + k - s) (drop s pool))) where
      -- what was found of these words is what holds of the leaf's entries
      same : t ≡ all_under (rule_count rs) (entries nodes pool leaf)
      same = et ∙ ap (all_under (rule_count rs)) (part_is_entries nodes pool leaf s k es ek)

      -- within the pool the entries decide
      decides :
          leaf_verdict rs nodes pool leaf ≡
          refuse_unless (all_under (rule_count rs) (entries nodes pool leaf)) (LeafWrong leaf)
      unfolding leaf_verdict
      decides =
          then_fine _
          (holds_fine _ (le-leb (start_of nodes leaf + count_of nodes leaf) (length pool) (rw (es, ek) at l)))

      -- an entry that names no rule is wrong
      pub leaf_unknown : t ≡ false → LeafJudged rs nodes pool leaf seen (Err (LeafWrong leaf))
      leaf_unknown n = LeafJudged.refuses (decides ∙ fails_refused _ (failed same n))

      -- where each entry names a rule these are the leaf's words
      pub leaf_known : t ≡ true → LeafJudged rs nodes pool leaf seen (ComesTo s k seen)
      leaf_known n =
          LeafJudged.holds (decides ∙ holds_fine _ (held same n)) (record { start_is = es; count_is = ek }) refl

-- ---- the walk

-- the leaf and the nodes visited, where the walk came to a leaf
abbrev leaf_in : Result Walked Refusal → ℕ
leaf_in (Err why) = 0
leaf_in (Ok end) = end.leaf

abbrev visited_in : Result Walked Refusal → ℕ
visited_in (Err why) = 0
visited_in (Ok end) = end.visited

-- a walk that ends at a leaf is not refused
clash_walked {ℓ} : {A : Type ℓ} {why : Refusal} {leaf n : ℕ} → Err why ≡ Came leaf n → A
clash_walked e = let z : ◌≡◌ {A = ℕ} 0 1 = cc in absurd (omega arith)

-- a walk that ends with a refusal is refused so
walked_refused : (w : Walk) {why : Refusal} → Err why ≡ walked w → walk_verdict w ≡ Refused why
walked_refused (lost i) {why} e = let q : NodeWrong i ≡ why = cc in ap Refused q
walked_refused (came cuts leaf) e = clash_walked e

-- a walk that ends at a leaf is fine, came there, and visited so many nodes
walked_came :
    (w : Walk) {leaf n : ℕ} → Came leaf n ≡ walked w → (walk_verdict w ≡ Fine) × (leaf_of w ≡ leaf) × (n ≡ visited w)
walked_came (lost j) e = clash_walked (sym e)
walked_came (came cuts x) e = (refl, sym (ap leaf_in e), ap visited_in e)

-- a walk past a cut that comes to a leaf comes there without the cut
past_came :
    (i : ℕ) (w : Walk) {leaf n : ℕ} → Came leaf n ≡ walked (past i w) →
    (m : ℕ) × (Came leaf m ≡ walked w)
past_came i (lost j) e = clash_walked (sym e)
past_came i (came cuts x) e = (length cuts + 1, ap (λ l. Came l (length cuts + 1)) (ap leaf_in e))

-- a walk comes to a node that is there
came_there :
    (k : ℕ) (nodes h : List ℕ) (i : ℕ) {leaf n : ℕ} → Came leaf n ≡ walked (walk k nodes h i) →
    leaf < node_count nodes
unfolding walk
came_there zero nodes h i e = clash_walked (sym e)
came_there (suc k) nodes h i {leaf} {n} e = go (step_of nodes h i) refl (λ j m r. came_there k nodes h j r)
  where
    Rest : Type 0
    Rest = (j m : ℕ) → Came leaf m ≡ walked (walk k nodes h j) → leaf < node_count nodes

    go : (t : Step) → step_of nodes h i ≡ t → Rest → leaf < node_count nodes
    go Wrong q r = clash_walked (sym (rw q at e))
    go Leaf q r =
        let z : Came leaf n ≡ Came i 1 = rw q at e in
        let y : leaf ≡ i = ap leaf_in z in
        rw y (leaf_means nodes h i q).0
    go (Next j) q r = let z = past_came i (walk k nodes h j) (rw q at e) in r j z.0 z.1

-- the walk from the root comes to a node that is there
pub leaf_there : (nodes h : List ℕ) {leaf n : ℕ} → Came leaf n ≡ walked (walk_of nodes h) → leaf < node_count nodes
unfolding walk_of
leaf_there nodes h e = came_there (node_count nodes) nodes h 0 e

-- ---- both searches, up to the leaf

module _ (rs nodes pool h : List ℕ) where
  -- a header that is refused is the refusal
  pub reach_header : {why : Refusal} → header_verdict h ≡ Refused why → Reaches rs nodes pool h (Err why)
  unfolding reach_verdict
  reach_header e = Reaches.refuses (then_refused _ e)

  module _ (legal : header_verdict h ≡ Fine) where
    -- where the walk is refused, that is the refusal
    pub reach_refused :
        {why : Refusal} → Err why ≡ walked (walk_of nodes h) → Reaches rs nodes pool h (Err why)
    unfolding reach_verdict
    reach_refused e = Reaches.refuses (then_fine _ legal ∙ then_refused _ (walked_refused (walk_of nodes h) e))

    -- where the walk comes to a leaf, that leaf decides
    pub reach_leaf :
        {leaf n : ℕ} {r : Result Reached Refusal} → Came leaf n ≡ walked (walk_of nodes h) → LeafJudged rs nodes pool leaf n r →
        Reaches rs nodes pool h r
    unfolding reach_verdict
    reach_leaf e (LeafJudged.refuses j) =
        let w = walked_came (walk_of nodes h) e in
        Reaches.refuses (then_fine _ legal ∙ then_fine _ w.0 ∙ ap (leaf_verdict rs nodes pool) w.1 ∙ j)
    reach_leaf e (LeafJudged.holds {start = s} {count = k} j a q) =
        let w = walked_came (walk_of nodes h) e in
        Reaches.comes (then_fine _ legal ∙ then_fine _ w.0 ∙ ap (leaf_verdict rs nodes pool) w.1 ∙ j)
        (subst (λ (x : ℕ). AtLeaf nodes x s k) (sym w.1) a) (q ∙ w.2)
