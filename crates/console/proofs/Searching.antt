-- What the search answers, by the list or by the tree, and the line that is made of it; and the line that says why a
-- rule misses.
use Rattle.trees.specs.declared.search.Listed.{Listed}
use Rattle.trees.specs.Answers.{Found}
use Rattle.std.specs.Prelude.{Err, Ok, Result}
use Prim.Native.Nat.{ℕ, ◌≤◌}
use native.Mathlib.Omega.{arith}
use mathlib.Core.Path.{◌≡◌, refl, ap, ◌∙◌}
use mathlib.Core.List.{List, [], ◌∷◌}
use lib.ListN.{length, take, drop, length-append}
use Rattle.facts.specs.Lists.{written}
use Rattle.facts.proofs.Setting.{written_front}
use Rattle.refusals.specs.declared.Refusal.{Refusal}
use Rattle.refusals.specs.Verdict.{Verdict}
use Rattle.refusals.specs.Verdict as verdict
use Rattle.refusals.specs.Paper.{success}
use Rattle.refusals.proofs.Promises.{refused_by, fine_by, said_by, writes_refused}
use Rattle.refusals.proofs.Promises.{writes_fine, left_found, left_written}
use Rattle.rules.specs.LineAll.{Lists}
use Rattle.rules.specs.Scan.{ScanAllSearched}
use Rattle.rules.specs.Matching.{first_miss}
use Rattle.rules.specs.RuleMisses.{miss_verdict, RuleCompared}
use Rattle.rules.specs.RuleMisses as miss
use Rattle.rules.specs.LineAll as line
use Rattle.trees.specs.TreeAll.{tree_all_verdict, TreeAllSearched}
use Rattle.trees.specs.TreeAll as tree
use Rattle.trees.specs.Search.{tree_list}
use Rattle.console.specs.Lines.{refused_line, hit_line}
use Rattle.console.specs.declared.judge.By.{By}
use Rattle.console.specs.declared.judge.By.TheVariants as by
use Rattle.console.specs.Replies.{answer_of}
use Rattle.console.specs.MissLines.{miss_line, line_or, miss_answer}
use Rattle.console.specs.Judged.{verdict_by, list_by}

-- ---- by the list or by the tree

-- the refusal of a list is what the search by it refuses
pub by_refused :
    (rs nodes pool h : List ℕ) {before : List ℕ} {b : Result By Refusal} {why : Refusal} → b ≡ Err why →
    Lists (verdict_by b rs nodes pool h (length before)) (list_by b rs nodes pool h) before (Err why) before
unfolding verdict_by list_by
by_refused rs nodes pool h e = rw e (writes_refused refl refl refl)

module _ (rs nodes pool h : List ℕ) {before after : List ℕ} {b : Result By Refusal} where
  -- the scan is the search by a good list
  pub by_list :
      {r : Result ℕ Refusal} → b ≡ Ok by.List → ScanAllSearched rs h before r after →
      Lists (verdict_by b rs nodes pool h (length before)) (list_by b rs nodes pool h) before r after
  unfolding verdict_by list_by
  by_list e p = rw e p

  -- a tree search that refuses is the search by the tree
  pub by_tree_refused :
      {r : Result Listed Refusal} {why : Refusal} → b ≡ Ok by.Tree → r ≡ Err why →
      TreeAllSearched rs nodes pool h before r after →
      Lists (verdict_by b rs nodes pool h (length before)) (list_by b rs nodes pool h) before (Err why) after
  unfolding verdict_by list_by
  by_tree_refused {why = why} e f p =
      let v : tree_all_verdict rs nodes pool h (length before) ≡ verdict.Refused why =
      refused_by (said_by p) (ap tree.paper f) in
      rw e (writes_refused v refl (left_found p v))

  -- so is one that finds numbers
  pub by_tree_found :
      {r : Result Listed Refusal} {n visited compared : ℕ} → b ≡ Ok by.Tree → r ≡ Found n visited compared →
      TreeAllSearched rs nodes pool h before r after →
      Lists (verdict_by b rs nodes pool h (length before)) (list_by b rs nodes pool h) before (Ok n) after
  unfolding verdict_by list_by
  by_tree_found {n = n} e f p =
      let v = fine_by (said_by p) (ap tree.paper f) in
      let count : n ≡ length (tree_list rs nodes pool h) = (let q = v.1 in cc) in
      rw e (writes_fine v.0 (ap (λ (k : ℕ). success (k ∷ [])) count) (left_written p v.0))

-- ---- the line that is made of it

module _ {v : Verdict} {ms before after : List ℕ} {r : Result ℕ Refusal} (p : Lists v ms before r after) where
  -- a refusal is answered as such
  pub found_refused : {why : Refusal} → r ≡ Err why → refused_line why ≡ answer_of v ms
  unfolding answer_of
  found_refused {why} f =
      let e : v ≡ verdict.Refused why = refused_by (said_by p) (ap line.paper f) in rw e

  module _ {n : ℕ} (f : r ≡ Ok n) where
    found_fine : (v ≡ verdict.Fine) × (n ∷ [] ≡ length ms ∷ [])
    found_fine = fine_by (said_by p) (ap line.paper f)

    found_count : length ms ≡ n
    found_count = let e = found_fine.1 in cc

    found_words : after ≡ written ms before
    found_words = left_written p found_fine.0

    -- as many numbers as are said are there
    pub found_fits : n ≤ length after
    unfolding written
    found_fits = rw (found_words, length-append ms (drop (length ms) before)) (omega (arith, found_count))

    -- the numbers in front are answered as a hit
    pub found_hit : hit_line (take n after) ≡ answer_of v ms
    unfolding answer_of
    found_hit = rw found_fine.0 (ap hit_line (ap (take n) found_words ∙ written_front ms before n found_count))

-- ---- why a rule misses

module _ (rs h : List ℕ) (n : ℕ) {r : Result ℕ Refusal} (p : RuleCompared rs h n r) where
  -- a refusal is answered as such
  pub miss_refused : {why : Refusal} → r ≡ Err why → refused_line why ≡ miss_answer rs n h
  unfolding miss_answer line_or
  miss_refused {why} f =
      let e : miss_verdict rs h n ≡ verdict.Refused why = refused_by p (ap miss.paper f) in rw e

  -- else the field is
  pub miss_found : {f : ℕ} → r ≡ Ok f → miss_line rs n f ≡ miss_answer rs n h
  unfolding miss_answer line_or
  miss_found {f} e =
      let v = fine_by p (ap miss.paper e) in
      let field : f ≡ first_miss rs h n = (let q = v.1 in cc) in
      rw (v.0, field)
