-- The list of the rule file is taken: what the reader of rules says, in words instead of rules.
use Rattle.std.specs.Prelude.{Err, Result, Ok}
use Rattle.rule_file.specs.declared.read.Rules.{Rules}
use Prim.Native.Nat.{ℕ, ◌*◌, ◌^◌, ◌≤◌}
use native.Mathlib.Omega.{arith}
use mathlib.Core.Path.{◌≡◌, refl, sym, ap, subst}
use mathlib.Core.List.{List, [], ◌∷◌}
use mathlib.Core.Option.{Option, none, some}
use lib.ListN.{length, take, drop, length-append}
use Rattle.facts.specs.Lists.{written}
use Rattle.facts.proofs.Setting.{written_front}
use Rattle.refusals.specs.declared.Refusal.{Refusal}
use Rattle.refusals.specs.declared.Refusal.TheVariants.{FileNotRead}
use Rattle.refusals.specs.Verdict as verdict
use Rattle.refusals.specs.Paper.{success}
use Rattle.refusals.proofs.Order.{refused_not_fine, room_fine_iff}
use Rattle.refusals.proofs.Promises.{refused_by, fine_by, said_by, writes_refused}
use Rattle.refusals.proofs.Promises.{writes_fine, left_found, left_written}
use Rattle.rules.specs.Words.{rule_words, rule_count}
use Rattle.rules.specs.Good.{list_verdict}
use Rattle.rules.proofs.Lists.{good_of_fine}
use Rattle.text.specs.Line.{EachUnder}
use Rattle.text.specs.Text.{Reading, good, refused}
use Rattle.rule_file.specs.declared.kind.Kind.{Kind}
use Rattle.rule_file.specs.Kinds.{kind_number, kind_of}
use Rattle.rule_file.specs.RuleText.{rules_in}
use Rattle.rule_file.specs.Reading.{words_in, read_verdict, RulesRead, HoldsRules}
use Rattle.rule_file.specs.Reading as reader
use Rattle.rule_file.proofs.RoundTrips.{good_of_read, below_of_read}
use Rattle.policy.specs.Files.{list_in}
use Rattle.policy.specs.TakeList.{ListTaken}

-- ---- what the reader said

-- the words of a text that reads well are as many for each rule
pub words_whole :
    (s : List ℕ) (a : Reading (List ℕ)) → rules_in s ≡ a → length (words_in a) ≡ rule_count (words_in a) * rule_words
words_whole s (refused why) e = refl
words_whole s (good ws) e = omega (arith, (good_of_fine ws (good_of_read s ws e)).whole)

module _ (s : List ℕ) {before after : List ℕ} {r : Result Rules Refusal} (t : RulesRead s before r after) where
  -- its refusal
  pub list_refused : {why : Refusal} → r ≡ Err why → ListTaken (some s) before (Err why) after
  unfolding list_in
  list_refused {why} e =
      let v : read_verdict (rules_in s) (length before) ≡ verdict.Refused why =
      refused_by (said_by t) (ap reader.paper e) in
      writes_refused v refl (left_found t v)

  module _ {n : ℕ} {k : Kind} (e : r ≡ HoldsRules n k) where
    says :
        (read_verdict (rules_in s) (length before) ≡ verdict.Fine) ×
        (n ∷ kind_number k ∷ [] ≡ rule_count (words_in (rules_in s)) ∷ kind_number (kind_of s) ∷ [])
    says = fine_by (said_by t) (ap reader.paper e)

    size : n * rule_words ≡ length (words_in (rules_in s))
    size =
        let count : n ≡ rule_count (words_in (rules_in s)) = (let z = says.1 in cc) in
        omega (arith, count, words_whole s (rules_in s) refl)

    -- its rules, each with its words
    pub list_found : ListTaken (some s) before (Ok (n * rule_words)) after
    unfolding list_in
    list_found = writes_fine says.0 (ap (λ (k : ℕ). success (k ∷ [])) size) (left_written t says.0)

    -- they stand within the lent words
    pub list_within : n * rule_words ≤ length before
    list_within = go (rules_in s) refl
      where
        go : (a : Reading (List ℕ)) → rules_in s ≡ a → n * rule_words ≤ length before
        go (refused why) q = refused_not_fine (rw q at says.0)
        go (good ws) q = omega (arith, rw q at size, (room_fine_iff (length ws) (length before)).0 (rw q at says.0))

-- a file that was not read
pub list_not_read : (before : List ℕ) → ListTaken none before (Err FileNotRead) before
unfolding list_in
list_not_read before = writes_refused {why = FileNotRead} refl refl refl

-- what is taken of a file goes by its text alone
pub list_by :
    (f g : Option (List ℕ)) {before after : List ℕ} {r : Result ℕ Refusal} → g ≡ f → ListTaken g before r after →
    ListTaken f before r after
list_by f g {before} {after} {r} e t = subst (λ (x : Option (List ℕ)). ListTaken x before r after) e t

-- ---- what was taken

-- a list that is taken is the list that the file holds, and stands in front of the lent words
pub taken_list :
    (f : Option (List ℕ)) {before after : List ℕ} {n : ℕ} → ListTaken f before (Ok n) after →
    (list_in f ≡ good (take n after)) × (n ≤ length after)
unfolding written
taken_list f {before} {after} {n} t = go (list_in f) refl
  where
    says : (read_verdict (list_in f) (length before) ≡ verdict.Fine) × (n ∷ [] ≡ length (words_in (list_in f)) ∷ [])
    says = fine_by (said_by t) refl

    go : (a : Reading (List ℕ)) → list_in f ≡ a → (a ≡ good (take n after)) × (n ≤ length after)
    go (refused why) e = refused_not_fine (rw e at says.0)
    go (good ws) e =
        let count : length ws ≡ n = (let z : n ∷ [] ≡ length ws ∷ [] = rw e at says.1 in cc) in
        let left : after ≡ written ws before = rw e at (left_written t says.0) in (
          rw left (ap good (sym (written_front ws before n count))),
          rw (left, length-append ws (drop (length ws) before)) (omega (arith, count)),
        )

-- so it is where the answer says so
pub list_taken :
    (f : Option (List ℕ)) {before after : List ℕ} {l : Result ℕ Refusal} {n : ℕ} → ListTaken f before l after → l ≡ Ok n →
    (list_in f ≡ good (take n after)) × (n ≤ length after)
list_taken f {before} {after} t e = taken_list f (subst (λ (x : Result ℕ Refusal). ListTaken f before x after) e t)

-- the list that a file holds is good
pub list_good : (f : Option (List ℕ)) {rs : List ℕ} → list_in f ≡ good rs → list_verdict rs ≡ verdict.Fine
unfolding list_in
list_good none e = let z : ◌≡◌ {A = ℕ} 0 1 = cc in absurd (omega arith)
list_good (some s) {rs} e = good_of_read s rs e

-- and its words are of 32 bits
pub list_below : (f : Option (List ℕ)) {rs : List ℕ} → list_in f ≡ good rs → EachUnder (2 ^ 32) rs
unfolding list_in
list_below none e = let z : ◌≡◌ {A = ℕ} 0 1 = cc in absurd (omega arith)
list_below (some s) {rs} e = below_of_read s rs e
