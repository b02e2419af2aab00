-- The forms of the fields: each names words of a rule that come before its action. So rules with the same words match
-- alike, whatever their actions, also where those of one are taken out of its list, and are alike good if their actions
-- are the same too.
use Prim.Native.Nat.{ℕ, ◌+◌, ◌-◌, ◌*◌, ◌<◌}
use native.Mathlib.Omega.{arith}
use mathlib.Core.Bool.{Bool, true, not, ◌&&◌}
use mathlib.Core.Path.{◌≡◌, refl, ap, ◌∙◌}
use mathlib.Core.List.{List}
use lib.ListN.{get_or, take, drop, length-drop}
use lib.Seq.{get_or-take, get_or-drop, length-take-le}
use lib.Dec.{ltb, eqb}
use borrow.Author.Tests.{ltb-true}
use Rattle.facts.specs.Below.{all_below}
use Rattle.facts.proofs.Bools.{both}
use Rattle.facts.proofs.Below.{all_below_at, all_below_same}
use Rattle.facts.proofs.Lowest.{lowest_same}
use Rattle.fields.specs.Words.{field_count}
use Rattle.fields.specs.Fields.{field_good, field_matches}
use Rattle.rules.specs.declared.words.Form.{Form}
use Rattle.rules.specs.declared.words.Form.TheVariants.{Prefix, Range, Ports}
use Rattle.rules.specs.Words.{rule_words, match_words, rule_count, word_of, form_of, field_of}
use Rattle.rules.specs.Good.{fields_good, good_to}
use Rattle.rules.specs.Matching.{agrees, first_miss, matches}

-- the words that a form names come before a rule's action
abbrev in_rule : Form → Bool
in_rule (Prefix address len) = ltb address match_words && ltb len match_words
in_rule (Range low high largest) = ltb low match_words && ltb high match_words
in_rule (Ports low high) = ltb low match_words && ltb high match_words

in_rule_lem : (f : ℕ) → f < field_count → in_rule (form_of f) ≡ true
unfolding all_below
in_rule_lem = all_below_at field_count _ refl

two_words : (j k : ℕ) → (ltb j match_words && ltb k match_words) ≡ true → (j < match_words) × (k < match_words)
two_words j k e =
    let t = both (ltb j match_words) (ltb k match_words) e in
    (ltb-true j match_words t.0, ltb-true k match_words t.1)

of_rule : {j k : ℕ} → (j < match_words) × (k < match_words) → (j < rule_words) × (k < rule_words)
of_rule t = (omega (arith, t.0), omega (arith, t.1))

-- a prefix names two words of a rule
pub prefix_words :
    {f j k : ℕ} → f < field_count → form_of f ≡ Prefix j k → (j < rule_words) × (k < rule_words)
prefix_words {f} l e = of_rule (two_words _ _ (rw e at (in_rule_lem f l)))

-- a range names two words of a rule
pub range_words :
    {f j k largest : ℕ} → f < field_count → form_of f ≡ Range j k largest → (j < rule_words) × (k < rule_words)
range_words {f} l e = of_rule (two_words _ _ (rw e at (in_rule_lem f l)))

-- a range of ports names two words of a rule
pub ports_words :
    {f j k : ℕ} → f < field_count → form_of f ≡ Ports j k → (j < rule_words) × (k < rule_words)
ports_words {f} l e = of_rule (two_words _ _ (rw e at (in_rule_lem f l)))

-- two rules that have the same words, their actions aside
module _ (a b : List ℕ) (i j : ℕ) (h : (k : ℕ) → k < match_words → word_of a i k ≡ word_of b j k) where
  same_field : (f : ℕ) → f < field_count → field_of (form_of f) a i ≡ field_of (form_of f) b j
  same_field f l = go (form_of f) (in_rule_lem f l)
    where
      go : (form : Form) → in_rule form ≡ true → field_of form a i ≡ field_of form b j
      go (Prefix address len) e = let t = two_words address len e in rw (h address t.0, h len t.1)
      go (Range low high largest) e = let t = two_words low high e in rw (h low t.0, h high t.1)
      go (Ports low high) e = let t = two_words low high e in rw (h low t.0, h high t.1)

  -- their fields are alike good
  fields_same : fields_good a i ≡ fields_good b j
  unfolding fields_good
  fields_same = all_below_same field_count _ _ (λ f l. ap field_good (same_field f l))

  -- the same field of theirs is the first to disagree with a header
  pub misses_same : (head : List ℕ) → first_miss a head i ≡ first_miss b head j
  unfolding first_miss agrees
  misses_same head =
      lowest_same field_count _ _ (λ f l. ap (λ x. not (field_matches x (get_or head f 0))) (same_field f l))

  -- so they match the same headers
  pub matches_same : (head : List ℕ) → matches a head i ≡ matches b head j
  unfolding matches
  matches_same head = ap (λ f. eqb f field_count) (misses_same head)

-- the words of one rule, taken out of its list from where they start to where they end
module _ (rs : List ℕ) (r : ℕ) (l : r < rule_count rs) where
  abbrev size : ℕ
  size = r * rule_words + rule_words - r * rule_words

  abbrev own : List ℕ
  own = take size (drop (r * rule_words) rs)

  -- there is a rule among them
  pub own_words_there : 0 < rule_count own
  own_words_there =
      let left = length-drop (r * rule_words) rs in
      omega (arith, l, length-take-le size (drop (r * rule_words) rs) (omega (arith, l, left)))

  -- the same field of it is the first to disagree with a header
  pub own_words_miss : (head : List ℕ) → first_miss own head 0 ≡ first_miss rs head r
  own_words_miss head = misses_same own rs 0 r word head
    where
      word : (k : ℕ) → k < match_words → word_of own 0 k ≡ word_of rs r k
      word k u =
          let e : 0 * rule_words + k ≡ k = omega arith in
          rw e (get_or-take size (drop (r * rule_words) rs) k 0 (omega arith) ∙ get_or-drop (r * rule_words) rs k 0)

-- two rules with the same words, word by word, are alike good
pub good_same :
    (most : ℕ) (a b : List ℕ) (i j : ℕ) → ((k : ℕ) → k < rule_words → word_of a i k ≡ word_of b j k) →
    good_to most a i ≡ good_to most b j
unfolding good_to
good_same most a b i j h = rw (fields_same a b i j (λ k l. h k (omega arith)), h match_words (omega arith))
