-- One rule in a file of a kind: the numbers of its line and its words give each other back. A line of `rules` has no
-- action, and that is action 0.
use Prim.Native.Nat.{ℕ, ◌^◌, ◌<◌}
use native.Mathlib.Omega.{arith}
use mathlib.Core.Bool.{true}
use mathlib.Core.List.{List, [], ◌∷◌, ◌++◌}
use mathlib.Core.Path.{◌≡◌, refl, sym, ap, subst, ◌∙◌}
use lib.ListN.{length, get_or, take, get_or-eq_default}
use Rattle.facts.specs.Lists.{tabulate}
use Rattle.facts.proofs.Setting.{cells}
use Rattle.text.specs.Words.{rule_marks, acl_marks}
use Rattle.text.specs.Line.{EachUnder}
use Rattle.text.specs.Cursors.{padded}
use Rattle.text.specs.Addresses.{octets_of}
use Rattle.text.proofs.Addresses.{octets_of_fit, octets_back, octets_exact}
use Rattle.text.proofs.Below.{below_at}
use Rattle.rules.specs.Words.{rule_words, largest_action}
use Rattle.rules.specs.Good as rules
use Rattle.rules.proofs.Actions.{good_to_iff}
use Rattle.rule_file.specs.declared.kind.Kind.{Kind}
use Rattle.rule_file.specs.declared.kind.Kind.TheVariants.{Rules, Acl}
use Rattle.rule_file.specs.Records.{source_fits, destination_fits, source_of}
use Rattle.rule_file.specs.Records.{rule_of, rule_values, rule_fits}
use Rattle.rule_file.specs.Kinds.{marks_of, most_action}
use Rattle.rule_file.specs.RuleText.{values_of}
use Rattle.rule_file.proofs.Records.{Tested, passes}

-- a line has as many numbers as separators
pub values_count : (k : Kind) (i : ℕ) (r : List ℕ) → length (values_of k i r) ≡ length (marks_of k)
unfolding rule_values
values_count Rules i r = refl
values_count Acl i r = refl

-- ---- an answer that the numbers do not fill

-- filled up with 0, the numbers v are those of the same rule
abbrev Same : ℕ → List ℕ → Type 0
Same i v = (rule_fits i (padded v) ≡ rule_fits i v) × (rule_of (padded v) ≡ rule_of v)

-- the numbers of a line are, so that a line without an action has action 0
pub padded_same : (k : Kind) (i : ℕ) (v : List ℕ) → length v ≡ length (marks_of k) → Same i v
unfolding rule_fits rule_of tabulate
padded_same Rules i v l = subst (Same i) (sym (cells (length rule_marks) v l)) (refl, refl)
padded_same Acl i v l = subst (Same i) (sym (cells (length acl_marks) v l)) (refl, refl)

-- ---- from the numbers to the words and back

abbrev source_in : List ℕ → List ℕ
source_in v = get_or v 1 0 ∷ get_or v 2 0 ∷ get_or v 3 0 ∷ get_or v 4 0 ∷ []

abbrev destination_in : List ℕ → List ℕ
destination_in v = get_or v 6 0 ∷ get_or v 7 0 ∷ get_or v 8 0 ∷ get_or v 9 0 ∷ []

-- the numbers of a line v, but with the number n and the octets a and b
abbrev numbered : List ℕ → ℕ → List ℕ → List ℕ → List ℕ
numbered v n a b =
    (n ∷ a) ++
    ((get_or v 5 0 ∷ b) ++
    (get_or v 10 0 ∷ get_or v 11 0 ∷ get_or v 12 0 ∷ get_or v 13 0 ∷ get_or v 14 0 ∷ get_or v 15 0 ∷ get_or v 16 0 ∷ get_or v 17 0 ∷
    []))

numbers_own :
    (k : Kind) (v : List ℕ) → length v ≡ length (marks_of k) →
    v ≡ take (length (marks_of k)) (numbered v (get_or v 0 0) (source_in v) (destination_in v))
unfolding tabulate
numbers_own Rules v l = cells (length rule_marks) v l
numbers_own Acl v l = cells (length acl_marks) v l

-- the numbers of a line that pass the test are those of the rule that they give
pub values_exact :
    (k : Kind) (i : ℕ) (v : List ℕ) → length v ≡ length (marks_of k) → Tested i v → v ≡ values_of k i (rule_of v)
unfolding rule_values rule_of
values_exact k i v l t =
    let source = octets_exact (get_or v 1 0) (get_or v 2 0) (get_or v 3 0) (get_or v 4 0) t.source in
    let destination = octets_exact (get_or v 6 0) (get_or v 7 0) (get_or v 8 0) (get_or v 9 0) t.destination in
    numbers_own k v l ∙
    ap (take (length (marks_of k)))
    (ap (λ (n : ℕ). numbered v n (source_in v) (destination_in v)) t.number ∙
    ap (λ (x : List ℕ). numbered v i x (destination_in v)) (sym source) ∙
    ap (λ (x : List ℕ). numbered v i (octets_of (source_of v)) x) (sym destination))

-- the rule that they give has an action that a file of the kind can say
pub test_holds :
    (k : Kind) (i : ℕ) (v : List ℕ) → length v ≡ length (marks_of k) → Tested i v →
    rules.good_to (most_action k) (rule_of v) 0 ≡ true
unfolding rule_of
test_holds Acl i v l t = t.rule
test_holds Rules i v l t =
    let none : get_or v 17 0 ≡ 0 = get_or-eq_default v 0 (omega arith) in
    (good_to_iff 0 (rule_of v) 0).1 (((good_to_iff largest_action (rule_of v) 0).0 t.rule).0, omega arith)

-- ---- from the words to the numbers and back

-- a rule whose action a file of the kind can say is good
pub good_of_kind : (k : Kind) (rs : List ℕ) (r : ℕ) → rules.good_to (most_action k) rs r ≡ true → rules.good rs r ≡ true
good_of_kind Acl rs r g = g
good_of_kind Rules rs r g =
    let t = (good_to_iff 0 rs r).0 g in (good_to_iff largest_action rs r).1 (t.0, omega (arith, t.1))

module _ (i : ℕ) (r : List ℕ) (l : length r ≡ rule_words) (b : EachUnder (2 ^ 32) r) where
  source_small : get_or r 0 0 < 2 ^ 32
  source_small = below_at (2 ^ 32) r 0 (omega arith) b

  destination_small : get_or r 2 0 < 2 ^ 32
  destination_small = below_at (2 ^ 32) r 2 (omega arith) b

  -- the words that the numbers of a rule's line give are the rule's, where a file of the kind can say its action
  pub rule_back : (k : Kind) → rules.good_to (most_action k) r 0 ≡ true → rule_of (values_of k i r) ≡ r
  unfolding rule_values rule_of tabulate
  rule_back Acl g =
      rw (octets_back (get_or r 0 0) source_small, octets_back (get_or r 2 0) destination_small) (sym (cells rule_words r l))
  rule_back Rules g =
      let source = octets_back (get_or r 0 0) source_small in
      let destination = octets_back (get_or r 2 0) destination_small in
      let whole = cells rule_words r l in
      let action = ((good_to_iff 0 r 0).0 g).1 in
      let none : get_or r 10 0 ≡ 0 = omega arith in
      cc

  -- the number of its line and the octets of its addresses pass the test
  front_fits : (i ≡ i) × (source_fits (rule_values i r) ≡ true) × (destination_fits (rule_values i r) ≡ true)
  unfolding rule_values
  front_fits =
      (refl, octets_of_fit (get_or r 0 0) source_small, octets_of_fit (get_or r 2 0) destination_small)

  front_of :
      (k : Kind) →
      let v = values_of k i r in (get_or v 0 0 ≡ i) × (source_fits v ≡ true) × (destination_fits v ≡ true)
  unfolding rule_values
  front_of Rules = front_fits
  front_of Acl = front_fits

  -- the numbers of such a rule's line pass the test
  pub test_back : (k : Kind) → rules.good_to (most_action k) r 0 ≡ true → rule_fits i (values_of k i r) ≡ true
  test_back k g =
      let front = front_of k in
      passes i (values_of k i r)
      (record {
        number = front.0;
        source = front.1;
        destination = front.2;
        rule = ap (λ (x : List ℕ). rules.good x 0) (rule_back k g) ∙ good_of_kind k r 0 g;
      })
