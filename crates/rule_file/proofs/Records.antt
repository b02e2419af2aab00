-- One rule: the test that the numbers of its line pass, and how many numbers and words there are, and how large.
use Prim.Native.Nat.{ℕ, ◌^◌, ◌<◌}
use native.Mathlib.Omega.{arith}
use mathlib.Core.Bool.{Bool, true, ◌&&◌}
use mathlib.Core.List.{List, [], ◌∷◌, ◌++◌}
use mathlib.Core.Path.{◌≡◌, refl}
use lib.ListN.{length, get_or}
use lib.Dec.{eqb}
use borrow.Author.Tests.{eqb-true, eq-eqb}
use Rattle.facts.proofs.Bools.{both, join}
use Rattle.text.specs.Line.{EachUnder}
use Rattle.text.specs.Addresses.{octets_of}
use Rattle.text.proofs.Addresses.{address_below}
use Rattle.text.proofs.Below.{below_at, below_append}
use Rattle.rules.specs.Words.{rule_words}
use Rattle.rules.specs.Good as rules
use Rattle.rule_file.specs.Records.{source_fits, destination_fits, rule_of, rule_values, rule_fits}

-- the number of the line is i, the octets fit, and the rule is good
pub record Tested (i : ℕ) (v : List ℕ) : Type 0 where
  pub number : get_or v 0 0 ≡ i
  pub source : source_fits v ≡ true
  pub destination : destination_fits v ≡ true
  pub rule : rules.good (rule_of v) 0 ≡ true

-- numbers that pass the test have the rule's number, octets, and the words of a good rule
pub tested : (i : ℕ) (v : List ℕ) → rule_fits i v ≡ true → Tested i v
unfolding rule_fits
tested i v h =
    let a : Bool = eqb (get_or v 0 0) i in
    let h₁ = both (a && source_fits v && destination_fits v) (rules.good (rule_of v) 0) h in
    let h₂ = both (a && source_fits v) (destination_fits v) h₁.0 in
    let h₃ = both a (source_fits v) h₂.0 in
    record { number = eqb-true (get_or v 0 0) i h₃.0; source = h₃.1; destination = h₂.1; rule = h₁.1 }

-- numbers that have all this pass the test
pub passes : (i : ℕ) (v : List ℕ) → Tested i v → rule_fits i v ≡ true
unfolding rule_fits
passes i v t = join (join (join (eq-eqb (get_or v 0 0) i t.number) t.source) t.destination) t.rule

-- ---- the words and the numbers

-- the words of a rule are as many as it has
pub rule_length : (v : List ℕ) → length (rule_of v) ≡ rule_words
unfolding rule_of
rule_length v = refl

octets_below : (x : ℕ) → x < 2 ^ 32 → EachUnder (2 ^ 32) (octets_of x)
octets_below x l = (omega arith, (omega arith, (omega arith, (omega arith, tt))))

-- the numbers of a rule's line have 32 bits
pub values_below : (i : ℕ) (r : List ℕ) → i < 2 ^ 32 → EachUnder (2 ^ 32) r → EachUnder (2 ^ 32) (rule_values i r)
unfolding rule_values
values_below i r h b =
    let at : (k : ℕ) → get_or r k 0 < 2 ^ 32 = λ k. below_at (2 ^ 32) r k (omega arith) b in
    let s : ℕ = get_or r 0 0 in
    let d : ℕ = get_or r 2 0 in
    let ends : List ℕ =
    get_or r 3 0 ∷ get_or r 4 0 ∷ get_or r 5 0 ∷ get_or r 6 0 ∷ get_or r 7 0 ∷ get_or r 8 0 ∷ get_or r 9 0 ∷ get_or r 10 0 ∷ [] in
    let back : List ℕ = (get_or r 1 0 ∷ octets_of d) ++ ends in
    below_append (2 ^ 32) (i ∷ octets_of s) back (h, octets_below s (at 0))
    (below_append (2 ^ 32) (get_or r 1 0 ∷ octets_of d) ends (at 1, octets_below d (at 2))
    (at 3, (at 4, (at 5, (at 6, (at 7, (at 8, (at 9, (at 10, tt)))))))))

-- the words of a line whose numbers pass the test have 32 bits
pub rule_below : (i : ℕ) (v : List ℕ) → EachUnder (2 ^ 32) v → Tested i v → EachUnder (2 ^ 32) (rule_of v)
unfolding rule_of
rule_below i v b t =
    let at : (k : ℕ) → get_or v k 0 < 2 ^ 32 = λ k. below_at (2 ^ 32) v k (omega arith) b in
    let source = address_below (get_or v 1 0) (get_or v 2 0) (get_or v 3 0) (get_or v 4 0) t.source in
    let destination = address_below (get_or v 6 0) (get_or v 7 0) (get_or v 8 0) (get_or v 9 0) t.destination in
    (source, (at 5, (destination, (at 10, (at 11, (at 12, (at 13, (at 14, (at 15, (at 16, (at 17, tt)))))))))))
