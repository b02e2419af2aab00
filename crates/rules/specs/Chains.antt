-- Chains of rules: how twins are looked for. Each rule has a slot, and the rules of a slot are chained, each to the one
-- before it. A place in a chain is a rule's number and 1 more, or 0 where the chain ends. Definitions only.
--   slots                      the number of slots
--   factors                    what each word of a rule but its action is multiplied by in its mix
--   dropped                    what a mix is divided by, so that its lowest 24 bits are dropped
--   mix_of w j                 the sum of the j words w 0, w 1, .. each times its factor
--   slot_of rs r               the slot of rule r
--   latest_in slot r s         the place of the latest rule before r whose slot is s; the slot of rule q is slot q
--   Chained rs slot before r   the rules before r are chained by the words `before`, and no two of them are twins
--   Latest slot latest r       the words `latest` have the place where the chain of each slot begins
--   SlotsAhead rs slot before r    the words `before` have the slot of each rule from r on
use Rattle.std.specs.Prelude.{ℕ, zero, suc, ◌+◌, ◌*◌, ◌/◌, ◌%◌, ◌≤◌, ◌<◌, false, cond, List, [], ◌∷◌, ◌≡◌, length, get_or, eqb}
use Rattle.rules.specs.Words.{match_words, most_rules, rule_count, word_of}
use Rattle.rules.specs.Twins.{same_words}

abbrev pub slots : ℕ
slots = 512

abbrev pub factors : List ℕ
factors =
    173068673 ∷ 265731749 ∷ 217751185 ∷ 70124201 ∷ 95462505 ∷ 247485163 ∷ 123291233 ∷ 226572091 ∷ 125563705 ∷
    253646873 ∷ []

abbrev pub dropped : ℕ
dropped = 16777216

unfoldable pub mix_of : (ℕ → ℕ) → ℕ → ℕ
mix_of w zero = 0
mix_of w (suc j) = mix_of w j + w j * get_or factors j 0

unfoldable pub slot_of : List ℕ → ℕ → ℕ
slot_of rs r = mix_of (word_of rs r) match_words / dropped % slots

unfoldable pub latest_in : (ℕ → ℕ) → ℕ → ℕ → ℕ
latest_in slot zero s = 0
latest_in slot (suc r) s = cond (eqb (slot r) s) (r + 1) (latest_in slot r s)

pub record Chained (rs : List ℕ) (slot : ℕ → ℕ) (before : List ℕ) (r : ℕ) : Type 0 where
  pub room : r ≤ length before
  pub links : (q : ℕ) → q < r → get_or before q 0 ≡ latest_in slot q (slot q)
  pub apart : (p q : ℕ) → p < q → q < r → same_words rs p q ≡ false

pub record Latest (slot : ℕ → ℕ) (latest : List ℕ) (r : ℕ) : Type 0 where
  pub room : length latest ≡ slots
  pub begins : (s : ℕ) → s < slots → get_or latest s 0 ≡ latest_in slot r s

pub record SlotsAhead (rs : List ℕ) (slot : ℕ → ℕ) (before : List ℕ) (r : ℕ) : Type 0 where
  pub room : length before ≡ most_rules
  pub slots_are : (q : ℕ) → r ≤ q → q < rule_count rs → get_or before q 0 ≡ slot q
