-- The answers of the C functions: eight words. Definitions only.
--   eight            number (0 on success), place, extra, then the values, and 0 for what is not used
--   plainly          the values as they are
--   counts_last      those of a tree search for all matches: its two counts behind what it found
--   rule_in, action_in  a first match in two words: the rule's number + 1 and its action, or 0 and 0 where none matches
--   first_in_words   the values of a first match by a tree: the rule, its two counts, and the action
--   in_two_words     those of one by the list, which has no counts: 0 stands for each
--   InWords words paper P answer    the promise of every C function: the answer is, in eight words, an answer that the
--                    promise P of its Rattle call allows; there is one such answer
--   Tells words paper P Q      Q is the promise of a C function that writes nothing, P that of its Rattle call: what P
--                    allows Q allows in eight words, and two answers that Q allows are equal
--   TellsOne, TellsBoth        the same of one with one lent output, and with two, whose states are then equal too
use Rattle.std.specs.Prelude.{ℕ, ◌+◌, ◌≡◌, List, [], ◌∷◌, ◌++◌, get_or, take, drop, replicate}
use Rattle.refusals.specs.Paper.{Paper, refusal, success}
use Rattle.refusals.specs.Promises.{Fixes}

abbrev pub eight : Paper → List ℕ
eight (refusal number place extra) = number ∷ place ∷ extra ∷ replicate 5 0
eight (success values) = 0 ∷ 0 ∷ 0 ∷ take 5 (values ++ replicate 5 0)

abbrev pub plainly : List ℕ → List ℕ
plainly values = values

abbrev pub counts_last : List ℕ → List ℕ
counts_last values = drop 2 values ++ take 2 values

abbrev pub rule_in : List ℕ → ℕ
rule_in [] = 0
rule_in (rule ∷ rest) = rule + 1

abbrev pub action_in : List ℕ → ℕ
action_in match = get_or match 1 0

abbrev pub first_in_words : List ℕ → List ℕ
first_in_words values = rule_in (drop 2 values) ∷ take 2 values ++ (action_in (drop 2 values) ∷ [])

abbrev pub in_two_words : List ℕ → List ℕ
in_two_words values = first_in_words (0 ∷ 0 ∷ values)

abbrev pub as_eight : (List ℕ → List ℕ) → Paper → List ℕ
as_eight words (refusal number place extra) = eight (refusal number place extra)
as_eight words (success values) = eight (success (words values))

pub record InWords {R : Type 0} (words : List ℕ → List ℕ) (paper : R → Paper) (P : R → Type 0) (answer : List ℕ) :
    Type 0 where
  pub said : R
  pub promised : P said
  pub answers : answer ≡ as_eight words (paper said)

abbrev pub Tells : {R : Type 0} → (List ℕ → List ℕ) → (R → Paper) → (R → Type 0) → (List ℕ → Type 0) → Type 0
Tells {R} words paper P Q = ((r : R) → P r → Q (as_eight words (paper r))) × Fixes Q

abbrev pub TellsOne :
    {R : Type 0} → (List ℕ → List ℕ) → (R → Paper) → (R → List ℕ → Type 0) → (List ℕ → List ℕ → Type 0) → Type 0
TellsOne {R} words paper P Q =
    ((r : R) (v : List ℕ) → P r v → Q v (as_eight words (paper r))) ×
    ((v w answer other : List ℕ) → Q v answer → Q w other → (answer ≡ other) × (v ≡ w))

abbrev pub TellsBoth :
    {R : Type 0} → (List ℕ → List ℕ) → (R → Paper) → (R → List ℕ → List ℕ → Type 0) →
    (List ℕ → List ℕ → List ℕ → Type 0) → Type 0
TellsBoth {R} words paper P Q =
    ((r : R) (v x : List ℕ) → P r v x → Q v x (as_eight words (paper r))) ×
    ((v w x y answer other : List ℕ) → Q v x answer → Q w y other → (answer ≡ other) × (v ≡ w) × (x ≡ y))
