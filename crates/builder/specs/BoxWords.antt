-- Boxes in lent words: for each field of each box its low and its high. Definitions only.
--   box_words            the words of a box
--   box_count ws         the number of whole boxes
--   box_word ws r f j    an end of box r in field f: 0 is the low, 1 the high
--   box_at ws r          box r
--   boxes_in ws          all boxes; words past the last whole box are no box
--   met_by ws b r        box r meets box b
--   BoxesFilled rs ws    the words begin with the boxes of the rules of a list, from rule 0 on
use Rattle.std.specs.Prelude.{ℕ, ◌+◌, ◌*◌, ◌/◌, Bool, ◌≡◌, List, [], ◌∷◌, map, length, get_or, take}
use Rattle.facts.specs.Lists.{up_from}
use Rattle.fields.specs.Words.{field_count}
use Rattle.fields.specs.Boxes.{meets}
use Rattle.rules.specs.Words.{rule_count}
use Rattle.built.specs.Boxes.{box_of, boxes_of}

abbrev pub box_words : ℕ
box_words = field_count * 2

abbrev pub box_count : List ℕ → ℕ
box_count ws = length ws / box_words

abbrev pub box_word : List ℕ → ℕ → ℕ → ℕ → ℕ
box_word ws r f j = get_or ws (r * box_words + f * 2 + j) 0

unfoldable pub box_at : List ℕ → ℕ → List (List ℕ)
box_at ws r = map (λ f. box_word ws r f 0 ∷ box_word ws r f 1 ∷ []) (up_from 0 field_count)

unfoldable pub boxes_in : List ℕ → List (List (List ℕ))
boxes_in ws = map (box_at ws) (up_from 0 (box_count ws))

unfoldable pub met_by : List ℕ → List (List ℕ) → ℕ → Bool
met_by ws b r = meets field_count (box_of (boxes_in ws) r) b

pub record BoxesFilled (rs ws : List ℕ) : Type 0 where
  pub boxes : boxes_in (take (rule_count rs * box_words) ws) ≡ boxes_of rs
