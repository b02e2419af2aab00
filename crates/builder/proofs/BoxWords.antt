-- Boxes in lent words: how many there are, where the ends of each stand, and what it is to meet one.
use Prim.Native.Nat.{ℕ, ◌<◌}
use mathlib.Core.Path.{◌≡◌, ap, ◌∙◌}
use mathlib.Core.List.{List, [], ◌∷◌}
use lib.ListN.{length, get_or}
use Rattle.facts.specs.Below.{all_below}
use Rattle.facts.proofs.Below.{all_below_same}
use Rattle.facts.proofs.Counted.{length_map_up, get_or_map_up}
use Rattle.fields.specs.Words.{field_count}
use Rattle.fields.specs.Ranges.{ranges_meet}
use Rattle.fields.specs.Boxes.{low_of, high_of, meets}
use Rattle.built.specs.Boxes.{box_of}
use Rattle.builder.specs.BoxWords.{box_count, box_word, box_at, boxes_in, met_by}

-- the two words of box r in field f
abbrev pub side_words : List ℕ → ℕ → ℕ → List ℕ
side_words ws r f = box_word ws r f 0 ∷ box_word ws r f 1 ∷ []

module _ (ws : List ℕ) (r : ℕ) where
  -- the box at r has each field
  pub box_at_size : length (box_at ws r) ≡ field_count
  unfolding box_at
  box_at_size = length_map_up (side_words ws r) field_count

  -- the box at r has in field f the two words that stand there
  pub box_at_ends : (f : ℕ) → f < field_count → get_or (box_at ws r) f [] ≡ side_words ws r f
  unfolding box_at
  box_at_ends f k = get_or_map_up (side_words ws r) field_count f [] k

module _ (ws : List ℕ) where
  -- there are as many boxes as the words hold whole ones
  pub box_count_lem : length (boxes_in ws) ≡ box_count ws
  unfolding boxes_in
  box_count_lem = length_map_up (box_at ws) (box_count ws)

  module _ (r : ℕ) (l : r < box_count ws) where
    -- box r is the box at r
    pub box_there : box_of (boxes_in ws) r ≡ box_at ws r
    unfolding boxes_in
    box_there = get_or_map_up (box_at ws) (box_count ws) r [] l

    ends_there : (f : ℕ) → f < field_count → get_or (box_of (boxes_in ws) r) f [] ≡ side_words ws r f
    ends_there f k = ap (λ (b : List (List ℕ)). get_or b f []) box_there ∙ box_at_ends ws r f k

    -- the low of box r in field f is its first word there
    pub low_there : (f : ℕ) → f < field_count → low_of (box_of (boxes_in ws) r) f ≡ box_word ws r f 0
    low_there f k = ap (λ (e : List ℕ). get_or e 0 0) (ends_there f k)

    -- the high of box r in field f is its second word there
    pub high_there : (f : ℕ) → f < field_count → high_of (box_of (boxes_in ws) r) f ≡ box_word ws r f 1
    high_there f k = ap (λ (e : List ℕ). get_or e 1 0) (ends_there f k)

    -- box r meets a box exactly where its words meet the ends of that box in each field
    pub words_meet :
        (b : List (List ℕ)) →
        all_below field_count (λ f. ranges_meet (box_word ws r f 0) (box_word ws r f 1) (low_of b f) (high_of b f)) ≡
        met_by ws b r
    unfolding meets met_by
    words_meet b = all_below_same field_count _ _ (λ f k. rw (low_there f k, high_there f k))
