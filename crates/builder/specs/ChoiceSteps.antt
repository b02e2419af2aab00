-- The steps by which a node is chosen, as the code takes them. Definitions only.
--   ends_of low high      the high of a range, and its low less one; a low of 0 gives no such number
--   all_ends ws f met     the ends in field f of the boxes of a list, one box after another
--   most_values           the most cut values of a field: two for each rule
--   Stored before n new m after    new is stored from place n on, as far as there is room; m is the place behind it
--   Met ws met b          met has the boxes that meet box b, and they are no more than a list has rules
--   ValuesFound values f r    r has of the values of field f how many there are, and the middle one if there is any
--   ValuesSeen values f least r    r is so found; or it has none, and there are no more than `least`
--   HasMost count n f     of n fields f has the most, and is the lowest of those that have as many
--   more_of first next    the one with more values; the first where both have as many
--   MostFound values n r  r has the field with the most values of n, and is as found for it
use Rattle.std.specs.Prelude.{ℕ, ◌+◌, ◌-◌, ◌*◌, ◌/◌, ◌≤◌, ◌<◌, cond, ◌≡◌, List, [], ◌∷◌, ◌++◌, length, get_or, ltb, eqb}
use Rattle.std.proofs.lemmas.List.Edits.{sets}
use Rattle.fields.specs.Words.{field_count}
use Rattle.rules.specs.Words.{most_rules}
use Rattle.built.specs.Boxes.{meeting}
use Rattle.builder.specs.declared.choice.Values.{Values}
use Rattle.builder.specs.BoxWords.{box_word, boxes_in}

unfoldable pub ends_of : ℕ → ℕ → List ℕ
ends_of low high = high ∷ cond (eqb low 0) [] ((low - 1) ∷ [])

unfoldable pub all_ends : List ℕ → ℕ → List ℕ → List ℕ
all_ends ws f [] = []
all_ends ws f (r ∷ rs) = ends_of (box_word ws r f 0) (box_word ws r f 1) ++ all_ends ws f rs

abbrev pub most_values : ℕ
most_values = 2 * most_rules

pub record Stored (before : List ℕ) (n : ℕ) (new : List ℕ) (m : ℕ) (after : List ℕ) : Type 0 where
  pub counts : m ≡ n + length new
  pub stores : after ≡ sets before n new

pub record Met (ws met : List ℕ) (b : List (List ℕ)) : Type 0 where
  pub is : met ≡ meeting field_count (boxes_in ws) b
  pub few : length met ≤ most_rules

pub record ValuesFound (values : ℕ → List ℕ) (f : ℕ) (r : Values) : Type 0 where
  pub of_field : r.field ≡ f
  pub counts : r.count ≡ length (values f)
  pub halves : 0 < r.count → r.middle ≡ get_or (values f) (r.count / 2) 0

pub data ValuesSeen (values : ℕ → List ℕ) (f least : ℕ) (r : Values) : Type 0 where
  found : ValuesFound values f r → ValuesSeen values f least r
  few : r.field ≡ f → r.count ≡ 0 → length (values f) ≤ least → ValuesSeen values f least r

pub record HasMost (count : ℕ → ℕ) (n f : ℕ) : Type 0 where
  pub there : f < n
  pub none_more : (g : ℕ) → g < n → count g ≤ count f
  pub lower_fewer : (g : ℕ) → g < f → count g < count f

unfoldable pub more_of : Values → Values → Values
more_of first next = cond (ltb first.count next.count) next first

pub record MostFound (values : ℕ → List ℕ) (n : ℕ) (r : Values) : Type 0 where
  pub most : HasMost (λ f. length (values f)) n r.field
  pub found : ValuesFound values r.field r
