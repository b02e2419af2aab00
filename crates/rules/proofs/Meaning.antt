-- A rule means its box: a good rule matches exactly the headers inside its box, and the box is not empty.
use Prim.Native.Nat.{ℕ, ◌≤◌, ◌<◌}
use mathlib.Core.Bool.{true}
use mathlib.Core.Path.{◌≡◌}
use mathlib.Core.Logic.{◌↔◌}
use mathlib.Core.List.{List, []}
use lib.ListN.{get_or}
use Rattle.facts.specs.Below.{all_below}
use Rattle.facts.proofs.Below.{all_below_at, all_below_same}
use Rattle.facts.proofs.Tables.{get_or_map_in}
use Rattle.fields.specs.Words.{field_count}
use Rattle.fields.specs.Fields.{field_good, field_ends, field_meets}
use Rattle.fields.specs.Boxes.{low_of, high_of, Inside, Full, meets}
use Rattle.fields.proofs.Fields.{field_iff_between, field_not_empty}
use Rattle.rules.specs.declared.words.Form.TheVariants.{Prefix}
use Rattle.rules.specs.Words.{largest_action, forms, form_of, field_of}
use Rattle.rules.specs.Good.{fields_good, good}
use Rattle.rules.proofs.Actions.{good_to_iff}
use Rattle.rules.specs.Matching.{agrees, matches, rule_box}
use Rattle.rules.proofs.Misses.{matches_iff_agree}

module _ (rs : List ℕ) (r : ℕ) where
  -- the box in field f is that field's ends
  pub box_ends : (f : ℕ) → f < field_count → get_or (rule_box rs r) f [] ≡ field_ends (field_of (form_of f) rs r)
  unfolding rule_box
  box_ends f l = get_or_map_in (λ form. field_ends (field_of form rs r)) forms f (Prefix 0 0) [] l

  -- a rule's fields meet the pairs of a box exactly where its box meets that box
  pub fields_meet :
      (b : List (List ℕ)) →
      all_below field_count (λ f. field_meets (field_of (form_of f) rs r) (get_or b f [])) ≡ meets field_count (rule_box rs r) b
  unfolding meets
  fields_meet b = all_below_same field_count _ _ (λ f l. rw (box_ends f l))

  module _ (g : good rs r ≡ true) where
    -- each field of a good rule is good
    pub field_good_lem : (f : ℕ) → f < field_count → field_good (field_of (form_of f) rs r) ≡ true
    unfolding fields_good
    field_good_lem f l = all_below_at field_count _ ((good_to_iff largest_action rs r).0 g).0 f l

    field_iff :
        (h : List ℕ) (f : ℕ) → f < field_count →
        (agrees rs h r f ≡ true) ↔
        ((low_of (rule_box rs r) f ≤ get_or h f 0) × (get_or h f 0 ≤ high_of (rule_box rs r) f))
    unfolding agrees
    field_iff h f l = rw (box_ends f l) (field_iff_between (field_of (form_of f) rs r) (field_good_lem f l) (get_or h f 0))

    -- a good rule matches a header exactly where the header lies in its box
    pub matches_iff_inside : (h : List ℕ) → (matches rs h r ≡ true) ↔ Inside field_count (rule_box rs r) h
    matches_iff_inside h = (
      λ e f l. (field_iff h f l).0 ((matches_iff_agree rs h r).0 e f l),
      λ i. (matches_iff_agree rs h r).1 (λ f l. (field_iff h f l).1 (i f l)),
    )

    -- the box of a good rule is not empty
    pub rule_box_full : Full field_count (rule_box rs r)
    rule_box_full f l = rw (box_ends f l) (field_not_empty (field_of (form_of f) rs r) (field_good_lem f l))
