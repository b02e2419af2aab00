-- The ends of a field of a rule: the tests one by one, and that the ends of a good rule are those of its box.
use Prim.Native.Nat.{ℕ, ◌^◌, ◌≤◌, ◌<◌}
use mathlib.Core.Bool.{true, false}
use mathlib.Core.Path.{◌≡◌, sym, ◌∙◌}
use mathlib.Core.List.{List, [], ◌∷◌}
use lib.ListN.{get_or}
use borrow.Author.Tests.{lt-ltb, le-ltb}
use Rattle.fields.specs.Words.{address_bits, field_count}
use Rattle.fields.specs.Prefixes.{prefix_ends}
use Rattle.fields.specs.Fields.{field_bounds, field_ends}
use Rattle.fields.proofs.Fields.{bounds_of_good}
use Rattle.rules.specs.declared.words.Form.{Form}
use Rattle.rules.specs.declared.words.Form.TheVariants.{Prefix, Range, Ports}
use Rattle.rules.specs.Words.{rule_count, rule_there, form_of, field_of}
use Rattle.rules.specs.Good.{good}
use Rattle.rules.specs.Matching.{rule_box}
use Rattle.rules.specs.Bounds.{ends_of}
use Rattle.rules.proofs.Meaning.{box_ends, field_good_lem}

module _ (rs : List ℕ) (r f : ℕ) where
  -- a rule that is not wholly lent has 0 and 0
  pub no_rule_no_ends : rule_there rs r ≡ false → 0 ∷ 0 ∷ [] ≡ ends_of rs r f
  unfolding ends_of
  no_rule_no_ends e = rw e

  -- a field that there is not has 0 and 0
  pub no_field_no_ends : rule_there rs r ≡ true → field_count ≤ f → 0 ∷ 0 ∷ [] ≡ ends_of rs r f
  unfolding ends_of
  no_field_no_ends e l = rw (e, le-ltb f field_count l)

  -- where both are there, the ends are the bounds of the field
  pub ends_are_bounds :
      rule_there rs r ≡ true → f < field_count → ends_of rs r f ≡ field_bounds (field_of (form_of f) rs r)
  unfolding ends_of
  ends_are_bounds e l = rw (e, lt-ltb f field_count l)

-- where each of rs's words is below a bound, so is the low end of each field
low_below :
    (rs : List ℕ) (r : ℕ) (form : Form) (most : ℕ) → ((i : ℕ) → get_or rs i 0 < most) →
    get_or (field_ends (field_of form rs r)) 0 0 < most
unfolding prefix_ends
low_below rs r (Prefix address len) most h = h _
low_below rs r (Range low high largest) most h = h _
low_below rs r (Ports low high) most h = h _

-- the ends of a field of a good rule, in words of 32 bits, are those of its box in that field
pub ends_of_good :
    (rs : List ℕ) (r f : ℕ) → good rs r ≡ true → r < rule_count rs → f < field_count →
    ((i : ℕ) → get_or rs i 0 < 2 ^ address_bits) → ends_of rs r f ≡ get_or (rule_box rs r) f []
ends_of_good rs r f g there l h =
    ends_are_bounds rs r f (lt-ltb r (rule_count rs) there) l ∙
    bounds_of_good (field_of (form_of f) rs r) (field_good_lem rs r g f l) (low_below rs r (form_of f) (2 ^ address_bits) h) ∙
    sym (box_ends rs r f l)
