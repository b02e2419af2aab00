-- One field of a rule: it has two ends; a good field matches exactly the values between them, there are some, and the
-- ends are its bounds.
use Prim.Native.Nat.{ℕ, ◌^◌, ◌≤◌, ◌<◌}
use mathlib.Core.Bool.{true}
use mathlib.Core.Path.{◌≡◌, refl}
use mathlib.Core.Logic.{◌↔◌}
use mathlib.Core.List.{[], ◌∷◌}
use lib.ListN.{get_or}
use Rattle.fields.specs.declared.field.Field.{Field}
use Rattle.fields.specs.declared.field.Field.TheVariants.{Prefix, Range, Ports}
use Rattle.fields.specs.Words.{address_bits}
use Rattle.fields.specs.Prefixes.{prefix_ends}
use Rattle.fields.specs.Fields.{field_good, field_matches, field_ends, field_bounds}
use Rattle.fields.proofs.Prefixes.{prefix_is_range, prefix_not_empty}
use Rattle.fields.proofs.PrefixLast.{last_of_good}
use Rattle.fields.proofs.Ranges.{holds_iff_between, range_not_empty}
use Rattle.fields.proofs.Ports.{ports_iff_between, ports_not_empty}

-- a field's ends are two numbers
pub two_ends : (field : Field) → field_ends field ≡ get_or (field_ends field) 0 0 ∷ get_or (field_ends field) 1 0 ∷ []
unfolding prefix_ends
two_ends (Prefix address len) = refl
two_ends (Range low high largest) = refl
two_ends (Ports low high) = refl

-- a good field matches exactly the values between its ends
pub field_iff_between :
    (field : Field) → field_good field ≡ true → (x : ℕ) →
    (field_matches field x ≡ true) ↔ ((get_or (field_ends field) 0 0 ≤ x) × (x ≤ get_or (field_ends field) 1 0))
unfolding prefix_ends
field_iff_between (Prefix address len) g x = prefix_is_range address_bits address len g x
field_iff_between (Range low high largest) g x = holds_iff_between low high x
field_iff_between (Ports low high) g x = ports_iff_between low high g x

-- the ends of a good field are in order
pub field_not_empty : (field : Field) → field_good field ≡ true → get_or (field_ends field) 0 0 ≤ get_or (field_ends field) 1 0
unfolding prefix_ends
field_not_empty (Prefix address len) g = prefix_not_empty address_bits address len g
field_not_empty (Range low high largest) g = range_not_empty low high largest g
field_not_empty (Ports low high) g = ports_not_empty low high g

-- the bounds of a good field whose low end fits the bits of an address are its ends
pub bounds_of_good :
    (field : Field) → field_good field ≡ true → get_or (field_ends field) 0 0 < 2 ^ address_bits →
    field_bounds field ≡ field_ends field
unfolding prefix_ends
bounds_of_good (Prefix address len) g h = rw (last_of_good address_bits address len g h)
bounds_of_good (Range low high largest) g h = refl
bounds_of_good (Ports low high) g h = refl
