-- One field of a rule: a prefix, a range with the largest end that it may have, or a range of ports. Definitions only.
--   field_good field         the prefix is good, or the range is and ends no later than it may
--   field_matches field x    the first bits of x agree with the prefix, or x lies in the range, or is a port that the
--                            range of ports matches; for any words
--   field_ends field         the range that a good field stands for; that of all ports goes on to the absent one
--   field_bounds field       its ends as words: a prefix whose range would pass the largest address ends there
--   field_meets field ends   that range meets the one between the two ends
use Rattle.std.specs.Prelude.{ℕ, Bool, List, [], ◌∷◌, get_or}
use Rattle.fields.specs.declared.field.Field.{Field}
use Rattle.fields.specs.declared.field.Field.TheVariants.{Prefix, Range, Ports}
use Rattle.fields.specs.Words.{address_bits, largest_port}
use Rattle.fields.specs.Prefixes.{prefix_good, prefix_agrees, prefix_ends, prefix_last}
use Rattle.fields.specs.Ranges.{range_good, range_holds, ranges_meet}
use Rattle.fields.specs.Ports.{ports_match, ports_end}

abbrev pub field_good : Field → Bool
field_good (Prefix address len) = prefix_good address_bits address len
field_good (Range low high largest) = range_good low high largest
field_good (Ports low high) = range_good low high largest_port

abbrev pub field_matches : Field → ℕ → Bool
field_matches (Prefix address len) x = prefix_agrees address_bits address len x
field_matches (Range low high largest) x = range_holds low high x
field_matches (Ports low high) x = ports_match low high x

abbrev pub field_ends : Field → List ℕ
field_ends (Prefix address len) = prefix_ends address_bits address len
field_ends (Range low high largest) = low ∷ high ∷ []
field_ends (Ports low high) = low ∷ ports_end low high ∷ []

abbrev pub field_bounds : Field → List ℕ
field_bounds (Prefix address len) = address ∷ prefix_last address_bits address len ∷ []
field_bounds (Range low high largest) = low ∷ high ∷ []
field_bounds (Ports low high) = low ∷ ports_end low high ∷ []

abbrev pub field_meets : Field → List ℕ → Bool
field_meets field ends =
    ranges_meet (get_or (field_ends field) 0 0) (get_or (field_ends field) 1 0) (get_or ends 0 0) (get_or ends 1 0)
