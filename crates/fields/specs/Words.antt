-- The numbers that bound a header. Definitions only.
--   address_bits   the bits of an address
--   largest_port   the largest port, and so the largest end of a rule's range of ports
--   absent_port    a header's port that is absent: the top of the field, over every port
--   tops           the largest value of each field: source, destination, source port, destination port, protocol
--   field_count    how many fields there are, and so words of a header
--   top_of f        the largest value of field f
use Rattle.std.specs.Prelude.{ℕ, ◌-◌, ◌^◌, List, [], ◌∷◌, length, get_or}

abbrev pub address_bits : ℕ
address_bits = 32

abbrev pub largest_port : ℕ
largest_port = 65535

abbrev pub absent_port : ℕ
absent_port = 65536

abbrev pub tops : List ℕ
tops = (2 ^ address_bits - 1) ∷ (2 ^ address_bits - 1) ∷ absent_port ∷ absent_port ∷ 255 ∷ []

abbrev pub field_count : ℕ
field_count = length tops

abbrev pub top_of : ℕ → ℕ
top_of f = get_or tops f 0
