-- Ranges of ports, where a header's port may be absent. Definitions only.
--   whole_ports low high     the range is exactly 0 to the largest port
--   ports_match low high x   an absent port matches where the range is whole, any other where it lies in the range; for
--                            any words
--   ports_end low high       the last value that a good range matches: its high, or the absent port if it is whole
use Rattle.std.specs.Prelude.{ℕ, Bool, cond, ◌&&◌, eqb}
use Rattle.fields.specs.Words.{largest_port, absent_port}
use Rattle.fields.specs.Ranges.{range_holds}

unfoldable pub whole_ports : ℕ → ℕ → Bool
whole_ports low high = eqb low 0 && eqb high largest_port

unfoldable pub ports_match : ℕ → ℕ → ℕ → Bool
ports_match low high x = cond (eqb x absent_port) (whole_ports low high) (range_holds low high x)

unfoldable pub ports_end : ℕ → ℕ → ℕ
ports_end low high = cond (whole_ports low high) absent_port high
