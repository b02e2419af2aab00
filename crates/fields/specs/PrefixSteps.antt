-- What the steps of a prefix test use. Definitions only.
--   most_places   the most places by which a number of 64 bits can be shifted
use Rattle.std.specs.Prelude.{ℕ}

abbrev pub most_places : ℕ
most_places = 63
