-- Bytes put into a lent output from a place on, as far as there is room. Definitions only.
--   Put old at bs new next    the bytes bs were put at that place, as far as there is room; the rest is as found; next
--                             is the place after them
use Rattle.std.specs.Prelude.{ℕ, List, ◌≡◌, length}
use Rattle.std.proofs.lemmas.List.Edits.{sets}
use Rattle.text.specs.Places.{place_after}

pub record Put (old : List ℕ) (at : ℕ) (bs new : List ℕ) (next : ℕ) : Type 0 where
  pub place : next ≡ place_after at (length bs)
  pub bytes : new ≡ sets old at bs
