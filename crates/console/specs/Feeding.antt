-- A piece of input, answered as far as there is room. Definitions only.
--   taken_of answer room g bs    how many of the bytes bs are taken, from the state g on: all before the first byte
--                               whose reply does not fit in what is left of the room
--   IsFed                       the promise: so many bytes are taken, the state is the one after them, and their
--                               replies are in front of the lent bytes; the rest is as found
use Rattle.std.specs.Prelude.{ℕ, ◌+◌, ◌-◌, cond, ◌≡◌, List, [], ◌∷◌, length, take, leb}
use Rattle.facts.specs.Lists.{written}
use Rattle.console.specs.declared.gather.Gathering.{Gathering}
use Rattle.console.specs.declared.feed.Fed.{Fed}
use Rattle.console.specs.Gathered.{step, after, said, answers}

unfoldable pub taken_of : (List ℕ → List ℕ) → ℕ → Gathering → List ℕ → ℕ
taken_of answer room g [] = 0
taken_of answer room g (b ∷ bs) =
    cond (leb (length (said answer g b)) room)
    (taken_of answer (room - length (said answer g b)) (step g b) bs + 1) 0

pub record IsFed (answer : List ℕ → List ℕ) (g : Gathering) (bs before : List ℕ) (r : Fed) (new : List ℕ) : Type 0 where
  pub taken : r.taken ≡ taken_of answer (length before) g bs
  pub state : r.gathering ≡ after g (take r.taken bs)
  pub filled : r.filled ≡ length (answers answer g (take r.taken bs))
  pub bytes : new ≡ written (answers answer g (take r.taken bs)) before
