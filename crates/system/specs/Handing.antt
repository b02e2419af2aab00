-- What is handed to standard output. Definitions only.
--   handing bs r        the entries of bytes that are handed out at once: none where there are no bytes
--   HandedOut bs r es     the bytes bs were handed out so, and r says whether all were written: no bytes always are
--   FrontWithin w out     what was written w stands within the lent bytes out
--   FrontHanded w out r es    what stands in front of out was handed out; nothing where it found no room
--   Gives bs es      the bytes bs were handed out one part after another, and each was written
use Rattle.refusals.specs.declared.Refusal.{Refusal}
use Rattle.std.specs.Prelude.{ℕ, ◌≤◌, Bool, true, false, ◌≡◌, List, [], ◌∷◌, ◌++◌, length, take, Err, Ok, Result}
use Rattle.ledger.specs.Ledger.{Entry, wrote}

abbrev pub handing : List ℕ → Bool → List Entry
handing [] r = []
handing (b ∷ bs) r = wrote (b ∷ bs) r ∷ []

pub record HandedOut (bs : List ℕ) (r : Bool) (es : List Entry) : Type 0 where
  pub entries : es ≡ handing bs r
  pub none : bs ≡ [] → r ≡ true

abbrev pub FrontWithin : Result ℕ Refusal → List ℕ → Type 0
FrontWithin (Err why) out = Unit {0}
FrontWithin (Ok n) out = n ≤ length out

abbrev pub FrontHanded : Result ℕ Refusal → List ℕ → Bool → List Entry → Type 0
FrontHanded (Err why) out r es = (r ≡ false) × (es ≡ [])
FrontHanded (Ok n) out r es = HandedOut (take n out) r es

pub data Gives : List ℕ → List Entry → Type 0 where
  nothing : Gives [] []
  and_more : {bs new : List ℕ} {es ws : List Entry} → Gives bs es → HandedOut new true ws → Gives (bs ++ new) (es ++ ws)
