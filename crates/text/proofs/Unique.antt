-- What putting bytes promises fixes the next place and every lent byte.
use Prim.Native.Nat.{ℕ}
use mathlib.Core.Path.{◌≡◌, sym, ◌∙◌}
use mathlib.Core.List.{List}
use Rattle.text.specs.Puts.{Put}

-- two ways of putting the same bytes at the same place leave the same bytes and answer the same place
pub put_unique :
    {old : List ℕ} {at : ℕ} {bs new new' : List ℕ} {next next' : ℕ} → Put old at bs new next →
    Put old at bs new' next' → (new ≡ new') × (next ≡ next')
put_unique p q = (p.bytes ∙ sym q.bytes, p.place ∙ sym q.place)
