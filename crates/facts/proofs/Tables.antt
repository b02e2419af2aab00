-- A list made from a function, or mapped by one: its length, and what stands at each place.
use Prim.Native.Nat.{ℕ, zero, suc, ◌<◌}
use native.Mathlib.Nat.{le_of_suc-le-suc, not-suc-le-zero}
use mathlib.Core.Path.{◌≡◌, refl, ap}
use mathlib.Core.List.{List, [], ◌∷◌, map}
use lib.ListN.{length, get_or}
use Rattle.facts.specs.Lists.{tabulate}

-- a table of n numbers has n
pub length_tabulate : (n : ℕ) (g : ℕ → ℕ) → length (tabulate n g) ≡ n
unfolding tabulate
length_tabulate zero g = refl
length_tabulate (suc n) g = ap suc (length_tabulate n (λ i. g (suc i)))

-- at a place below n stands what the function gives there
pub get_or_tab : (n : ℕ) (g : ℕ → ℕ) (i : ℕ) → i < n → get_or (tabulate n g) i 0 ≡ g i
unfolding tabulate
get_or_tab zero g i h = absurd (not-suc-le-zero h)
get_or_tab (suc n) g zero h = refl
get_or_tab (suc n) g (suc i) h = get_or_tab n (λ k. g (suc k)) i (le_of_suc-le-suc h)

-- at a place below its length a mapped list has the image of what stood there
pub get_or_map_in :
    {A B : Type 0} (g : A → B) (l : List A) (i : ℕ) (a : A) (b : B) → i < length l → get_or (map g l) i b ≡ g (get_or l i a)
get_or_map_in g [] i a b h = absurd (not-suc-le-zero h)
get_or_map_in g (x ∷ xs) zero a b h = refl
get_or_map_in g (x ∷ xs) (suc i) a b h = get_or_map_in g xs i a b (le_of_suc-le-suc h)
