-- The root's box: five pairs, none empty, and the headers in it are the legal ones.
use Prim.Native.Nat.{ℕ, ◌<◌}
use native.Mathlib.Omega.{arith}
use mathlib.Core.Path.{◌≡◌, refl, ap}
use mathlib.Core.Logic.{◌↔◌}
use mathlib.Core.List.{List, [], ◌∷◌}
use lib.ListN.{length, get_or}
use Rattle.facts.proofs.Tables.{get_or_map_in}
use Rattle.fields.specs.Words.{tops, field_count, top_of}
use Rattle.fields.specs.Headers.{Legal}
use Rattle.fields.specs.Boxes.{Pairs, Inside, Full, root_box}
use Rattle.fields.proofs.Headers.{legal_iff}

-- in each field the root's box goes from 0 to the field's top
pub root_ends : (f : ℕ) → f < field_count → get_or root_box f [] ≡ 0 ∷ top_of f ∷ []
root_ends f l = get_or_map_in (λ (top : ℕ). 0 ∷ top ∷ []) tops f 0 [] l

-- the root's box has five pairs
pub root_pairs : Pairs field_count root_box
root_pairs = record { fields = refl; pair = λ f l. ap length (root_ends f l) }

-- no field of the root's box is empty
pub root_full : Full field_count root_box
root_full f l = rw (root_ends f l) (omega arith)

-- a header is legal exactly where it has five words and lies in the root's box
pub legal_iff_in_root : (h : List ℕ) → Legal h ↔ ((length h ≡ field_count) × Inside field_count root_box h)
legal_iff_in_root h = (
  λ e. let t = (legal_iff h).0 e in (t.0, λ f l. rw (root_ends f l) (omega arith, t.1 f l)),
  λ g. (legal_iff h).1 (g.0, λ f l. rw (root_ends f l) at (g.1 f l).1),
)
