-- The paper tells the answers apart, so each promise allows one result and one state of the lent words
-- (`says_unique`, `writes_unique`).
use Rattle.std.specs.Prelude.{Some, None, Option}
use Rattle.rules.specs.declared.line.Hit.{Hit}
use Rattle.rules.specs.Hits.{hit}
use Rattle.rules.specs.LineFirst.{hit_in}
use Prim.Native.Nat.{ℕ}
use mathlib.Core.Path.{◌≡◌, refl, ap, ◌∙◌}
use native.Mathlib.Omega.{arith}
use Rattle.refusals.proofs.Unique.{said_apart}
use Rattle.refusals.specs.Promises.{Apart}
use Rattle.rules.specs.LineFirst as one

-- the number and the action tell first matches apart
pub hit_apart : (x y : Option Hit) → hit_in x ≡ hit_in y → x ≡ y
hit_apart None None e = refl
hit_apart None (Some k) e = let z : ◌≡◌ {A = ℕ} 0 1 = cc in absurd (omega arith)
hit_apart (Some h) None e = let z : ◌≡◌ {A = ℕ} 0 1 = cc in absurd (omega arith)
hit_apart (Some h) (Some k) e =
    let n : h.number ≡ k.number = cc in
    let a : h.action ≡ k.action = cc in
    ap (λ i. hit i h.action) n ∙ ap (hit k.number) a

-- answers of the search for the first match
pub first_apart : Apart one.paper
first_apart = said_apart hit_apart
