-- From bytes that are counted on no room, and then put, to what a call that says them answers.
use Rattle.std.specs.Prelude.{Err, Ok, Result}
use Rattle.refusals.specs.declared.Refusal.{Refusal}
use Prim.Native.Nat.{ℕ, ◌^◌, ◌≤◌, ◌<◌}
use native.Mathlib.Omega.{arith}
use native.Mathlib.Nat.{zero-add}
use mathlib.Core.Path.{◌≡◌, refl, ap, ◌∙◌, subst}
use mathlib.Core.List.{List, [], ◌∷◌, ◌++◌}
use lib.ListN.{length}
use lib.Seq.{sets}
use Rattle.facts.specs.Lists.{written}
use Rattle.facts.proofs.Setting.{none_before}
use Rattle.refusals.specs.declared.Refusal.TheVariants.{OutputShort}
use Rattle.refusals.specs.Paper.{success}
use Rattle.refusals.specs.Promises.{Apart}
use Rattle.refusals.proofs.Order.{room_fine_iff}
use Rattle.refusals.proofs.Unique.{counted_apart}
use Rattle.refusals.proofs.Promises.{writes_fine}
use Rattle.refusals.proofs.Rooms.{counted_short, counted_put}
use Rattle.text.specs.Puts.{Put}
use Rattle.text.specs.Said.{paper, Said}
use Rattle.text.proofs.Places.{after_few}

-- the paper tells the answers apart
pub written_apart : Apart paper
written_apart = counted_apart

module _ {bs : List ℕ} (few : length bs < 2 ^ 64) where
  -- the place behind the bytes is their number
  count_is : {old new : List ℕ} {n : ℕ} → Put old 0 bs new n → n ≡ length bs
  count_is p = p.place ∙ after_few 0 (length bs) (omega arith) ∙ zero-add _

  module _ {old kept before : List ℕ} {needed : ℕ} (first : Put old 0 bs kept needed) (none : length kept ≡ 0) where
    same : kept ++ before ≡ before
    same = none_before kept before none

    -- bytes that were counted on no room, and for which there is none, are refused with their number
    pub said_short : length (kept ++ before) < needed → Said bs before (Err (OutputShort needed 0)) (kept ++ before)
    said_short h = counted_short (count_is first) (rw same at h) refl same

    -- those for which there is room, and that were then put, are said
    pub said_put :
        {after : List ℕ} {n : ℕ} → needed ≤ length (kept ++ before) → Put (kept ++ before) 0 bs after n →
        Said bs before (Ok n) after
    said_put h p =
        let enough : length bs ≤ length before = omega (arith, count_is first, ap length same) in
        counted_put enough (ap (λ (k : ℕ). success (k ∷ [])) (count_is p))
        (p.bytes ∙ ap (λ (l : List ℕ). sets l 0 bs) same)

-- saying no bytes changes nothing
pub said_nothing : (before : List ℕ) → Said [] before (Ok 0) before
unfolding written
said_nothing before = writes_fine ((room_fine_iff 0 (length before)).1 (omega arith)) refl refl

-- equal bytes are said alike
pub said_same :
    {bs cs before after : List ℕ} {r : Result ℕ Refusal} → bs ≡ cs → Said bs before r after → Said cs before r after
said_same {before = before} {after = after} {r = r} e s = subst (λ (z : List ℕ). Said z before r after) e s
