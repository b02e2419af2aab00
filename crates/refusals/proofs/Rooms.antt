-- Counted on no room, then put: one pass counts what it would write, and writes as far as there is room. It runs first
-- on no room at all; then the room is judged; then it runs on all of it.
use Prim.Native.Nat.{ℕ, ◌≤◌, ◌<◌}
use native.Mathlib.Nat.{zero-add}
use native.Mathlib.Omega.{arith}
use mathlib.Core.Bool.{Bool}
use mathlib.Core.Path.{◌≡◌, sym, ap, ◌∙◌}
use mathlib.Core.List.{List}
use lib.ListN.{length}
use lib.Seq.{sets, sets-eq}
use Rattle.facts.specs.Lists.{keep, written, Kept}
use Rattle.refusals.specs.declared.Refusal.TheVariants.{OutputShort}
use Rattle.refusals.specs.Paper.{Paper, success, on_paper}
use Rattle.refusals.specs.Order.{room_verdict}
use Rattle.refusals.specs.Promises.{Writes}
use Rattle.refusals.proofs.Order.{room_short, room_fine_iff}
use Rattle.refusals.proofs.Promises.{writes_fine, writes_refused}

-- where there is room for all of them, numbers stored as far as there is room are written in front
pub sets_written : (new found : List ℕ) → length new ≤ length found → sets found 0 new ≡ written new found
unfolding written
sets_written new found h = sets-eq new found 0 (omega arith) ∙ rw zero-add

module _ {R : Type 0} {paper : R → Paper} {values found : List ℕ} {r : R} {after : List ℕ} where
  -- less room than was counted is the refusal, and the words are as found
  pub counted_short :
      {new : List ℕ} {n : ℕ} → n ≡ length new → length found < n → paper r ≡ on_paper (OutputShort n 0) → after ≡ found →
      Writes paper (room_verdict (length new) (length found)) values new found r after
  counted_short {new} e short q left = writes_refused (sym (room_short (length new) (length found) e short)) q left

  -- with room for all of it, what was put stands in front, and the values are the answer
  pub counted_put :
      {new : List ℕ} → length new ≤ length found → paper r ≡ success values → after ≡ sets found 0 new →
      Writes paper (room_verdict (length new) (length found)) values new found r after
  counted_put {new} room q put =
      writes_fine ((room_fine_iff (length new) (length found)).1 room) q (put ∙ sets_written new found room)

  module _ {p : ℕ → Bool} {l mid : List ℕ} {n : ℕ} where
    -- of a list's numbers that pass a test: too little room is the refusal
    pub kept_short :
        {rest : List ℕ} → Kept p l mid n rest → after ≡ found → length after < n → paper r ≡ on_paper (OutputShort n 0) →
        Writes paper (room_verdict (length (keep p l)) (length found)) values (keep p l) found r after
    kept_short k same short q = counted_short k.counts (omega (arith, ap length same)) q same

    -- and with room for them all they stand in front
    pub kept_listed :
        Kept p l mid n after → mid ≡ found → length (keep p l) ≤ length found → paper r ≡ success values →
        Writes paper (room_verdict (length (keep p l)) (length found)) values (keep p l) found r after
    kept_listed k same room q = counted_put room q (rw same at k.stores)
