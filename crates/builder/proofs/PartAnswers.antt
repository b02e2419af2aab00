-- What is said of a part and its words.
use Rattle.std.specs.Prelude.{Err, Result, Ok}
use Rattle.builder.specs.declared.grow.Grown.{Grown}
use Rattle.builder.specs.Said.{Grows}
use Prim.Native.Nat.{ℕ, ◌+◌}
use native.Mathlib.Omega.{arith}
use mathlib.Core.Bool.{Bool, false}
use mathlib.Core.Path.{◌≡◌, refl, sym, ◌∙◌, ap}
use mathlib.Core.List.{List}
use lib.ListN.{length}
use Rattle.refusals.specs.declared.Refusal.{Refusal}
use Rattle.refusals.specs.Verdict.{Verdict}
use Rattle.refusals.specs.Verdict as verdict
use Rattle.refusals.proofs.Order.{refused_not_fine}
use Rattle.built.specs.Trees.{Tree}
use Rattle.built.specs.Layout.{size, pooled}
use Rattle.built.specs.Stops.{last_open}
use Rattle.builder.specs.declared.grow.Spot.{Spot}
use Rattle.builder.specs.declared.grow.Room.{Room}
use Rattle.builder.specs.Growing.{grown_said, fits_at, GrownPart}

-- the node after a part, the entries then, and whether it goes on
abbrev next_in : Result Grown Refusal → ℕ
next_in (Err why) = 0
next_in (Ok part) = part.next

abbrev entries_in : Result Grown Refusal → ℕ
entries_in (Err why) = 0
entries_in (Ok part) = part.entries

abbrev goes_on_in : Result Grown Refusal → Bool
goes_on_in (Err why) = false
goes_on_in (Ok part) = part.goes_on

-- where a refusal is said, the verdict is that refusal
said_refused :
    (v : Verdict) (t : Tree) (i s : ℕ) {why : Refusal} → Err why ≡ grown_said v t i s → v ≡ verdict.Refused why
said_refused verdict.Fine t i s e = let z : ◌≡◌ {A = ℕ} 0 1 = cc in absurd (omega arith)
said_refused (verdict.Refused w) t i s e = cc

-- where a part is said, it fits, these are the node after it and the entries then, and so it is open
said_part :
    (v : Verdict) (t : Tree) (i s : ℕ) {m e : ℕ} {o : Bool} → Grows m e o ≡ grown_said v t i s →
    (v ≡ verdict.Fine) × (m ≡ i + size t) × (e ≡ s + length (pooled t)) × (o ≡ last_open t)
said_part verdict.Fine t i s q = (refl, ap next_in q, ap entries_in q, ap goes_on_in q)
said_part (verdict.Refused w) t i s q = let z : ◌≡◌ {A = ℕ} 0 1 = cc in absurd (omega arith)

module _ {t : Tree} {spot : Spot} {room : Room} {nodes pool nodes' pool' : List ℕ} where
  -- a part that does not fit is refused, whatever its words are
  pub part_refused :
      {why : Refusal} → fits_at t spot room ≡ verdict.Refused why →
      GrownPart t spot room nodes pool (Err why) nodes' pool'
  part_refused e =
      record {
        answers = rw e;
        nodes_left = λ f. refused_not_fine (sym e ∙ f);
        pool_left = λ f. refused_not_fine (sym e ∙ f);
      }

  -- where growing a part says a refusal, the part is refused so
  pub refused_says :
      {r : Result Grown Refusal} {why : Refusal} → GrownPart t spot room nodes pool r nodes' pool' → r ≡ Err why →
      fits_at t spot room ≡ verdict.Refused why
  refused_says w e = said_refused (fits_at t spot room) t spot.node spot.entries (sym e ∙ w.answers)

  -- where it says a part, the part fits, these are the node after it and the entries then, and so it is open
  pub part_says :
      {r : Result Grown Refusal} {m e : ℕ} {o : Bool} → GrownPart t spot room nodes pool r nodes' pool' → r ≡ Grows m e o →
      (fits_at t spot room ≡ verdict.Fine) × (m ≡ spot.node + size t) × (e ≡ spot.entries + length (pooled t)) ×
      (o ≡ last_open t)
  part_says w e = said_part (fits_at t spot room) t spot.node spot.entries (sym e ∙ w.answers)
