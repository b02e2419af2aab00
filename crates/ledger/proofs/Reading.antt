-- What one read says, by the tests that the code makes.
use Rattle.std.proofs.Common.{◌≡◌, ℕ, zero, suc, ◌≤◌, min, List, length, Result, Ok, Err, refl, sym, ap, subst, ◌∙◌, arith}
use lib.Seq.{length-take-le}
use native.Mathlib.Nat.{min-le_right}
use Rattle.ledger.specs.declared.input.Got.{Got}
use Rattle.ledger.specs.declared.input.Got.TheVariants.{Failed, Ended, Bytes}
use Rattle.ledger.specs.Reads.{on_count, got_of, came, gave, Gets}

-- an error is a failure
pub failed_got : {E : Type 0} {a : Result ℕ E} {e : E} (n : ℕ) → a ≡ Err e → Failed ≡ got_of a n
unfolding got_of
failed_got n p = ap (λ x. got_of x n) (sym p)

-- any other answer says how many bytes came
pub count_got :
    {E : Type 0} {a : Result ℕ E} {k c : ℕ} (n : ℕ) → a ≡ Ok k → c ≡ min k n → on_count c ≡ got_of a n
unfolding got_of
count_got n p q = ap on_count q ∙ ap (λ x. got_of x n) (sym p)

-- no bytes are the end
pub ended_count : (k : ℕ) → k ≡ 0 → Ended ≡ on_count k
ended_count zero e = refl
ended_count (suc k) e = absurd (omega (arith, e))

-- some bytes are so many
pub bytes_count : (k : ℕ) → (k ≡ 0 → ⊥) → Bytes k ≡ on_count k
bytes_count zero e = absurd (e refl)
bytes_count (suc k) e = refl

-- what came stands in front of the lent bytes
pub got_in_front :
    {E : Type 0} (bytes : List ℕ) (a : Result ℕ E) {g : Got} → g ≡ got_of a (length bytes) → Gets bytes g
unfolding got_of
got_in_front {E} bytes a e = subst (Gets bytes) (sym e) (said a)
  where
    some : (c : ℕ) → c ≤ length bytes → Gets bytes (on_count c)
    some zero h = tt
    some (suc c) h = (omega arith, (h, sym (length-take-le (suc c) bytes h)))

    said : (a : Result ℕ E) → Gets bytes (got_of a (length bytes))
    said (Err x) = tt
    said (Ok k) = some (min k (length bytes)) (min-le_right k (length bytes))

-- as many bytes came as it says
pub came_gave : (bytes : List ℕ) (g : Got) → Gets bytes g → came g ≡ length (gave g bytes)
came_gave bytes Failed h = refl
came_gave bytes Ended h = refl
came_gave bytes (Bytes n) h = h.1.1
