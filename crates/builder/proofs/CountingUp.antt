-- A loop that stores the numbers from 0 on: its invariant.
use Prim.Native.Nat.{ℕ, ◌+◌, ◌≤◌, ◌<◌}
use native.Mathlib.Nat.{zero-add}
use native.Mathlib.Omega.{arith}
use mathlib.Core.Path.{◌≡◌, refl, sym, ◌∙◌}
use mathlib.Core.List.{List}
use lib.ListN.{length, take, set, length-set}
use lib.Seq.{take_all}
use Rattle.facts.specs.Lists.{up_from}
use Rattle.facts.proofs.Counted.{up_snoc}
use Rattle.facts.proofs.Joined.{take_stored}

-- of n words the first i are counted up
pub record CountedUp (n : ℕ) (words : List ℕ) (i : ℕ) : Type 0 where
  pub size : length words ≡ n
  pub within : i ≤ n
  pub front : take i words ≡ up_from 0 i

-- where the loop begins none is
pub counted_first : (words : List ℕ) → CountedUp (length words) words 0
unfolding up_from
counted_first words = record { size = refl; within = omega arith; front = refl }

module _ {n : ℕ} {words : List ℕ} {i : ℕ} (w : CountedUp n words i) where
  -- one more is stored behind them
  pub counted_step : {next : List ℕ} → i < n → next ≡ set words i i → CountedUp n next (i + 1)
  counted_step l e =
      record {
        size = rw e (length-set words i i ∙ w.size);
        within = omega arith;
        front = rw (e, take_stored words i i (omega (arith, w.size)), w.front) (sym (up_snoc i 0 ∙ rw zero-add));
      }

  -- at the end all are counted up
  pub counted_last : n ≤ i → words ≡ up_from 0 n
  counted_last l =
      let e : i ≡ n = omega (arith, w.within) in
      sym (take_all i words (omega (arith, w.size))) ∙ w.front ∙ rw e
