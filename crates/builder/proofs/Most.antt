-- The field with the most values, found by looking at each in turn; and that it is the chosen one.
use Prim.Native.Nat.{ℕ, ◌+◌, ◌≤◌, ◌<◌}
use native.Mathlib.Omega.{arith}
use mathlib.Core.Bool.{true, false, cond}
use mathlib.Core.Path.{◌≡◌, sym, ap, subst, ◌∙◌}
use mathlib.Core.Logic.{◌⊎◌, inl, inr}
use mathlib.Core.List.{List}
use lib.Dec.{ltb}
use borrow.Author.Tests.{ltb-true, ltb-false, le-ltb}
use Rattle.facts.proofs.Bools.{sure, fails}
use Rattle.facts.proofs.Cases.{Order, below, same, above, order}
use Rattle.facts.proofs.Lowest.{lowest_unique}
use Rattle.built.specs.CutValues.{cut_values, cut_count, has_most, chosen_field, chosen_value}
use Rattle.built.proofs.Chosen.{most_at, most_of}
use Rattle.builder.specs.declared.choice.Values.{Values}
use Rattle.builder.specs.ChoiceSteps.{ValuesFound, ValuesSeen, found, few, HasMost, more_of, MostFound}

module _ {count : ℕ → ℕ} {n f : ℕ} (w : HasMost count n f) where
  -- a field with no more than that leaves it
  most_stays : count n ≤ count f → HasMost count (n + 1) f
  most_stays h =
      record {
        there = omega (arith, w.there);
        none_more = λ g l. go g l (order g n);
        lower_fewer = w.lower_fewer;
      }
    where
      go : (g : ℕ) → g < n + 1 → Order g n → count g ≤ count f
      go g l (below u) = w.none_more g u
      go g l (same q) = rw q h
      go g l (above u) = absurd (omega arith)

  -- a field with more takes its place
  most_moves : count f < count n → HasMost count (n + 1) n
  most_moves h =
      record {
        there = omega arith;
        none_more = λ g l. go g l (order g n);
        lower_fewer = λ g l. omega (arith, w.none_more g l);
      }
    where
      go : (g : ℕ) → g < n + 1 → Order g n → count g ≤ count n
      go g l (below u) = omega (arith, w.none_more g u)
      go g l (same q) = rw q (omega arith)
      go g l (above u) = absurd (omega arith)

module _ {values : ℕ → List ℕ} where
  -- what is found for a field is found for the field that it names
  found_own : {f : ℕ} {r : Values} → ValuesFound values f r → ValuesFound values r.field r
  found_own {r = r} w = subst (λ (f : ℕ). ValuesFound values f r) (sym w.of_field) w

  -- the one with more, of the most of n fields and of what is seen for the next, is the most of n + 1
  pub most_step :
      {n : ℕ} {first next : Values} → MostFound values n first → ValuesSeen values n first.count next →
      MostFound values (n + 1) (more_of first next)
  unfolding more_of
  most_step {n} {first} {next} w (few e c h) =
      rw (le-ltb first.count next.count (omega arith))
      (record { most = most_stays w.most (omega (arith, w.found.counts, h)); found = w.found })
  most_step {n} {first} {next} w (found v) = go (sure (ltb first.count next.count))
    where
      go :
          (ltb first.count next.count ≡ true) ⊎ (ltb first.count next.count ≡ false) →
          MostFound values (n + 1) (cond (ltb first.count next.count) next first)
      go (inl t) =
          let l = ltb-true first.count next.count t in
          rw t
          (record {
            most = rw v.of_field (most_moves w.most (omega (arith, w.found.counts, v.counts)));
            found = found_own v;
          })
      go (inr t) =
          let l = ltb-false first.count next.count t in
          rw t
          (record { most = most_stays w.most (omega (arith, w.found.counts, v.counts)); found = w.found })

module _ (n : ℕ) (boxes : List (List (List ℕ))) (b : List (List ℕ)) {r : Values}
    (w : MostFound (cut_values n boxes b) n r) where
  -- the field with the most cut values is the chosen one
  pub chosen_field_lem : chosen_field n boxes b ≡ r.field
  unfolding chosen_field
  chosen_field_lem =
      lowest_unique n (has_most n boxes b) r.field w.most.there
      (most_of n boxes b r.field w.most.none_more)
      (λ g l.
      fails (has_most n boxes b g)
      (λ t. omega (arith, most_at n boxes b g t r.field w.most.there, w.most.lower_fewer g l)))

  -- it has as many as were found
  pub chosen_count : cut_count n boxes b (chosen_field n boxes b) ≡ r.count
  chosen_count = ap (λ (f : ℕ). cut_count n boxes b f) chosen_field_lem ∙ sym w.found.counts

  -- where there is any, the chosen value is the middle one
  pub chosen_middle : 0 < r.count → chosen_value n boxes b ≡ r.middle
  unfolding chosen_value
  chosen_middle l = rw (chosen_field_lem, ← w.found.counts) (sym (w.found.halves l))
