-- Ranges of ports: the tests one by one, and that a good range matches exactly the values up to its end.
use Prim.Native.Nat.{ℕ, ◌≤◌, ◌<◌}
use native.Mathlib.Omega.{arith}
use mathlib.Core.Bool.{true, false}
use mathlib.Core.Path.{◌≡◌, sym, ◌∙◌}
use mathlib.Core.Logic.{◌↔◌, ◌⊎◌, inl, inr}
use lib.Dec.{leb, eqb}
use borrow.Author.Tests.{leb-true, le-leb, lt-leb, eqb-true, eq-eqb, ne_eqb}
use Rattle.facts.proofs.Bools.{both, join, sure, clash}
use Rattle.facts.proofs.Cases.{same_or_not}
use Rattle.fields.specs.Words.{largest_port, absent_port}
use Rattle.fields.specs.Ranges.{range_good, range_holds}
use Rattle.fields.specs.Ports.{whole_ports, ports_match, ports_end}
use Rattle.fields.proofs.Ranges.{holds_iff_between, range_not_empty}

module _ (low high : ℕ) where
  -- ---- the tests, as the code makes them

  -- an absent port matches exactly the whole range
  pub absent_matches : {x : ℕ} → x ≡ absent_port → ports_match low high x ≡ whole_ports low high
  unfolding ports_match
  absent_matches {x} e = rw (eq-eqb x absent_port e)

  -- no port below the low end matches
  pub below_matches_not : {x : ℕ} → x < low → false ≡ ports_match low high x
  unfolding ports_match whole_ports range_holds
  below_matches_not {x} l = go (same_or_not x absent_port)
    where
      go : (x ≡ absent_port) ⊎ (x ≡ absent_port → ⊥) → false ≡ ports_match low high x
      go (inl e) = rw (eq-eqb x absent_port e, ne_eqb low 0 (λ z. omega arith))
      go (inr d) = rw (ne_eqb x absent_port d, lt-leb low x l)

  -- a port that is not absent, and not below the low end, is judged by the high end
  pub high_decides : {x : ℕ} → low ≤ x → (x ≡ absent_port → ⊥) → leb x high ≡ ports_match low high x
  unfolding ports_match range_holds
  high_decides {x} l d = rw (ne_eqb x absent_port d, le-leb low x l)

  -- any other port matches where it lies in the range
  pub present_matches : {x : ℕ} → (x ≡ absent_port → ⊥) → ports_match low high x ≡ range_holds low high x
  unfolding ports_match
  present_matches {x} d = rw (ne_eqb x absent_port d)

  -- a whole range ends at the absent port
  pub whole_end : whole_ports low high ≡ true → ports_end low high ≡ absent_port
  unfolding ports_end
  whole_end e = rw e

  -- any other range has its own end
  pub other_end : whole_ports low high ≡ false → ports_end low high ≡ high
  unfolding ports_end
  other_end e = rw e

  -- ---- what a range of ports matches

  -- a range is whole exactly where it goes from 0 to the largest port
  pub whole_iff : (whole_ports low high ≡ true) ↔ ((low ≡ 0) × (high ≡ largest_port))
  unfolding whole_ports
  whole_iff = (
    λ e. let t = both (eqb low 0) (eqb high largest_port) e in (eqb-true low 0 t.0, eqb-true high largest_port t.1),
    λ h. join (eq-eqb low 0 h.0) (eq-eqb high largest_port h.1),
  )

  module _ (good : range_good low high largest_port ≡ true) where
    within : high ≤ largest_port
    unfolding range_good
    within = leb-true high largest_port (both (leb low high) (leb high largest_port) good).1

    -- a good range of ports matches exactly the values from its low up to its end
    pub ports_iff_between : (x : ℕ) → (ports_match low high x ≡ true) ↔ ((low ≤ x) × (x ≤ ports_end low high))
    ports_iff_between x = go (sure (whole_ports low high)) (same_or_not x absent_port)
      where
        go :
            (whole_ports low high ≡ true) ⊎ (whole_ports low high ≡ false) →
            (x ≡ absent_port) ⊎ (x ≡ absent_port → ⊥) →
            (ports_match low high x ≡ true) ↔ ((low ≤ x) × (x ≤ ports_end low high))
        go (inl w) (inl e) = (
          λ _. (omega (arith, (whole_iff.0 w).0), omega (arith, whole_end w)),
          λ _. absent_matches e ∙ w,
        )
        go (inl w) (inr d) = rw (present_matches d, whole_end w) (
          λ m. let i = (holds_iff_between low high x).0 m in (i.0, omega (arith, i.1, (whole_iff.0 w).1)),
          λ i. (holds_iff_between low high x).1 (i.0, omega (arith, d, i.1, (whole_iff.0 w).1)),
        )
        go (inr w) (inl e) = (
          λ m. clash (sym (absent_matches e) ∙ m) w,
          λ i. absurd (omega (arith, i.1, other_end w, within)),
        )
        go (inr w) (inr d) = rw (present_matches d, other_end w) (holds_iff_between low high x)

    -- a good range of ports begins no later than it ends
    pub ports_not_empty : low ≤ ports_end low high
    ports_not_empty = go (sure (whole_ports low high))
      where
        go : (whole_ports low high ≡ true) ⊎ (whole_ports low high ≡ false) → low ≤ ports_end low high
        go (inl w) = omega (arith, (whole_iff.0 w).0)
        go (inr w) = rw (other_end w) (range_not_empty low high largest_port good)
