-- Growing from the root: all numbers may meet the root's box.
use Prim.Native.Nat.{ℕ}
use native.Mathlib.Omega.{arith}
use mathlib.Core.Path.{◌≡◌, refl, sym}
use mathlib.Core.List.{List, []}
use lib.ListN.{take}
use Rattle.facts.specs.Lists.{up_from}
use Rattle.facts.proofs.Counted.{take_up}
use Rattle.facts.proofs.Members.{up_iff}
use Rattle.facts.proofs.Under.{all_under_iff_has}
use Rattle.fields.specs.Boxes.{root_box}
use Rattle.fields.proofs.Root.{root_pairs}
use Rattle.rules.specs.Words.{most_rules}
use Rattle.trees.specs.Spelt.{Spelt, counts_below}
use Rattle.builder.specs.declared.grow.Spot.{Spot}
use Rattle.builder.specs.declared.grow.Room.{Room}
use Rattle.builder.specs.BoxWords.{box_count}
use Rattle.builder.specs.Growing.{Growable}
use Rattle.builder.specs.BuildSteps.{root_spot, Rooted}
use Rattle.builder.proofs.Narrower.{meeting_keep}

-- where no node stands, all that stand are spelt
pub none_spelt : (n : ℕ) → Spelt n [] []
unfolding counts_below
none_spelt n =
    record {
      first = λ i l. absurd (omega arith);
      child = λ i l. absurd (omega arith);
      leaf = λ i l. absurd (omega arith);
      total = refl;
    }

module _ (ws standing kept : List ℕ) {room : Room} {b : List (List ℕ)} {at : Spot} (p : b ≡ root_box)
    (q : at ≡ root_spot) where
  -- the root's box can be grown, by all numbers
  pub root_growable :
      {all : List ℕ} → Rooted ws standing kept room → all ≡ up_from 0 most_rules →
      Growable ws (take (box_count ws) all) standing kept b at room
  root_growable r e =
      rw (p, q, e, take_up (box_count ws) most_rules 0 r.few)
      (record {
        few = r.few;
        known =
            (all_under_iff_has (box_count ws) (up_from 0 (box_count ws))).1 (λ y h. (up_iff (box_count ws) y).0 h);
        reaches = sym (meeting_keep ws root_box);
        pairs = root_pairs;
        spelt = r.spelt;
        cuts = omega arith;
        node = omega arith;
        entries = omega arith;
        nodes = r.nodes;
        pool = r.pool;
      })
