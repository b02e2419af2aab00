-- A leaf of a part: its entries as a part of the pool, and its answer by its tests.
use Rattle.tree_check.specs.declared.preorder.Part.{Part}
use Rattle.tree_check.specs.declared.preorder.Lack.{Lack}
use Rattle.tree_check.specs.Said.{Complete, Good, Lacks}
use Rattle.std.specs.Prelude.{Err, None, Option, Result, Some, cond, ltb}
use Rattle.refusals.specs.declared.Refusal.{Refusal}
use Prim.Native.Nat.{ℕ, ◌+◌, ◌-◌, ◌^◌, ◌≤◌, ◌<◌}
use mathlib.Core.Bool.{Bool, true, false}
use mathlib.Core.Path.{◌≡◌, sym, ap, ◌∙◌}
use mathlib.Core.List.{List}
use mathlib.Core.Logic.{◌⊎◌, inl, inr}
use lib.ListN.{length, take, drop}
use borrow.Author.Tests.{le-ltb}
use Rattle.facts.specs.Lists.{rises}
use Rattle.facts.proofs.Bools.{held, failed, sure}
use Rattle.refusals.specs.declared.Refusal.TheVariants.{LeafWrong}
use Rattle.rules.specs.Words.{rule_count}
use Rattle.rules.specs.Lacking.{lacked, lowest_lacking}
use Rattle.trees.specs.Spelt.{Spelt}
use Rattle.trees.proofs.Spelling.{part_is_entries}
use Rattle.tree_check.specs.Preorder.{lack_of, leaf_part, preorder_of}
use Rattle.tree_check.specs.Steps.{Shallow}
use Rattle.tree_check.proofs.Looking.{SeesLeaf}

module _
    (far : Bool) (rs nodes pool : List ℕ) (k : ℕ) (b : List (List ℕ)) (i : ℕ) {s c : ℕ}
    (e : SeesLeaf far rs nodes pool k b i s c)
  where
    -- the entries that are seen lie within the pool, where the tree is spelt
    pub seen_within : {n : ℕ} → Spelt n nodes pool → s + c ≤ length pool
    seen_within spelt = rw (e.is.start, e.is.count) (spelt.leaf i e.is.there e.is.mark).within

    -- what is said of them is said of the part
    pub seen_part :
        {p : Result Part Refusal} → p ≡ leaf_part rs (take (s + c - s) (drop s pool)) b i → p ≡ preorder_of far k rs nodes pool b i
    seen_part q =
        q ∙ ap (λ (l : List ℕ). leaf_part rs l b i) (part_is_entries nodes pool i s c e.is.start e.is.count) ∙
        sym e.part

-- ---- the answer of a leaf

module _ (rs l : List ℕ) (b : List (List ℕ)) (i : ℕ) {t : Bool} (et : t ≡ rises 0 l) where
  -- entries that do not rise are refused
  pub entries_fall : t ≡ false → Err (LeafWrong i) ≡ leaf_part rs l b i
  unfolding leaf_part
  entries_fall n = let z = failed et n in rw z

  -- entries that rise are a part of one node
  pub entries_rise :
      {y : Option Lack} → t ≡ true → y ≡ lack_of rs l b i → Good (i + 1) 0 (length l) y ≡ leaf_part rs l b i
  unfolding leaf_part
  entries_rise n q = let z = held et n in rw (z, q)

-- where the lowest is the number of rules, none is lacked
pub lack_none :
    (rs l : List ℕ) (b : List (List ℕ)) (i : ℕ) → rule_count rs ≤ lowest_lacking rs l b → Complete ≡ lack_of rs l b i
unfolding lack_of
lack_none rs l b i u = rw (le-ltb (lowest_lacking rs l b) (rule_count rs) u)

-- a rule that is lacked, if there is one, at a node
abbrev pub at_node : ℕ → Option ℕ → Option Lack
at_node i None = Complete
at_node i (Some r) = Lacks i r

-- a leaf lacks at its node what its entries lack
pub lack_at : (rs l : List ℕ) (b : List (List ℕ)) (i : ℕ) → at_node i (lacked rs l b) ≡ lack_of rs l b i
unfolding lacked lack_of
lack_at rs l b i = by (sure (ltb (lowest_lacking rs l b) (rule_count rs)))
  where
    r : ℕ
    r = lowest_lacking rs l b

    t : Bool
    t = ltb r (rule_count rs)

    by : (t ≡ true) ⊎ (t ≡ false) → at_node i (cond t (Some r) None) ≡ cond t (Lacks i r) Complete
    by (inl e) = rw e
    by (inr e) = rw e

-- ---- two parts joined

-- the cuts of a shallow part are few enough to count one more
pub shallow_cuts : (p : Result Part Refusal) {e c l : ℕ} {y : Option Lack} → p ≡ Good e c l y → Shallow p → c < 2 ^ 63
unfolding Shallow
shallow_cuts p q s = rw q at s
