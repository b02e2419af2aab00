-- What a leaf lacks, and the first lack of a built part: none exactly where no leaf lacks a rule.
use Rattle.tree_check.specs.declared.preorder.Lack.{Lack}
use Rattle.std.specs.Prelude.{Option, Some, None}
use Rattle.tree_check.specs.Said.{Complete, Lacks}
use Prim.Native.Nat.{ℕ, ◌≤◌, ◌<◌}
use native.Mathlib.Omega.{arith}
use mathlib.Core.Bool.{Bool, true, false, not, ◌&&◌}
use mathlib.Core.Path.{◌≡◌, refl, sym, subst, ◌∙◌, ap}
use mathlib.Core.Logic.{◌↔◌}
use mathlib.Core.List.{List}
use borrow.Author.Tests.{lt-ltb, le-ltb, not-true}
use Rattle.facts.specs.Lists.{has}
use Rattle.facts.proofs.Bools.{both, clash}
use Rattle.facts.proofs.Cases.{WithinOrOver, at_most, over, within_or_over}
use Rattle.facts.proofs.Lowest.{lowest_at_most, lowest_passes, lowest_none_iff}
use Rattle.fields.specs.Words.{field_count}
use Rattle.fields.specs.Boxes.{meets}
use Rattle.rules.specs.Words.{rule_count}
use Rattle.rules.specs.Matching.{rule_box}
use Rattle.rules.specs.Lacking.{lacking, lowest_lacking}
use Rattle.trees.specs.Words.{entries}
use Rattle.tree_check.specs.Preorder.{lack_of}
use Rattle.tree_check.specs.Lacks.{LacksNone}

-- a lack is not complete
pub lacks_not_complete {ℓ} : {A : Type ℓ} {i r : ℕ} → Lacks i r ≡ Complete → A
lacks_not_complete e = let z : ◌≡◌ {A = ℕ} 0 1 = cc in absurd (omega arith)

-- the leaf and the rule of a lack
abbrev node_in : Option Lack → ℕ
node_in None = 0
node_in (Some lack) = lack.node

abbrev rule_in : Option Lack → ℕ
rule_in None = 0
rule_in (Some lack) = lack.rule

-- of two tests not the first alone holds exactly where the first implies the second
unless_iff : (a b : Bool) → ((a && not b) ≡ false) ↔ (a ≡ true → b ≡ true)
unless_iff true true = (λ e p. refl, λ f. refl)
unless_iff true false = (λ e p. sym e, λ f. sym (f refl))
unless_iff false b = (λ e p. clash p refl, λ f. refl)

module _ (rs nodes pool : List ℕ) (d : List (List ℕ)) (x : ℕ) where
  -- the lowest rule that leaf x lacks, its box being d; the number of rules where it lacks none
  abbrev low : ℕ
  low = lowest_lacking rs (entries nodes pool x) d

  lack_there : low < rule_count rs → lack_of rs (entries nodes pool x) d x ≡ Lacks x low
  unfolding lack_of
  lack_there l = rw (lt-ltb low (rule_count rs) l)

  lack_none : rule_count rs ≤ low → lack_of rs (entries nodes pool x) d x ≡ Complete
  unfolding lack_of
  lack_none l = rw (le-ltb low (rule_count rs) l)

  low_none_iff : (rule_count rs ≤ low) ↔ ((r : ℕ) → r < rule_count rs → lacking rs (entries nodes pool x) d r ≡ false)
  unfolding lowest_lacking
  low_none_iff = (
    λ l. (lowest_none_iff (rule_count rs) p).0 (omega (arith, lowest_at_most (rule_count rs) p)),
    λ f. omega (arith, (lowest_none_iff (rule_count rs) p).1 f),
  )
    where
      p : ℕ → Bool
      p = lacking rs (entries nodes pool x) d

  -- a rule is not lacking exactly where it is listed or its box does not meet the leaf's
  not_lacking_iff :
      (r : ℕ) → (lacking rs (entries nodes pool x) d r ≡ false) ↔
      (meets field_count (rule_box rs r) d ≡ true → has (entries nodes pool x) r ≡ true)
  unfolding lacking
  not_lacking_iff r = unless_iff (meets field_count (rule_box rs r) d) (has (entries nodes pool x) r)

  -- a leaf's lack is none exactly where it lists every rule whose box meets its own
  pub complete_iff : (lack_of rs (entries nodes pool x) d x ≡ Complete) ↔ LacksNone rs nodes pool d x
  complete_iff = (λ e. to e (within_or_over (rule_count rs) low), of)
    where
      to :
          lack_of rs (entries nodes pool x) d x ≡ Complete → WithinOrOver (rule_count rs) low →
          LacksNone rs nodes pool d x
      to e (at_most l) r u = (not_lacking_iff r).0 (low_none_iff.0 l r u)
      to e (over l) r u = lacks_not_complete (sym (lack_there l) ∙ e)

      of : LacksNone rs nodes pool d x → lack_of rs (entries nodes pool x) d x ≡ Complete
      of f = lack_none (low_none_iff.1 (λ r l. (not_lacking_iff r).1 (f r l)))

  -- r is the lowest rule that leaf x lacks, its box being d
  pub record LowestLack (r : ℕ) : Type 0 where
    pub rule : r < rule_count rs
    pub meeting : meets field_count (rule_box rs r) d ≡ true
    pub unlisted : has (entries nodes pool x) r ≡ false
    pub lower : (q : ℕ) → q < r → meets field_count (rule_box rs q) d ≡ true → has (entries nodes pool x) q ≡ true

  lacking_means :
      (r : ℕ) → lacking rs (entries nodes pool x) d r ≡ true →
      (meets field_count (rule_box rs r) d ≡ true) × (has (entries nodes pool x) r ≡ false)
  unfolding lacking
  lacking_means r e =
      let t = both (meets field_count (rule_box rs r) d) (not (has (entries nodes pool x) r)) e in
      (t.0, not-true _ t.1)

  low_lacks : low < rule_count rs → LowestLack low
  unfolding lowest_lacking
  low_lacks l =
      let t = lowest_passes (rule_count rs) (lacking rs (entries nodes pool x) d) low refl l in
      let hit = lacking_means low t.0 in
      record { rule = l; meeting = hit.0; unlisted = hit.1; lower = λ q u. (not_lacking_iff q).0 (t.1 q u) }

  -- a leaf's lack names the leaf, and the lowest rule that it lacks
  pub lack_means : {i r : ℕ} → lack_of rs (entries nodes pool x) d x ≡ Lacks i r → (x ≡ i) × LowestLack r
  lack_means {i} {r} e = go (within_or_over (rule_count rs) low)
    where
      go : WithinOrOver (rule_count rs) low → (x ≡ i) × LowestLack r
      go (at_most l) = lacks_not_complete (sym e ∙ lack_none l)
      go (over l) =
          let w : Lacks x low ≡ Lacks i r = sym (lack_there l) ∙ e in
          (ap node_in w, subst LowestLack (ap rule_in w) (low_lacks l))
