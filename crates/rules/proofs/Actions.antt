-- Actions: what a good rule's is, and which lists are fine with smaller ones.
use Prim.Native.Nat.{ℕ, ◌≤◌, ◌<◌}
use native.Mathlib.Omega.{arith}
use mathlib.Core.Bool.{true, false}
use mathlib.Core.Path.{◌≡◌, sym}
use mathlib.Core.Logic.{◌↔◌}
use mathlib.Core.List.{List}
use lib.ListN.{get_or-eq_default}
use lib.Dec.{leb}
use borrow.Author.Tests.{leb-true, le-leb}
use Rattle.facts.proofs.Bools.{both, join}
use Rattle.refusals.specs.Verdict.{Fine}
use Rattle.rules.specs.Words.{rule_count, action_of}
use Rattle.rules.specs.Good.{fields_good, good_to, list_verdict_to}
use Rattle.rules.proofs.Lists.{GoodRules, fine_iff_good}

-- a rule is good with an action of at most `most` exactly where its fields are good and its action is that small
pub good_to_iff :
    (most : ℕ) (rs : List ℕ) (r : ℕ) →
    (good_to most rs r ≡ true) ↔ ((fields_good rs r ≡ true) × (action_of rs r ≤ most))
unfolding good_to
good_to_iff most rs r = (
  λ e. let t = both (fields_good rs r) (leb (action_of rs r) most) e in (t.0, leb-true _ _ t.1),
  λ g. join g.0 (le-leb _ _ g.1),
)

module _ (rs : List ℕ) (r : ℕ) where
  -- where a field is not good, the rule is not
  pub fields_fail : (most : ℕ) → fields_good rs r ≡ false → false ≡ good_to most rs r
  unfolding good_to
  fields_fail most e = rw e

  -- where they all are, the action decides
  pub action_decides : (most : ℕ) → fields_good rs r ≡ true → leb (action_of rs r) most ≡ good_to most rs r
  unfolding good_to
  action_decides most e = rw e

  -- a rule that is not wholly lent has action 0
  pub no_action : rule_count rs ≤ r → 0 ≡ action_of rs r
  no_action l = sym (get_or-eq_default rs 0 (omega arith))

-- a list is fine with actions of at most a exactly where it is with actions of at most b, and none is over a
module _ {a b : ℕ} (l : a ≤ b) (rs : List ℕ) where
  pub fine_to_iff :
      (list_verdict_to a rs ≡ Fine) ↔
      ((list_verdict_to b rs ≡ Fine) × ((r : ℕ) → r < rule_count rs → action_of rs r ≤ a))
  fine_to_iff = (
    λ e.
        let f = (fine_iff_good a rs).0 e in
        ((fine_iff_good b rs).1 (wider f.0, f.1), λ r u. ((good_to_iff a rs r).0 (f.0.each r u)).1),
    λ g. let f = (fine_iff_good b rs).0 g.0 in (fine_iff_good a rs).1 (smaller f.0 g.1, f.1),
  )
    where
      wider : GoodRules a rs → GoodRules b rs
      wider g =
          record {
            whole = g.whole;
            few = g.few;
            each = λ r u.
                let t = (good_to_iff a rs r).0 (g.each r u) in (good_to_iff b rs r).1 (t.0, omega (arith, t.1));
          }

      smaller :
          GoodRules b rs → ((r : ℕ) → r < rule_count rs → action_of rs r ≤ a) → GoodRules a rs
      smaller g h =
          record {
            whole = g.whole;
            few = g.few;
            each = λ r u. (good_to_iff a rs r).1 (((good_to_iff b rs r).0 (g.each r u)).0, h r u);
          }
