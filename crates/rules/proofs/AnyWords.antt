-- Rules in any words: one that is not there is not good and does not match, nor does one match a header of another
-- length.
use Prim.Native.Nat.{ℕ, ◌<◌}
use mathlib.Core.Bool.{true, false}
use mathlib.Core.Path.{◌≡◌}
use mathlib.Core.List.{List}
use lib.ListN.{length}
use borrow.Author.Tests.{lt-ltb, eq-eqb}
use Rattle.fields.specs.Words.{field_count}
use Rattle.rules.specs.Words.{rule_count, rule_there}
use Rattle.rules.specs.Good.{good, rule_good}
use Rattle.rules.specs.Matching.{matches, rule_matches}

module _ (rs : List ℕ) (r : ℕ) where
  -- a rule that is not wholly lent is not good
  pub not_there_not_good : rule_there rs r ≡ false → false ≡ rule_good rs r
  unfolding rule_good
  not_there_not_good e = rw e

  -- of one that is, its fields decide
  pub good_decides : rule_there rs r ≡ true → good rs r ≡ rule_good rs r
  unfolding rule_good
  good_decides e = rw e

module _ (rs h : List ℕ) (r : ℕ) where
  -- a rule that is there, and a header of five words, are compared
  pub rule_matches_of_there : r < rule_count rs → length h ≡ field_count → rule_matches rs h r ≡ matches rs h r
  unfolding rule_matches
  rule_matches_of_there l e = rw (lt-ltb r (rule_count rs) l, eq-eqb (length h) field_count e)
