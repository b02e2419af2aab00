-- What refusal 8 is to mean. Definitions only.
--   LacksNone rs nodes pool d x     leaf x, whose box is d, lists every rule whose box meets d
--   LacksFirst rs nodes pool i r    i is the lowest leaf that lacks a rule, and r the lowest rule that it lacks: the
--                                   box of r meets the leaf's, `box`, and r is not listed; each lower rule that meets
--                                   it is listed, and each lower leaf lacks none
--   LacksRule rs nodes pool i r     `Proper`, and i and r are so
--   Misleads rs nodes pool          `Proper`, and `header` is legal and gets from the tree another list than from the
--                                   rules
use Rattle.std.specs.Prelude.{ℕ, ◌<◌, true, false, ◌≡◌, ◌≢◌, List}
use Rattle.facts.specs.Lists.{has}
use Rattle.fields.specs.Words.{field_count}
use Rattle.fields.specs.Headers.{Legal}
use Rattle.fields.specs.Boxes.{meets, root_box}
use Rattle.rules.specs.Words.{rule_count}
use Rattle.rules.specs.Matching.{matching, rule_box}
use Rattle.trees.specs.Words.{entries}
use Rattle.trees.specs.Search.{tree_list}
use Rattle.tree_check.specs.Whole.{Proper}
use Rattle.tree_check.specs.Leads.{Leads}

abbrev pub LacksNone : List ℕ → List ℕ → List ℕ → List (List ℕ) → ℕ → Type 0
LacksNone rs nodes pool d x =
    (r : ℕ) → r < rule_count rs → meets field_count (rule_box rs r) d ≡ true → has (entries nodes pool x) r ≡ true

pub record LacksFirst (rs nodes pool : List ℕ) (i r : ℕ) : Type 0 where
  pub box : List (List ℕ)
  pub cuts : List ℕ
  pub way : Leads nodes root_box 0 cuts i box
  pub rule : r < rule_count rs
  pub meeting : meets field_count (rule_box rs r) box ≡ true
  pub unlisted : has (entries nodes pool i) r ≡ false
  pub lower_rules : (q : ℕ) → q < r → meets field_count (rule_box rs q) box ≡ true → has (entries nodes pool i) q ≡ true
  pub lower_leaves :
      (passed : List ℕ) (x : ℕ) (d : List (List ℕ)) → Leads nodes root_box 0 passed x d → x < i →
      LacksNone rs nodes pool d x

pub record LacksRule (rs nodes pool : List ℕ) (i r : ℕ) : Type 0 where
  pub proper : Proper rs nodes pool
  pub lacks : LacksFirst rs nodes pool i r

pub record Misleads (rs nodes pool : List ℕ) : Type 0 where
  pub proper : Proper rs nodes pool
  pub header : List ℕ
  pub legal : Legal header
  pub wrong : tree_list rs nodes pool header ≢ matching rs header
