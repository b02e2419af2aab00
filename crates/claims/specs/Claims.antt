-- EVERY CLAIM, in one record: `claims` (proofs/Claims.antt) is its one proof. M is the prover's own parameter.
use Rattle.std.specs.Prelude.{ℕ, Bool, ◌≡◌, List}
use Rattle.refusals.specs.Verdict.{Fine}
use Rattle.fields.specs.Headers.{Legal}
use Rattle.rules.specs.Good.{list_verdict}
use Rattle.tree_check.specs.Serves.{Serves}
use Rattle.text.specs.Words.{tree_word, part_word}
use Rattle.ledger.specs.Ledger.{Entry}
use Rattle.claims.specs.Code.{Code}
use Rattle.claims.specs.Demand1.{Calls}
use Rattle.claims.specs.Demand2.{Twins, Matching, ByTree}
use Rattle.claims.specs.Files.{RuleFile, RuleKind, TreeFile, TreeOrPart}
use Rattle.claims.specs.Absent.{Absent}
use Rattle.claims.specs.Actions.{Actions}
use Rattle.claims.specs.Misses.{ByFields, Misses, Why}
use Rattle.claims.specs.Demand3.{TreeCheck}
use Rattle.claims.specs.Parts.{PartCheck}
use Rattle.claims.specs.Compiler.{Compiler}
use Rattle.claims.specs.Stops.{Stopping, Others}
use Rattle.claims.specs.Worked.{AllHold, table}
use Rattle.claims.specs.Numbers.{Numbers}
use Rattle.claims.specs.Beyond.{Program}
use Rattle.claims.specs.Runs.{Runs}

pub record Claims : Type 2 where
  pub code : {M : Type 1} → Code M
  pub calls : Calls
  pub twins : Twins
  pub matching : Matching
  pub absent : Absent
  pub actions : Actions
  pub by_fields : ByFields
  pub misses : (rs h : List ℕ) (n : ℕ) → list_verdict rs ≡ Fine → Legal h → Misses rs h n
  pub why : (rs : List ℕ) (n : ℕ) → Why rs n
  pub by_tree : (rs ns es : List ℕ) → Serves rs ns es → ByTree rs ns es
  pub rule_file : RuleFile
  pub rule_kind : RuleKind
  pub tree_file : TreeFile tree_word
  pub part_file : TreeFile part_word
  pub tree_or_part : TreeOrPart
  pub tree_check : TreeCheck
  pub part_check : PartCheck
  pub compiler : Compiler
  pub stopping : Stopping
  pub others : Others
  pub worked : AllHold table
  pub numbers : Numbers
  pub program : Program
  pub runs : (r : Bool) (es : List Entry) → Runs r es
