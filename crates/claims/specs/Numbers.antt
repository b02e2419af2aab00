-- The scope's numbers as bare numerals, each beside the definition that has it. Statements only.
--   ports k    k rules, good and no two alike: rule r is to destination port r, and from and to anything else
use Rattle.tree_file.specs.Reading.{HoldsTree}
use Rattle.rule_file.specs.Reading.{HoldsRules}
use Rattle.builder.specs.Said.{BuiltTree, Stopped, Whole}
use Rattle.tree_check.specs.Said.{Accepted}
use Rattle.std.specs.Prelude.{ℕ, zero, suc, ◌<◌, ◌≡◌, List, [], ◌∷◌, ◌++◌, map, Ok}
use Rattle.refusals.specs.declared.Refusal.TheVariants as no
use Rattle.refusals.specs.Paper.{refusal, on_paper}
use Rattle.fields.specs.Words as header
use Rattle.rule_file.specs.declared.kind.Kind.TheVariants as kind
use Rattle.rules.specs as rules
use Rattle.trees.specs as trees
use Rattle.tree_check.specs as check
use Rattle.text.specs as text
use Rattle.rule_file.specs as rule_file
use Rattle.tree_file.specs as tree_file
use Rattle.built.specs as built
use Rattle.builder.specs as builder
use Rattle.console.specs.Heads.{most_bytes}
use Rattle.policy.specs.Files.{most_file}
use Rattle.exports.specs.Answers.{as_eight, plainly, counts_last, in_two_words, first_in_words}

abbrev pub ports : ℕ → List ℕ
ports zero = []
ports (suc k) = ports k ++ (0 ∷ 0 ∷ 0 ∷ 0 ∷ 0 ∷ 65535 ∷ k ∷ k ∷ 0 ∷ 255 ∷ 0 ∷ [])

pub record Numbers : Type 0 where
  -- the most rules, nodes, pool words, cuts above a leaf, rules not parted further, bytes of a line and of a file
  pub limits :
      rules.Words.most_rules ∷ trees.Words.most_nodes ∷ trees.Words.most_pool ∷ check.Whole.most_cuts ∷
      built.CutValues.most_in_leaf ∷ most_bytes ∷ most_file ∷ [] ≡ 512 ∷ 2047 ∷ 4096 ∷ 63 ∷ 8 ∷ 64 ∷ 65536 ∷ []
  -- the words of a rule, those that it matches by, those of a node and of a header, and the mark of a leaf
  pub words :
      rules.Words.rule_words ∷ rules.Words.match_words ∷ trees.Words.node_words ∷ header.field_count ∷
      trees.Words.leaf_mark ∷ [] ≡ 11 ∷ 10 ∷ 3 ∷ 5 ∷ 5 ∷ []
  -- the absent port, the largest port, protocol and action, and the largest value of each field
  pub tops :
      header.absent_port ∷ header.largest_port ∷ rules.Words.largest_protocol ∷ rules.Words.largest_action ∷ header.tops ≡
      65536 ∷ 65535 ∷ 255 ∷ 255 ∷ 4294967295 ∷ 4294967295 ∷ 65536 ∷ 65536 ∷ 255 ∷ []
  -- number, place and extra of each refusal
  pub refusals :
      map on_paper
      (no.RuleWordsWrong ∷ no.RuleNotGood 21 ∷ no.HeaderWrong 31 ∷ no.OutputShort 41 42 ∷ no.TreeWordsWrong ∷
      no.NodeWrong 61 ∷ no.LeafWrong 71 ∷ no.LeafLacksRule 81 82 ∷ no.LineWrong 91 ∷ no.TextStops 101 ∷
      no.RuleHasTwin 111 112 ∷ no.FileNotRead ∷ []) ≡
      refusal 1 0 0 ∷ refusal 2 21 0 ∷ refusal 3 31 0 ∷ refusal 4 41 42 ∷ refusal 5 0 0 ∷ refusal 6 61 0 ∷
      refusal 7 71 0 ∷ refusal 8 81 82 ∷ refusal 9 91 0 ∷ refusal 10 101 0 ∷ refusal 11 111 112 ∷ refusal 12 0 0 ∷ []
  -- the eight words of a refusal by a C function, and of what each kind of call says
  pub answers :
      (as_eight plainly (on_paper (no.LeafLacksRule 3 1)) ≡ 8 ∷ 3 ∷ 1 ∷ 0 ∷ 0 ∷ 0 ∷ 0 ∷ 0 ∷ []) ×
      (as_eight plainly (rules.RuleCheck.paper (Ok 7)) ≡ 0 ∷ 0 ∷ 0 ∷ 7 ∷ 0 ∷ 0 ∷ 0 ∷ 0 ∷ []) ×
      (as_eight plainly (rules.LineAll.paper (Ok 7)) ≡ 0 ∷ 0 ∷ 0 ∷ 7 ∷ 0 ∷ 0 ∷ 0 ∷ 0 ∷ []) ×
      (as_eight in_two_words (rules.LineFirst.paper (rules.Hits.Rule 6 9)) ≡ 0 ∷ 0 ∷ 0 ∷ 7 ∷ 0 ∷ 0 ∷ 9 ∷ 0 ∷ []) ×
      (as_eight in_two_words (rules.LineFirst.paper rules.Hits.NoRule) ≡ 0 ∷ 0 ∷ 0 ∷ 0 ∷ 0 ∷ 0 ∷ 0 ∷ 0 ∷ []) ×
      (as_eight plainly (rules.RuleMisses.paper (Ok 4)) ≡ 0 ∷ 0 ∷ 0 ∷ 4 ∷ 0 ∷ 0 ∷ 0 ∷ 0 ∷ []) ×
      (as_eight counts_last (trees.TreeAll.paper (trees.Answers.Found 7 8 9)) ≡ 0 ∷ 0 ∷ 0 ∷ 7 ∷ 8 ∷ 9 ∷ 0 ∷ 0 ∷ []) ×
      (as_eight first_in_words (trees.TreeFirst.paper (trees.Answers.Rule 6 10 8 9)) ≡ 0 ∷ 0 ∷ 0 ∷ 7 ∷ 8 ∷ 9 ∷ 10 ∷ 0 ∷ []) ×
      (as_eight first_in_words (trees.TreeFirst.paper (trees.Answers.NoRule 8 9)) ≡ 0 ∷ 0 ∷ 0 ∷ 0 ∷ 8 ∷ 9 ∷ 0 ∷ 0 ∷ []) ×
      (as_eight plainly (check.TreeCheck.paper (Accepted 7 8)) ≡ 0 ∷ 0 ∷ 0 ∷ 7 ∷ 8 ∷ 0 ∷ 0 ∷ 0 ∷ []) ×
      (as_eight plainly (text.Said.paper (Ok 7)) ≡ 0 ∷ 0 ∷ 0 ∷ 7 ∷ 0 ∷ 0 ∷ 0 ∷ 0 ∷ []) ×
      (as_eight plainly (rule_file.Reading.paper (HoldsRules 7 kind.Rules)) ≡ 0 ∷ 0 ∷ 0 ∷ 7 ∷ 0 ∷ 0 ∷ 0 ∷ 0 ∷ []) ×
      (as_eight plainly (rule_file.Reading.paper (HoldsRules 7 kind.Acl)) ≡ 0 ∷ 0 ∷ 0 ∷ 7 ∷ 1 ∷ 0 ∷ 0 ∷ 0 ∷ []) ×
      (as_eight plainly (tree_file.Reading.paper (HoldsTree 7 8 9)) ≡ 0 ∷ 0 ∷ 0 ∷ 7 ∷ 8 ∷ 9 ∷ 0 ∷ 0 ∷ []) ×
      (as_eight plainly (builder.Build.paper (BuiltTree 7 8)) ≡ 0 ∷ 0 ∷ 0 ∷ 7 ∷ 8 ∷ 0 ∷ 0 ∷ 0 ∷ []) ×
      (as_eight plainly (builder.Build.step_paper (Whole 7 8)) ≡ 0 ∷ 0 ∷ 0 ∷ 7 ∷ 8 ∷ 1 ∷ 0 ∷ 0 ∷ []) ×
      (as_eight plainly (builder.Build.step_paper (Stopped 7 8)) ≡ 0 ∷ 0 ∷ 0 ∷ 7 ∷ 8 ∷ 0 ∷ 0 ∷ 0 ∷ [])
  -- eight rules are not parted: they are one leaf
  pub leaf_of_eight :
      built.BuiltTree.built_tree (ports 8) ≡ built.Trees.leaf (0 ∷ 1 ∷ 2 ∷ 3 ∷ 4 ∷ 5 ∷ 6 ∷ 7 ∷ [])
  -- nine rules are parted: there is more than one node
  pub cut_of_nine : 1 < built.Layout.size (built.BuiltTree.built_tree (ports 9))
  -- nine boxes that end at 0 to 8 in the second of two fields are parted there, at the middle number
  pub middle :
      built.Trees.grown 63 2 (map (λ k. (0 ∷ 9 ∷ []) ∷ (k ∷ k ∷ []) ∷ []) (0 ∷ 1 ∷ 2 ∷ 3 ∷ 4 ∷ 5 ∷ 6 ∷ 7 ∷ 8 ∷ []))
      ((0 ∷ 9 ∷ []) ∷ (0 ∷ 9 ∷ []) ∷ []) ≡
      built.Trees.cut 1 4 (built.Trees.leaf (0 ∷ 1 ∷ 2 ∷ 3 ∷ 4 ∷ [])) (built.Trees.leaf (5 ∷ 6 ∷ 7 ∷ 8 ∷ []))
