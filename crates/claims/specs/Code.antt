-- Demand 1, the code: every call takes any words and bytes, and its promise has no condition. Statements only.
--   Code M     the code of each call meets the contract that stands over it, in the prover's own words: from
--              any lent words it ends, stays within them, overflows nothing, and its promise then holds
use Rattle.rules.proofs as in_rules
use Rattle.trees.proofs as in_trees
use Rattle.tree_check.proofs as in_check
use Rattle.rule_file.proofs as in_rule_file
use Rattle.tree_file.proofs as in_tree_file
use Rattle.builder.proofs as in_builder
use Rattle.console.proofs as in_console
use Rattle.policy.proofs as in_policy
use Rattle.exports.proofs as exports

abbrev pub Code : Type 1 → Type 2
Code M =
    (in_rules.check.rule_check.Statement.statement M × in_rules.line.line_all.Statement.statement M) ×
    (in_rules.line.line_first.Statement.statement M × in_rules.line.scan_all.Statement.statement M) ×
    (in_rules.line.scan_first.Statement.statement M × in_rules.miss.rule_misses.Statement.statement M) ×
    (in_trees.search.tree_all.Statement.statement M × in_trees.search.tree_first.Statement.statement M) ×
    (in_check.check.tree_check.Statement.statement M × in_check.part.part_check.Statement.statement M) ×
    (in_rule_file.write.rules_write.Statement.statement M × in_rule_file.write.acl_write.Statement.statement M) ×
    (in_rule_file.read.rules_read.Statement.statement M × in_tree_file.write.tree_write.Statement.statement M) ×
    (in_tree_file.read.tree_read.Statement.statement M × in_tree_file.write.part_write.Statement.statement M) ×
    (in_tree_file.read.part_read.Statement.statement M × in_builder.build.build.Statement.statement M) ×
    (in_builder.step.build_some.Statement.statement M × in_builder.step.build_on.Statement.statement M) ×
    (in_console.reply.reply.Statement.statement M × in_console.feed.feed.Statement.statement M) ×
    (in_console.feed.feed_why.Statement.statement M × in_console.feed.last_reply.Statement.statement M) ×
    (in_policy.list.take_list.Statement.statement M × in_policy.tree.take_tree.Statement.statement M) ×
    (in_policy.serving.who_serves.Statement.statement M × in_policy.line.verdict_line.Statement.statement M) ×
    (in_policy.compiled.compile_text.Statement.statement M × in_policy.part.take_part.Statement.statement M) ×
    (in_policy.part.goes_on.Statement.statement M × in_policy.step.some_text.Statement.statement M) ×
    (in_policy.step.on_text.Statement.statement M × exports.line.wick_rule_check.Statement.statement M) ×
    (exports.line.wick_line_all.Statement.statement M × exports.line.wick_line_first.Statement.statement M) ×
    (exports.line.wick_scan_all.Statement.statement M × exports.line.wick_scan_first.Statement.statement M) ×
    (exports.line.wick_rule_misses.Statement.statement M × exports.tree.wick_tree_all.Statement.statement M) ×
    (exports.tree.wick_tree_first.Statement.statement M × exports.tree.wick_tree_check.Statement.statement M) ×
    exports.rule_text.wick_rules_write.Statement.statement M ×
    (exports.rule_text.wick_acl_write.Statement.statement M × exports.rule_text.wick_rules_read.Statement.statement M) ×
    (exports.tree_text.wick_tree_write.Statement.statement M × exports.tree_text.wick_tree_read.Statement.statement M) ×
    (exports.tree_text.wick_part_write.Statement.statement M × exports.tree_text.wick_part_read.Statement.statement M) ×
    (exports.compiler.wick_build.Statement.statement M × exports.compiler.wick_build_some.Statement.statement M) ×
    exports.compiler.wick_build_on.Statement.statement M
