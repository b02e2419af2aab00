-- Demand 1 holds: the code meets its contracts, as the prover has found, and the promises fix what they speak of.
use mathlib.Core.Path.{refl}
use Rattle.facts.proofs.Equations.{equation_unique}
use Rattle.refusals.proofs.Promises.{says_unique, writes_unique, both_unique, writes_only}
use Rattle.refusals.proofs.Unique.{counted_apart}
use Rattle.rules.proofs.Unique.{first_apart}
use Rattle.trees.proofs.Unique as trees
use Rattle.tree_check.proofs.Unique.{answer_apart}
use Rattle.text.specs.Words.{tree_word, part_word}
use Rattle.rule_file.specs.RuleText.{rules_in}
use Rattle.rule_file.proofs.ReadAnswers.{read_apart as rules_apart}
use Rattle.tree_file.proofs.ReadAnswers.{read_apart as tree_apart}
use Rattle.tree_file.proofs.Calls.{read_writes}
use Rattle.builder.proofs.Unique.{built_apart, step_apart, build_writes, step_writes}
use Rattle.console.proofs.Unique.{fed_unique}
use Rattle.policy.proofs.Listing.{words_whole}
use Rattle.policy.proofs.Unique as policy
use Rattle.rules.proofs as in_rules
use Rattle.trees.proofs as in_trees
use Rattle.tree_check.proofs as in_check
use Rattle.rule_file.proofs as in_rule_file
use Rattle.tree_file.proofs as in_tree_file
use Rattle.builder.proofs as in_builder
use Rattle.console.proofs as in_console
use Rattle.policy.proofs as in_policy
use Rattle.exports.proofs as exports
use Rattle.exports.proofs.Unique.{tells, tells_one, tells_both}
use Rattle.claims.specs.Code.{Code}
use Rattle.claims.specs.Demand1.{Calls}

-- ---- the code

pub code_claim : {M : Type 1} → Code M
code_claim = (
  (in_rules.check.rule_check.Met.met, in_rules.line.line_all.Met.met),
  (in_rules.line.line_first.Met.met, in_rules.line.scan_all.Met.met),
  (in_rules.line.scan_first.Met.met, in_rules.miss.rule_misses.Met.met),
  (in_trees.search.tree_all.Met.met, in_trees.search.tree_first.Met.met),
  (in_check.check.tree_check.Met.met, in_check.part.part_check.Met.met),
  (in_rule_file.write.rules_write.Met.met, in_rule_file.write.acl_write.Met.met),
  (in_rule_file.read.rules_read.Met.met, in_tree_file.write.tree_write.Met.met),
  (in_tree_file.read.tree_read.Met.met, in_tree_file.write.part_write.Met.met),
  (in_tree_file.read.part_read.Met.met, in_builder.build.build.Met.met),
  (in_builder.step.build_some.Met.met, in_builder.step.build_on.Met.met),
  (in_console.reply.reply.Met.met, in_console.feed.feed.Met.met),
  (in_console.feed.feed_why.Met.met, in_console.feed.last_reply.Met.met),
  (in_policy.list.take_list.Met.met, in_policy.tree.take_tree.Met.met),
  (in_policy.serving.who_serves.Met.met, in_policy.line.verdict_line.Met.met),
  (in_policy.compiled.compile_text.Met.met, in_policy.part.take_part.Met.met),
  (in_policy.part.goes_on.Met.met, in_policy.step.some_text.Met.met),
  (in_policy.step.on_text.Met.met, exports.line.wick_rule_check.Met.met),
  (exports.line.wick_line_all.Met.met, exports.line.wick_line_first.Met.met),
  (exports.line.wick_scan_all.Met.met, exports.line.wick_scan_first.Met.met),
  (exports.line.wick_rule_misses.Met.met, exports.tree.wick_tree_all.Met.met),
  (exports.tree.wick_tree_first.Met.met, exports.tree.wick_tree_check.Met.met),
  exports.rule_text.wick_rules_write.Met.met,
  (exports.rule_text.wick_acl_write.Met.met, exports.rule_text.wick_rules_read.Met.met),
  (exports.tree_text.wick_tree_write.Met.met, exports.tree_text.wick_tree_read.Met.met),
  (exports.tree_text.wick_part_write.Met.met, exports.tree_text.wick_part_read.Met.met),
  (exports.compiler.wick_build.Met.met, exports.compiler.wick_build_some.Met.met),
  exports.compiler.wick_build_on.Met.met,
)

-- ---- the calls

pub calls_claim : Calls
calls_claim =
    record {
      rule_check = λ rs r s p q. says_unique counted_apart p q;
      line_all = λ rs h w. writes_only counted_apart (λ r a p. p) (λ e. refl);
      line_first = λ rs h r s p q. says_unique first_apart p q;
      scan_all = λ rs h w. writes_only counted_apart (λ r a p. p) (λ e. refl);
      scan_first = λ rs h r s p q. says_unique first_apart p q;
      rule_misses = λ rs h n r s p q. says_unique counted_apart p q;
      tree_all = λ rs ns es h w. writes_only trees.listed_apart (λ r a p. p) (λ e. refl);
      tree_first = λ rs ns es h r s p q. says_unique trees.first_apart p q;
      tree_check = λ rs ns es r s p q. says_unique answer_apart p q;
      part_check = λ rs n ns es r s p q. equation_unique p q;
      rules_write = λ rs w. writes_only counted_apart (λ r a p. p) (λ e. refl);
      acl_write = λ rs w. writes_only counted_apart (λ r a p. p) (λ e. refl);
      rules_read = λ s w. writes_only rules_apart (λ r a p. p) (λ e. words_whole s (rules_in s) refl);
      tree_write = λ k ns es w. writes_only counted_apart (λ r a p. p) (λ e. refl);
      tree_read = read_writes tree_word;
      part_write = λ k ns es w. writes_only counted_apart (λ r a p. p) (λ e. refl);
      part_read = read_writes part_word;
      build = build_writes;
      build_some = λ rs most ns es. step_writes _ _ _ ns es;
      build_on = λ rs n part kept most ns es. step_writes _ _ _ ns es;
      reply = λ by rs ns es k l w. writes_only counted_apart (λ r a p. p) (λ e. refl);
      feed = λ by rs ns es g bs w r s x y p q. fed_unique p q;
      feed_why = λ rs n g bs w r s x y p q. fed_unique p q;
      last_reply = λ g w. writes_only counted_apart (λ r a p. p) (λ e. refl);
      take_list = λ f w. writes_only counted_apart (λ r a p. p) (λ e. refl);
      take_tree = λ f ns es. (
        writes_only policy.taken_apart (λ r a p. p.1.0) (λ e. refl),
        writes_only policy.taken_apart (λ r a p. p.1.1) (λ e. refl),
      );
      who_serves = λ t rs ns es r s p q. equation_unique p q;
      verdict_line = λ v w. writes_only counted_apart (λ r a p. p) (λ e. refl);
      compile_text = λ rs w. writes_only counted_apart (λ r a p. p) (λ e. refl);
      take_part = λ f ns es. (
        writes_only policy.begun_apart (λ r a p. p.1.0) (λ e. refl),
        writes_only policy.begun_apart (λ r a p. p.1.1) (λ e. refl),
      );
      goes_on = λ t rs ns es r s p q. equation_unique p q;
      some_text = λ rs most w. writes_only counted_apart (λ r a p. p) (λ e. refl);
      on_text = λ rs n part kept most w. writes_only counted_apart (λ r a p. p) (λ e. refl);
      wick_rule_check = λ rs. tells (λ r t p q. says_unique counted_apart p q);
      wick_line_all = λ rs h w. tells_one (λ r t x y p q. writes_unique counted_apart p q);
      wick_line_first = λ rs h. tells (λ r t p q. says_unique first_apart p q);
      wick_scan_all = λ rs h w. tells_one (λ r t x y p q. writes_unique counted_apart p q);
      wick_scan_first = λ rs h. tells (λ r t p q. says_unique first_apart p q);
      wick_rule_misses = λ rs h n. tells (λ r t p q. says_unique counted_apart p q);
      wick_tree_all = λ rs ns es h w. tells_one (λ r t x y p q. writes_unique trees.listed_apart p q);
      wick_tree_first = λ rs ns es h. tells (λ r t p q. says_unique trees.first_apart p q);
      wick_tree_check = λ rs ns es. tells (λ r t p q. says_unique answer_apart p q);
      wick_rules_write = λ rs w. tells_one (λ r t x y p q. writes_unique counted_apart p q);
      wick_acl_write = λ rs w. tells_one (λ r t x y p q. writes_unique counted_apart p q);
      wick_rules_read = λ s w. tells_one (λ r t x y p q. writes_unique rules_apart p q);
      wick_tree_write = λ k ns es w. tells_one (λ r t x y p q. writes_unique counted_apart p q);
      wick_tree_read = λ s ns es. tells_both (λ r t u v x y p q. both_unique tree_apart p q);
      wick_part_write = λ k ns es w. tells_one (λ r t x y p q. writes_unique counted_apart p q);
      wick_part_read = λ s ns es. tells_both (λ r t u v x y p q. both_unique tree_apart p q);
      wick_build = λ rs ns es. tells_both (λ r t u v x y p q. both_unique built_apart p q);
      wick_build_some = λ rs most ns es. tells_both (λ r t u v x y p q. both_unique step_apart p q);
      wick_build_on = λ rs n part kept most ns es. tells_both (λ r t u v x y p q. both_unique step_apart p q);
    }
