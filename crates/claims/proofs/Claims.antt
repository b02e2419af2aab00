-- Every claim holds.
use Rattle.rules.proofs.Misses.{matches_iff_agree}
use Rattle.text.specs.Words.{tree_word, part_word}
use Rattle.tree_file.proofs.RoundTrips.{tree_plain, part_plain}
use Rattle.system.proofs.Results.{program_writes, why_writes, whole_writes, first_writes, next_writes}
use Rattle.claims.specs.Claims.{Claims}
use Rattle.claims.proofs.Demand1.{code_claim, calls_claim}
use Rattle.claims.proofs.Demand2.{twins_claim, matching_claim, by_tree_claim}
use Rattle.claims.proofs.Demand2.{rule_file_claim, rule_kind_claim, tree_file_claim, tree_or_part_claim}
use Rattle.claims.proofs.Absent.{absent_claim}
use Rattle.claims.proofs.Actions.{actions_claim}
use Rattle.claims.proofs.Misses.{misses_claim, why_claim}
use Rattle.claims.proofs.Demand3.{tree_check_claim}
use Rattle.claims.proofs.Parts.{part_check_claim}
use Rattle.claims.proofs.Compiler.{compiler_claim}
use Rattle.claims.proofs.Stops.{stopping_claim, others_claim}
use Rattle.claims.proofs.Worked.{worked}
use Rattle.claims.proofs.Numbers.{numbers_claim}
use Rattle.claims.proofs.Beyond.{program_claim}

pub claims : Claims
claims =
    record {
      code = code_claim;
      calls = calls_claim;
      twins = twins_claim;
      matching = matching_claim;
      absent = absent_claim;
      actions = actions_claim;
      by_fields = matches_iff_agree;
      misses = misses_claim;
      why = why_claim;
      by_tree = by_tree_claim;
      rule_file = rule_file_claim;
      rule_kind = rule_kind_claim;
      tree_file = tree_file_claim tree_word tree_plain;
      part_file = tree_file_claim part_word part_plain;
      tree_or_part = tree_or_part_claim;
      tree_check = tree_check_claim;
      part_check = part_check_claim;
      compiler = compiler_claim;
      stopping = stopping_claim;
      others = others_claim;
      worked = worked;
      numbers = numbers_claim;
      program = program_claim;
      runs = λ r es. record {
        program = program_writes;
        why = λ n small. why_writes n small;
        at_once = whole_writes;
        first_step = λ m. first_writes m;
        next_step = λ m. next_writes m;
      };
    }
