-- The lines of a list of rules, one after another.
use Prim.Native.Nat.{ℕ, ◌+◌, ◌*◌, ◌≤◌}
use native.Mathlib.Omega.{arith}
use mathlib.Core.List.{List, ◌++◌}
use mathlib.Core.Path.{◌≡◌, ap}
use lib.ListN.{length}
use Rattle.text.specs.Line.{ended}
use Rattle.text.specs.Text.{unlines}
use Rattle.text.specs.EndLines.{end_line}
use Rattle.text.proofs.Files.{lines_same, file_parts}
use Rattle.rule_file.specs.ListText.{Format, first_line, rule_line, line_of, rule_lines, list_text}
use Rattle.rule_file.proofs.Parts.{part_within, at_append}

module _ (F : Format) (ws : List ℕ) where
  -- what follows the words of i rules does not change their lines
  pub lines_append : (i : ℕ) (x : List ℕ) → i * F.width ≤ length ws → rule_lines F (ws ++ x) i ≡ rule_lines F ws i
  lines_append i x h =
      lines_same (line_of F (ws ++ x)) (line_of F ws) i
      (λ j b. ap (rule_line F j) (at_append F.width ws j x (omega (arith, part_within F.width b))))

  -- the first line, the text of all rules, and the end line are the text of the list
  pub text_parts :
      (n i : ℕ) → i ≡ n →
      (ended (first_line F n) ++ unlines (rule_lines F ws i)) ++ ended (end_line (n + 1)) ≡ list_text F n ws
  unfolding list_text
  text_parts n i e = rw e (file_parts (first_line F n) (rule_lines F ws n) n)
