-- Demand 2 holds.
use Prim.Native.Nat.{ℕ}
use mathlib.Core.Path.{refl}
use mathlib.Core.List.{List, ◌++◌}
use Rattle.rules.proofs.EqualWords.{same_iff}
use Rattle.rules.proofs.Lists.{fine_iff_apart, eleven_iff, eleven_at_iff}
use Rattle.rules.proofs.Meaning.{matches_iff_inside}
use Rattle.rules.proofs.Found.{line_all_found, line_first_found, line_none_found}
use Rattle.rules.proofs.Found.{scan_all_found, scan_first_found, scan_none_found, scan_counts}
use Rattle.tree_check.specs.Serves.{Serves}
use Rattle.tree_check.proofs.Accepts.{accepts_iff_serves}
use Rattle.tree_check.proofs.Searches.{same_verdict, same_words, same_first}
use Rattle.tree_check.proofs.Found.{tree_all_found, tree_first_found, tree_none_found}
use Rattle.text.proofs.Plain.{Plain}
use Rattle.rule_file.proofs.ReadTwins.{read_eleven_iff}
use Rattle.rule_file.proofs.RoundTrips.{kind_of_lines}
use Rattle.rule_file.proofs.Calls as rules
use Rattle.tree_file.proofs.FirstWords.{tree_not_part, part_not_tree}
use Rattle.tree_file.proofs.Calls as trees
use Rattle.claims.specs.Demand2.{Twins, Matching, ByTree}
use Rattle.claims.specs.Files.{RuleFile, RuleKind, TreeFile, TreeOrPart}

pub twins_claim : Twins
twins_claim =
    record {
      words = same_iff;
      none = fine_iff_apart;
      eleven = eleven_iff;
      eleven_at = eleven_at_iff;
      in_text = read_eleven_iff;
    }

pub matching_claim : Matching
matching_claim =
    record {
      line_all = line_all_found;
      line_first = line_first_found;
      line_none = line_none_found;
      scan_all = scan_all_found;
      scan_first = scan_first_found;
      scan_none = scan_none_found;
      scan_counts = scan_counts;
      box = λ rs r g h. matches_iff_inside rs r g h;
    }

pub by_tree_claim : (rs ns es : List ℕ) → Serves rs ns es → ByTree rs ns es
by_tree_claim rs ns es s =
    let ok = (accepts_iff_serves rs ns es).1 s in
    record {
      refuses = same_verdict rs ns es ok;
      leaves = same_words rs ns es ok;
      same_first = same_first rs ns es ok;
      all = tree_all_found rs ns es s;
      first = tree_first_found rs ns es s;
      none = tree_none_found rs ns es s;
    }

pub rule_file_claim : RuleFile
rule_file_claim =
    record {
      writes = rules.fit_written;
      reads_back = λ k ws v w x y n r p under room q. rules.reads_back k ws p under room q;
      writes_back = λ k s v w x y n t r room q. rules.writes_back s r room q;
      cut_short = λ k p q v w x y n t r more d. rules.cut_short (p ++ q) r p q refl more d;
    }

pub rule_kind_claim : RuleKind
rule_kind_claim = kind_of_lines

pub tree_file_claim : (word : List ℕ) → Plain word → TreeFile word
tree_file_claim word plain =
    record {
      writes = trees.fit_written word;
      reads_back =
          λ n m ns es v w a b x y r p under room more q. trees.reads_back word n ns es p plain under room more q;
      writes_back = λ n m p s a b c d x y t r room q. trees.writes_back word s r room q;
      cut_short = λ n m p u v a b c d e f x y t r more q. trees.cut_short word (u ++ v) r u v refl more q;
    }

pub tree_or_part_claim : TreeOrPart
tree_or_part_claim = record { tree_only = tree_not_part; part_only = part_not_tree }
