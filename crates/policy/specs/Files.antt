-- What the files say. Definitions only. A file is its bytes; or none, where it was not read to its end.
--   text_in f buffer   what was read of a file: none, or the bytes in front of the buffer
--   list_in f          the list that the rule file f holds: 12 where it was not read, else what its text says
--   tree_of f           the tree that the tree file f holds, in the same way
--   part_of f           the part that the part file f holds
--   most_file          the most bytes of a file that the programs read
use Rattle.policy.specs.Said.{Bytes, NotRead, File}
use Rattle.std.specs.Prelude.{ℕ, List, take}
use Rattle.std.proofs.Math.Option.{Option, none, some}
use Rattle.refusals.specs.declared.Refusal.TheVariants.{FileNotRead}
use Rattle.text.specs.Text.{Reading, refused}
use Rattle.rule_file.specs.RuleText.{rules_in}
use Rattle.tree_file.specs.TreeText.{Tree, tree_in, part_in}

abbrev pub text_in : File → List ℕ → Option (List ℕ)
text_in NotRead buffer = none
text_in (Bytes n) buffer = some (take n buffer)

abbrev pub read_by : {R : Type 0} → (List ℕ → Reading R) → Option (List ℕ) → Reading R
read_by read none = refused FileNotRead
read_by read (some s) = read s

unfoldable pub list_in : Option (List ℕ) → Reading (List ℕ)
list_in f = read_by rules_in f

unfoldable pub tree_of : Option (List ℕ) → Reading Tree
tree_of f = read_by tree_in f

unfoldable pub part_of : Option (List ℕ) → Reading Tree
part_of f = read_by part_in f

abbrev pub most_file : ℕ
most_file = 65536
