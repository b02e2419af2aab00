-- `tree_file::write::write_whole` meets its contract: the first pass counts, and the second writes. Assumes nothing.
use Prim.Native.Nat.{ℕ, ◌<◌, ◌^◌}
use native.Mathlib.Omega.{arith}
use mathlib.Core.List.{List}
use lib.ListN.{length, get_or}
use borrow.Author.Rules.{rules}
use Rattle.tree_file.specs.TreeLines.{file_text, Spelling}
use Rattle.text.proofs.Below.{below_of}
use Rattle.text.proofs.Said.{said_short, said_put}
use Rattle.tree_file.proofs.Lengths.{text_fits}
use Rattle.tree_file.proofs.write.write_whole.Goals as goal

-- the words of the nodes are of 32 bits, so that the text is short enough
fits :
    (word : List ℕ) (rules : ℕ) (nodes pool : List ℕ) → Spelling rules nodes pool →
    ((i : ℕ) → get_or nodes i 0 < 2 ^ 32) → length word < 2 ^ 63 → length (file_text word rules nodes pool) < 2 ^ 64
fits word rules nodes pool s below short =
    omega (arith, text_fits s (below_of (2 ^ 32) nodes (λ i b. below i)) word)

pub write_pass-needed-requires : goal.write_pass-needed-requires
write_pass-needed-requires c = c.requires

pub returns-then-text-needed : goal.returns-then-text-needed
returns-then-text-needed c =
    said_short (fits c.args.word.now _ _ _ c.requires (λ i. omega (arith, c.type_inv.nodes i)) (omega arith))
    c.write_pass-needed.ensures c.write_pass-needed.auto.text c.if-text-needed.true

pub write_pass-requires : goal.write_pass-requires
write_pass-requires c = c.requires

pub returns : goal.returns
returns c =
    said_put (fits c.args.word.now _ _ _ c.requires (λ i. omega (arith, c.type_inv.nodes i)) (omega arith))
    c.write_pass-needed.ensures c.write_pass-needed.auto.text c.if-text-needed.false c.write_pass.ensures
