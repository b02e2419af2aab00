-- `tree_file::write::put_leaf` meets its contract: the word, two numbers, the entries, the newline. Assumes nothing.
use native.Mathlib.Omega.{arith}
use Rattle.text.proofs.Puts.{put_then, put_same}
use Rattle.tree_file.proofs.Writing.{leaf_parts}
use Rattle.tree_file.proofs.write.put_leaf.Goals as goal

pub returns : goal.returns
returns c = put_same (leaf_parts _ _ _ _)
    (put_then (omega arith)
    (put_then (omega arith) (put_then (omega arith) c.put_bytes-p.ensures c.put_fields-q.ensures)
    c.put_numbers-r.ensures)
    c.put.ensures)
