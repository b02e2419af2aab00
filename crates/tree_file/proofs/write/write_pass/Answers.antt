-- `tree_file::write::write_pass` meets its contract: at each turn the lines before it are put. Assumes nothing.
use native.Mathlib.Omega.{arith}
use mathlib.Core.Path.{sym}
use Rattle.text.proofs.Files.{text_none, text_more}
use Rattle.text.proofs.Puts.{put_none, put_then, put_same}
use Rattle.tree_file.proofs.Spelling.{few_nodes, sizes_of, writable_of}
use Rattle.tree_file.proofs.Writing.{text_parts}
use Rattle.tree_file.proofs.write.write_pass.Goals as goal

pub overflow_cast-count : goal.overflow_cast-count
overflow_cast-count c = omega (arith, few_nodes c.requires)

pub overflow_cast-pool : goal.overflow_cast-pool
overflow_cast-pool c = omega (arith, (sizes_of c.requires).short_pool)

pub loop-i-init : goal.loop-i-init
loop-i-init c = put_same (sym (text_none _)) (put_none _ _ (omega arith))

pub put_node-at-requires : goal.put_node-at-requires
put_node-at-requires c = writable_of c.requires _ (omega (arith, c.loop-i-test.true))

pub loop-i-preserved : goal.loop-i-preserved
loop-i-preserved c = put_same (text_more _ _)
    (put_then (omega arith) c.loop-i.invariant c.put_node-at.ensures)

pub overflow_cast-count-2 : goal.overflow_cast-count-2
overflow_cast-count-2 c = omega (arith, few_nodes c.requires)

pub overflow_add-count : goal.overflow_add-count
overflow_add-count c = omega (arith, few_nodes c.requires)

pub returns : goal.returns
returns c = put_same (text_parts _ _ _ _ _ (omega arith))
    (put_then (omega arith)
    (put_then (omega arith) c.put_first-at.ensures c.loop-i.invariant)
    c.put_end.ensures)
