-- `tree_file::node::entries_in` meets its contract: at each turn the entries before it are read and stored.
-- Assumes nothing.
use Rattle.tree_file.proofs.Entries.{EntriesLeft}
use Rattle.tree_file.proofs.node.entries_in.Given as goal

abbrev pub invariant-loop-j : goal.invariant-loop-j
invariant-loop-j l = EntriesLeft l.line l.initial.at l.rules l.count l.filled l.j l.at l.initial.pool l.pool
