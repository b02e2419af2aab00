-- `lent::store_all` meets its contract: at i the first i words are stored.
use mathlib.Core.Path.{◌≡◌}
use lib.ListN.{length, take}
use lib.Seq.{sets}
use Rattle.lent.proofs.store_all.Given as goal

abbrev pub invariant-loop-i : goal.invariant-loop-i
invariant-loop-i l = (length l.words ≡ length l.initial.words) × (l.words ≡ sets l.initial.words l.at (take l.i l.from))
