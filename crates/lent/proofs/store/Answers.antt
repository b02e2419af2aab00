-- `lent::store` meets its contract: a word past the end is not stored. Assumes nothing.
use mathlib.Core.Path.{sym}
use lib.Seq.{set_out}
use Rattle.lent.proofs.store.Goals as goal

pub returns-else-at-words : goal.returns-else-at-words
returns-else-at-words c = sym (set_out _ _ _ c.if-at-words.false)
