-- `tree_file::write::file_write` meets its contract: a tree that is not refused is spelt. Assumes nothing.
use mathlib.Core.Path.{refl, sym, ◌∙◌}
use Rattle.refusals.proofs.Order.{then_refused}
use Rattle.refusals.proofs.Passing.{passed}
use Rattle.refusals.proofs.Promises.{writes_refused, writes_after}
use Rattle.tree_file.proofs.SpellingVerdict.{spelling_of_fine}
use Rattle.tree_file.proofs.write.file_write.Goals as goal

pub write_whole-requires : goal.write_whole-requires
write_whole-requires c = spelling_of_fine _ _ _ (sym c.spelling_verdict.ensures ∙ c.in_ok-spelling_verdict.was)

pub returns-in_err-spelling_verdict : goal.returns-in_err-spelling_verdict
returns-in_err-spelling_verdict c = let tree = sym c.spelling_verdict.ensures ∙ c.in_err-spelling_verdict.was in
    rw (passed _ c.from_residual.ensures.1) (writes_refused (then_refused _ tree) refl refl)

pub returns : goal.returns
returns c = let tree = sym c.spelling_verdict.ensures ∙ c.in_ok-spelling_verdict.was in
    writes_after tree c.write_whole.ensures
