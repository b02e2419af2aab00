-- `tree_file::read::read_pass` meets its contract: the first line, and then the nodes. Assumes nothing.
use Rattle.tree_file.specs.declared.read.Counts.{Counts}
use Rattle.text.specs.declared.cursor.Cursor.{Cursor}
use Rattle.std.specs.Prelude.{Result}
use Rattle.refusals.specs.declared.Refusal.{Refusal}
use mathlib.Core.Path.{◌≡◌, subst}
use Rattle.refusals.proofs.Passing.{passed}
use Rattle.tree_file.specs.ReadSteps.{FirstLineRead, PassRead}
use Rattle.tree_file.proofs.read.read_pass.Goals as goal
use Rattle.tree_file.proofs.read.read_pass.Goals.{After-first_line}

-- what the first line says
first :
    (f : goal.After-first_line) {r : Result (Counts × Cursor) Refusal} → f.first_line.result ≡ r →
    let s = f.args in FirstLineRead s.word.now s.text.now r
first f e = subst (FirstLineRead _ _) e f.first_line.ensures

pub node_lines-requires : goal.node_lines-requires
node_lines-requires c = let h = first (goal.at.node_lines-requires c).After-first_line c.in_ok-counts.was in
    (h.stands, h.limits)

pub returns-in_err-counts : goal.returns-in_err-counts
returns-in_err-counts c = rw (passed _ c.from_residual.ensures.1)
    (PassRead.refuses (first (goal.at.returns-in_err-counts c).After-first_line c.in_err-counts.was))

pub returns : goal.returns
returns c = rw (first (goal.at.returns c).After-first_line c.in_ok-counts.was).moved c.node_lines.ensures
