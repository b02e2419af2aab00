-- `rule_file::read::read_lines` meets its contract: the kind is that of the text, then the first line decides, and then
-- the rules. Assumes nothing.
use Rattle.text.specs.declared.cursor.Cursor.{Cursor}
use Rattle.std.specs.Prelude.{Result}
use Rattle.refusals.specs.declared.Refusal.{Refusal}
use Prim.Native.Nat.{ℕ}
use mathlib.Core.Path.{◌≡◌, subst}
use Rattle.rule_file.specs.declared.kind.Kind.{Kind}
use Rattle.refusals.proofs.Passing.{passed}
use Rattle.rule_file.specs.Kinds.{kind_of}
use Rattle.rule_file.specs.ReadSteps.{FirstLineRead}
use Rattle.rule_file.proofs.read.read_lines.Goals as goal
use Rattle.rule_file.proofs.read.read_lines.Goals.{After-first_line}

-- what the first line says
first :
    (f : goal.After-first_line) {r : Result (ℕ × Cursor) Refusal} → f.first_line.result ≡ r →
    let s = f.args.text.now in
    FirstLineRead (kind_of s) s r
first f {r} e =
    let s = f.args.text.now in
    subst (λ (k : Kind). FirstLineRead k s r) f.kind_of-kind.ensures
    (subst (FirstLineRead _ s) e f.first_line.ensures)

pub rule_lines-requires : goal.rule_lines-requires
rule_lines-requires c = let h = first (goal.at.rule_lines-requires c).After-first_line c.in_ok-n.was in
    (h.stands, h.few)

pub returns-in_err-n : goal.returns-in_err-n
returns-in_err-n c = rw (passed _ c.from_residual.ensures.1)
    (first (goal.at.returns-in_err-n c).After-first_line c.in_err-n.was)

pub returns : goal.returns
returns c = rw (first (goal.at.returns c).After-first_line c.in_ok-n.was).moved
    (rw c.kind_of-kind.ensures at c.rule_lines.ensures)
