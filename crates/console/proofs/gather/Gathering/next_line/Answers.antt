-- `console::gather::Gathering::next_line` meets its contract: it is the step at a newline. Assumes nothing.
use Prim.Native.Nat.{ℕ}
use mathlib.Core.Path.{refl, sym, ap, ◌∙◌}
use Rattle.console.specs.Gathered.{gathering}
use Rattle.console.proofs.Gathering.{step_newline}
use Rattle.console.proofs.gather.Gathering.next_line.Goals as goal

pub returns : goal.returns
returns c = let g = c.args.self in
    ap (λ (k : ℕ). gathering g.held 0 k) c.following.ensures ∙ sym (step_newline g _ refl)
