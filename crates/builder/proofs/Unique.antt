-- The paper tells the answers of the build apart, and those of a step, so each promise allows one result and one state
-- of the lent words (`both_unique`).
use Rattle.std.specs.Prelude.{Err, Ok}
use Rattle.builder.specs.Said.{BuiltTree, Stopped, Whole}
use Prim.Native.Nat.{ℕ, ◌*◌}
use native.Mathlib.Omega.{arith}
use mathlib.Core.Path.{◌≡◌, refl, sym, ap, ◌∙◌}
use mathlib.Core.List.{List}
use Rattle.refusals.specs.Verdict.{Verdict}
use Rattle.refusals.specs.Promises.{Apart, WritesBoth, value}
use Rattle.refusals.proofs.Unique.{on_paper_unique, refusal_not_success}
use Rattle.refusals.proofs.Promises.{writes_only}
use Rattle.trees.specs.Words.{node_words}
use Rattle.built.specs.Trees as built
use Rattle.built.specs.Stops.{up_to}
use Rattle.built.specs.BuiltTree.{built_tree}
use Rattle.built.proofs.Laying.{length_laid}
use Rattle.builder.specs.Build.{paper, step_paper, TreeBuilt, StepBuilt}

-- answers of the build
pub built_apart : Apart paper
built_apart (Err a) (Err b) e = ap Err (on_paper_unique a b e)
built_apart (Err a) (Ok y) e = refusal_not_success e
built_apart (Ok x) (Err b) e = refusal_not_success (sym e)
built_apart (Ok x) (Ok y) e =
    let n : x.nodes ≡ y.nodes = cc in
    let p : x.pool ≡ y.pool = cc in
    ap (λ i. BuiltTree i x.pool) n ∙ ap (BuiltTree y.nodes) p

-- answers of a step
pub step_apart : Apart step_paper
step_apart (Err a) (Err b) e = ap Err (on_paper_unique a b e)
step_apart (Err a) (Whole n p) e = refusal_not_success e
step_apart (Err a) (Stopped n p) e = refusal_not_success e
step_apart (Whole n p) (Err b) e = refusal_not_success (sym e)
step_apart (Whole n p) (Whole n' p') e = cc
step_apart (Whole n p) (Stopped n' p') e = let z : ◌≡◌ {A = ℕ} 0 1 = cc in absurd (omega arith)
step_apart (Stopped n p) (Err b) e = refusal_not_success (sym e)
step_apart (Stopped n p) (Whole n' p') e = let z : ◌≡◌ {A = ℕ} 0 1 = cc in absurd (omega arith)
step_apart (Stopped n p) (Stopped n' p') e = cc

-- what a promise of the build allows is one answer, and it writes only the words that it counts
pub build_writes :
    (rs nodes pool : List ℕ) →
    WritesBoth nodes pool (TreeBuilt rs nodes pool) paper (λ vs. value 0 vs * node_words) (value 1)
build_writes rs nodes pool = (
  writes_only built_apart (λ r a p. p.1.0) (λ e. length_laid (built_tree rs) 0 0),
  writes_only built_apart (λ r a p. p.1.1) (λ e. refl),
)

-- the same of a step, whatever is judged before, and wherever it stops
pub step_writes :
    (v : Verdict) (e : ℕ) (t : built.Tree) (nodes pool : List ℕ) →
    WritesBoth nodes pool (StepBuilt v e t nodes pool) step_paper (λ vs. value 0 vs * node_words) (value 1)
step_writes v e t nodes pool = (
  writes_only step_apart (λ r a p. p.1.0) (λ q. length_laid (up_to e t 0) 0 0),
  writes_only step_apart (λ r a p. p.1.1) (λ q. refl),
)
