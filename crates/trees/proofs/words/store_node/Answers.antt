-- `trees::words::store_node` meets its contract: at j the first j words are stored.
use Prim.Native.Nat.{ℕ, ◌+◌, ◌*◌, ◌≤◌, ◌<◌}
use native.Mathlib.Omega.{arith}
use mathlib.Core.Path.{◌≡◌, sym, ◌∙◌}
use mathlib.Core.List.{List}
use lib.ListN.{length, set}
use lib.Seq.{set_out, take-length}
use Rattle.facts.proofs.Cases.{WithinOrOver, within_or_over, at_most, over}
use Rattle.facts.proofs.Setting.{sets_more}
use Rattle.trees.specs.Words.{node_words}
use Rattle.trees.proofs.words.store_node.Goals as goal

-- a smaller place may stand for the one that is meant if it is past the end: then nothing is put at either
cut_off : (l : List ℕ) (i at x : ℕ) → i ≤ at → (i < length l → i ≡ at) → set l i x ≡ set l at x
cut_off l i at x h same = by (within_or_over (length l) i)
  where
    by : WithinOrOver (length l) i → set l i x ≡ set l at x
    by (at_most past) = set_out l i x past ∙ sym (set_out l at x (omega arith))
    by (over within) = rw (same within)

pub loop-j-preserved : goal.loop-j-preserved
loop-j-preserved c = let a = c.args in let l = c.loop-j in
    c.store.ensures ∙ cut_off l.nodes _ (a.i * node_words + l.j) _ (omega arith) (λ h. omega arith) ∙
    sets_more a.nodes.now l.nodes a.words _ l.j l.invariant (omega arith)

pub returns : goal.returns
returns c =
    let all : c.loop-j.j ≡ length c.args.words = omega arith in
    rw (all, take-length) at c.loop-j.invariant
