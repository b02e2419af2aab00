-- `lent::store_all` meets its contract: at i the first i words are stored, and those for which there is no room would
-- change nothing.
use Prim.Native.Nat.{◌-◌, min}
use native.Mathlib.Omega.{arith}
use mathlib.Core.Path.{◌≡◌, ◌∙◌}
use lib.ListN.{length, length-set}
use Rattle.facts.proofs.Setting.{sets_more}
use Rattle.facts.proofs.Sets.{sets_room}
use Rattle.lent.proofs.store_all.Goals as goal

pub loop-i-preserved : goal.loop-i-preserved
loop-i-preserved c = let l = c.loop-i in
    let a = c.args in (
      simp length-set l.invariant.0,
      sets_more a.words.now l.words a.from.now a.at l.i l.invariant.1 (omega arith),
    )

pub returns : goal.returns
returns c = let a = c.args in
    let all : c.loop-i.i ≡ min (length a.from.now) (length a.words.now - a.at) = omega arith in
    rw all at c.loop-i.invariant.1 ∙ sets_room a.words.now a.from.now a.at
