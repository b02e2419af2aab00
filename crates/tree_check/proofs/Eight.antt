-- Refusal 8: it is given exactly where the tree is well formed and a legal header gets a wrong list; and it names the
-- lowest leaf that lacks a rule, with the lowest rule that it lacks.
use Rattle.tree_check.specs.declared.preorder.Lack.{Lack}
use Rattle.tree_check.specs.Said.{Complete, Lacks}
use Rattle.std.specs.Prelude.{Option, Some}
use Prim.Native.Nat.{ℕ}
use native.Mathlib.Omega.{arith}
use mathlib.Core.Path.{◌≡◌, refl, ap, ◌∙◌}
use mathlib.Core.Logic.{◌↔◌}
use mathlib.Core.List.{List}
use Rattle.facts.proofs.Bools.{clash}
use Rattle.refusals.specs.declared.Refusal.TheVariants.{LeafLacksRule}
use Rattle.refusals.specs.Verdict.{Refused}
use Rattle.tree_check.specs.TreeCheck.{lack_verdict, check_verdict}
use Rattle.tree_check.specs.Lacks.{LacksRule, Misleads}
use Rattle.tree_check.proofs.OneLack.{lacks_first, lack_is_first}
use Rattle.tree_check.proofs.Agreement.{witness, listed_of_right, agrees_of_complete}
use Rattle.tree_check.proofs.Stages.{Reached, reached, lack_decides, formed, proper, reaches}

-- a lack that is refused with 8 is the one named
pub lack_eight : (y : Option Lack) {i r : ℕ} → lack_verdict y ≡ Refused (LeafLacksRule i r) → y ≡ Lacks i r
lack_eight Complete e = let z : ◌≡◌ {A = ℕ} 0 1 = cc in absurd (omega arith)
lack_eight (Some p) {i} {r} e =
    let at : p.node ≡ i = cc in
    let lacked : p.rule ≡ r = cc in
    ap (λ n. Lacks n p.rule) at ∙ ap (Lacks i) lacked

-- where 8 is given the root's part is reached, with that lack
eight_reached :
    (rs nodes pool : List ℕ) {i r : ℕ} → check_verdict rs nodes pool ≡ Refused (LeafLacksRule i r) →
    (c : ℕ) × (l : ℕ) × Reached rs nodes pool c l (Lacks i r)
eight_reached rs nodes pool e =
    let t = reached rs nodes pool refl e in
    let lack = lack_eight t.2 t.4 in
    (t.0, t.1, rw lack at t.3)

module _ {rs nodes pool : List ℕ} {c l i r : ℕ} (t : Reached rs nodes pool c l (Lacks i r)) where
  -- a legal header that comes to that leaf and matches that rule gets a wrong list
  pub misleads : Misleads rs nodes pool
  misleads =
      let f = lacks_first (formed t).root in
      let p = witness (formed t) f.way r f.rule f.meeting in
      record {
        proper = proper t;
        header = p.0;
        legal = p.1;
        wrong = λ e. clash (listed_of_right (formed t) f.way p.0 p.2 e r f.rule p.3) f.unlisted;
      }

module _ (rs nodes pool : List ℕ) where
  -- 8 is given exactly where the list is good, the sizes hold, the tree is well formed, and a legal header gets a wrong
  -- list
  pub eight_iff :
      ((i : ℕ) × (r : ℕ) × (check_verdict rs nodes pool ≡ Refused (LeafLacksRule i r))) ↔ Misleads rs nodes pool
  eight_iff = (λ e. misleads (eight_reached rs nodes pool e.2).2, of)
    where
      of : Misleads rs nodes pool → (i : ℕ) × (r : ℕ) × (check_verdict rs nodes pool ≡ Refused (LeafLacksRule i r))
      of m = go t.2 refl
        where
          t : (c : ℕ) × (l : ℕ) × (y : Option Lack) × Reached rs nodes pool c l y
          t = reaches m.proper

          go : (y : Option Lack) → t.2 ≡ y → (i : ℕ) × (r : ℕ) × (check_verdict rs nodes pool ≡ Refused (LeafLacksRule i r))
          go Complete e = absurd (m.wrong (agrees_of_complete (formed t.3) e m.header m.legal))
          go (Some p) e = (p.node, p.rule, lack_decides t.3 ∙ ap lack_verdict e)

  -- 8 with leaf i and rule r is given exactly where the list is good, the sizes hold, the tree is well formed, i is the
  -- lowest leaf that lacks a rule, and r the lowest rule that it lacks
  pub eight_at_iff :
      (i r : ℕ) → (check_verdict rs nodes pool ≡ Refused (LeafLacksRule i r)) ↔ LacksRule rs nodes pool i r
  eight_at_iff i r = (to, of)
    where
      to : check_verdict rs nodes pool ≡ Refused (LeafLacksRule i r) → LacksRule rs nodes pool i r
      to e =
          let t = (eight_reached rs nodes pool e).2 in
          record { proper = proper t; lacks = lacks_first (formed t).root }

      of : LacksRule rs nodes pool i r → check_verdict rs nodes pool ≡ Refused (LeafLacksRule i r)
      of m =
          let t = reaches m.proper in
          lack_decides t.3 ∙ ap lack_verdict (lack_is_first t.2 (formed t.3).root m.lacks)
