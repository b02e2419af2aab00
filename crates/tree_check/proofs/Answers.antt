-- What an answer of the tree check says: a refusal is the check's, and the two numbers of an accepted tree are the
-- figures of its root's part, so that they bound every legal header and are met.
use Rattle.tree_check.specs.Said.{Accepted, Complete}
use Rattle.std.specs.Prelude.{Err}
use Prim.Native.Nat.{ℕ}
use mathlib.Core.Path.{◌≡◌, refl, sym, ap, ◌∙◌}
use mathlib.Core.Logic.{◌↔◌}
use mathlib.Core.List.{List, [], ◌∷◌}
use Rattle.refusals.specs.declared.Refusal.{Refusal}
use Rattle.refusals.specs.Verdict as verdict
use Rattle.refusals.specs.Paper.{success}
use Rattle.refusals.proofs.Promises.{says_refused, says_fine, refused_by, fine_by}
use Rattle.tree_check.specs.TreeCheck.{figures, check_verdict, TreeChecked}
use Rattle.tree_check.specs.Figures.{Figures}
use Rattle.tree_check.proofs.Stages.{Reached, lack_decides, formed}
use Rattle.tree_check.proofs.Accepts.{accepted}
use Rattle.tree_check.proofs.Figures.{figures_met}

module _ (rs nodes pool : List ℕ) where
  -- the answer is a refusal exactly where the check refuses so
  pub refused_iff :
      {why : Refusal} → TreeChecked rs nodes pool (Err why) ↔ (check_verdict rs nodes pool ≡ verdict.Refused why)
  refused_iff = (λ p. refused_by p refl, λ e. says_refused e refl)

  -- an accepted tree's answer is the figures of its root's part
  pub accepted_says : {c l : ℕ} → Reached rs nodes pool c l Complete → TreeChecked rs nodes pool (Accepted c l)
  accepted_says t = says_fine (lack_decides t) (sym (ap (λ p. success (figures p)) t.root))

  -- where the answer is that the tree is accepted, its root's part is reached, with these figures and without a lack
  pub accepted_means : {c l : ℕ} → TreeChecked rs nodes pool (Accepted c l) → Reached rs nodes pool c l Complete
  accepted_means {c} {l} p =
      let f = fine_by p refl in
      let t = accepted rs nodes pool f.0 in
      let same : c ∷ l ∷ [] ≡ t.0 ∷ t.1 ∷ [] = f.1 ∙ ap figures t.2.root in
      let cuts : t.0 ≡ c = cc in
      let longest : t.1 ≡ l = cc in
      rw (cuts, longest) at t.2

  -- the two numbers of an accepted tree's answer bound every legal header, and each is met by one
  pub accepted_figures : {c l : ℕ} → TreeChecked rs nodes pool (Accepted c l) → Figures nodes pool c l
  accepted_figures p = figures_met (formed (accepted_means p))
