-- A leaf's entries, compared in turn: one entry, and the loop that stops at the first match.
use Rattle.trees.specs.Answers.{NoRule, Rule}
use Prim.Native.Nat.{ℕ, ◌+◌, ◌<◌}
use native.Mathlib.Omega.{arith}
use mathlib.Core.Bool.{Bool, true, false}
use mathlib.Core.Path.{◌≡◌, sym, ap, ◌∙◌}
use mathlib.Core.List.{List, [], ◌∷◌}
use lib.ListN.{length, get_or}
use Rattle.facts.specs.Lists.{keep}
use Rattle.facts.proofs.Steps.{keep_none, keep_in, keep_out}
use Rattle.facts.proofs.Under.{all_under_iff_at}
use Rattle.rules.specs.Words.{rule_count, action_of}
use Rattle.rules.specs.Matching.{matches, rule_matches}
use Rattle.rules.proofs.AnyWords.{rule_matches_of_there}
use Rattle.trees.specs.Search.{looked_at}
use Rattle.trees.specs.Steps.{Comparable, LeafFirst}

-- whether an entry that names a rule matches is what the rule's test says
pub compared :
    {rs h l : List ℕ} {i x : ℕ} {t : Bool} → Comparable rs h l → i < length l → x ≡ get_or l i 0 →
    t ≡ rule_matches rs h x → matches rs h (get_or l i 0) ≡ t
compared {rs} {h} {l} {i} w u e q =
    sym
    (q ∙ ap (rule_matches rs h) e ∙
    rule_matches_of_there rs h (get_or l i 0) ((all_under_iff_at (rule_count rs) l).0 w.known i u) w.five)

-- ---- up to the first match

-- the loop's invariant: i entries were compared and none of them matches
pub record Looking (p : ℕ → Bool) (all rest : List ℕ) (i : ℕ) : Type 0 where
  pub kept : keep p all ≡ keep p rest
  pub looked : length (looked_at p all) ≡ i + length (looked_at p rest)

module _ {p : ℕ → Bool} {all rest next : List ℕ} {i x : ℕ} (w : Looking p all rest i) (step : rest ≡ x ∷ next) where
  -- an entry that fails is passed over
  pub looking_step : p x ≡ false → Looking p all next (i + 1)
  unfolding looked_at
  looking_step t =
      record {
        kept = w.kept ∙ keep_out p x step t;
        looked = w.looked ∙ rw (step, t) (omega arith);
      }

  -- where this entry passes, one more than those before it were looked at
  looked_found : p x ≡ true → length (looked_at p all) ≡ i + 1
  unfolding looked_at
  looked_found t = w.looked ∙ rw (step, t)

-- where no entry is left, as many were looked at as were compared
looked_last :
    {p : ℕ → Bool} {all rest : List ℕ} {i : ℕ} → Looking p all rest i → rest ≡ [] → length (looked_at p all) ≡ i
unfolding looked_at
looked_last w e = w.looked ∙ rw e (omega arith)

module _ {rs h all rest : List ℕ} {i : ℕ} (seen : ℕ) (w : Looking (matches rs h) all rest i) where
  -- the first entry that matches, with its action, is the answer, compared with those before it
  pub first_is :
      {x action : ℕ} {next : List ℕ} → rest ≡ x ∷ next → matches rs h x ≡ true → action ≡ action_of rs x →
      LeafFirst rs h all seen (Rule x action seen (i + 1))
  first_is {x} step t a =
      record { is = rw (w.kept ∙ keep_in (matches rs h) x step t, looked_found w step t, a) }

  -- where no entry is left none matches, and all were compared
  pub first_none : {n : ℕ} → rest ≡ [] → n ≡ i → LeafFirst rs h all seen (NoRule seen n)
  first_none step e =
      record { is = rw (w.kept ∙ keep_none (matches rs h) step, looked_last w step, e) }
