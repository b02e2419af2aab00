-- Absent ports: a header without a port matches exactly the rules whose range there is whole and that match it with any
-- port in that place.
use Prim.Native.Nat.{ℕ, ◌≤◌, ◌<◌}
use native.Mathlib.Omega.{arith}
use mathlib.Core.Bool.{true}
use mathlib.Core.Path.{◌≡◌}
use mathlib.Core.Logic.{◌↔◌, ◌⊎◌, inl, inr}
use mathlib.Core.List.{List}
use lib.ListN.{length, get_or, set}
use lib.Seq.{get_or-set_same, get_or-set_other}
use Rattle.facts.proofs.Cases.{same_or_not}
use Rattle.fields.specs.Words.{largest_port, absent_port, field_count}
use Rattle.fields.proofs.Ranges.{holds_iff_between}
use Rattle.fields.proofs.Ports.{absent_matches, present_matches, whole_iff}
use Rattle.fields.specs.declared.field.Field.TheVariants.{Ports}
use Rattle.rules.specs.Words.{form_of, field_of}
use Rattle.rules.specs.Matching.{agrees, matches}
use Rattle.rules.proofs.Misses.{matches_iff_agree}

module _
    (rs h : List ℕ) (r f low high p : ℕ) (l : f < field_count) (given : field_of (form_of f) rs r ≡ Ports low high)
    (words : length h ≡ field_count) (absent : get_or h f 0 ≡ absent_port) (port : p ≤ largest_port) where
  -- the header with the port in the place of the absent one
  abbrev sent : List ℕ
  sent = set h f p

  -- a header's value matches the rule in this field
  abbrev At : List ℕ → ℕ → Type 0
  At head g = agrees rs head r g ≡ true

  abbrev Whole : Type 0
  Whole = (low ≡ 0) × (high ≡ largest_port)

  -- in that field the absent port matches exactly the whole range
  absent_iff_whole : At h f ↔ Whole
  unfolding agrees
  absent_iff_whole = rw (given, absent_matches low high absent) (whole_iff low high)

  -- and a whole range matches the port
  port_matches : Whole → At sent f
  unfolding agrees
  port_matches w =
      rw (given, get_or-set_same h f p 0 (omega (arith, words)), present_matches low high {x = p} (λ e. omega arith))
      ((holds_iff_between low high p).1 (omega (arith, w.0), omega (arith, w.1)))

  -- the other fields are the same
  other : (g : ℕ) → (g ≡ f → ⊥) → get_or sent g 0 ≡ get_or h g 0
  other g d = get_or-set_other h f g p 0 (λ e. d (omega arith))

  -- a header without a port matches exactly the rules whose range there is whole and that match it with the port
  pub absent_iff :
      (matches rs h r ≡ true) ↔ ((low ≡ 0) × (high ≡ largest_port) × (matches rs (set h f p) r ≡ true))
  unfolding agrees
  absent_iff = (
    λ e.
        let a = (matches_iff_agree rs h r).0 e in
        let w = absent_iff_whole.0 (a f l) in
        (w.0, w.1, (matches_iff_agree rs sent r).1 (λ g k. to w g (a g k) (same_or_not g f))),
    λ t.
        let a = (matches_iff_agree rs sent r).0 t.2 in
        (matches_iff_agree rs h r).1 (λ g k. of (t.0, t.1) g (a g k) (same_or_not g f)),
  )
    where
      to : Whole → (g : ℕ) → At h g → (g ≡ f) ⊎ (g ≡ f → ⊥) → At sent g
      to w g e (inl q) = rw q (port_matches w)
      to w g e (inr d) = rw (other g d) e

      of : Whole → (g : ℕ) → At sent g → (g ≡ f) ⊎ (g ≡ f → ⊥) → At h g
      of w g e (inl q) = rw q (absent_iff_whole.1 w)
      of w g e (inr d) = rw (other g d) at e
