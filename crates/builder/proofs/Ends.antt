-- The ends of boxes: how many there are, and that they are the numbers at which some box ends.
use Prim.Native.Nat.{ℕ, ◌+◌, ◌-◌, ◌*◌, ◌≤◌, ◌<◌}
use native.Mathlib.Omega.{arith}
use mathlib.Core.Bool.{Bool, true, false, cond, ◌||◌}
use mathlib.Core.Path.{◌≡◌, refl, ap, ◌∙◌}
use mathlib.Core.Logic.{◌⊎◌, inl, inr}
use mathlib.Core.List.{List, [], ◌∷◌, ◌++◌}
use lib.ListN.{length, get_or, drop, length-append}
use lib.Dec.{eqb}
use borrow.Author.Tests.{eqb-true, eqb-false, eq-eqb, ne_eqb}
use Rattle.facts.specs.Lists.{keep, has, any_of}
use Rattle.facts.proofs.Bools.{sure}
use Rattle.facts.proofs.Members.{has_first, has_tail}
use Rattle.facts.proofs.Steps.{drop_step, drop_end, keep_none}
use Rattle.facts.proofs.Joined.{has_append}
use Rattle.facts.proofs.Keeping.{keep_append}
use Rattle.fields.specs.Words.{field_count}
use Rattle.built.specs.Boxes.{box_of}
use Rattle.built.specs.CutValues.{ends_at}
use Rattle.builder.specs.BoxWords.{box_count, box_word, boxes_in}
use Rattle.builder.specs.ChoiceSteps.{ends_of, all_ends}
use Rattle.builder.proofs.BoxWords.{low_there, high_there}

-- a range has at most two ends
pub ends_at_most : (low high : ℕ) → length (ends_of low high) ≤ 2
unfolding ends_of
ends_at_most low high = go (eqb low 0)
  where
    go : (t : Bool) → length (high ∷ cond t [] ((low - 1) ∷ [])) ≤ 2
    go true = omega arith
    go false = omega arith

-- a number is an end of a range exactly where it is its high, or its low is one more
pub ends_at_lem : (low high v : ℕ) → has (ends_of low high) v ≡ (eqb high v || eqb low (v + 1))
unfolding ends_of has
ends_at_lem low high v = ap (λ (t : Bool). eqb high v || t) (go (sure (eqb low 0)) (sure (eqb low (v + 1))))
  where
    go :
        (eqb low 0 ≡ true) ⊎ (eqb low 0 ≡ false) → (eqb low (v + 1) ≡ true) ⊎ (eqb low (v + 1) ≡ false) →
        has (cond (eqb low 0) [] ((low - 1) ∷ [])) v ≡ eqb low (v + 1)
    go (inl t) (inl u) = absurd (omega (arith, eqb-true low 0 t, eqb-true low (v + 1) u))
    go (inl t) (inr u) = rw (t, u)
    go (inr t) (inl u) = rw (t, u, eq-eqb (low - 1) v (omega (arith, eqb-true low (v + 1) u)))
    go (inr t) (inr u) =
        let some_low = eqb-false low 0 t in
        let other = eqb-false low (v + 1) u in
        rw (t, u, ne_eqb (low - 1) v (λ e. other (omega arith)))

module _ (ws : List ℕ) (f : ℕ) where
  -- there are at most two ends for each box
  pub all_ends_at_most : (met : List ℕ) → length (all_ends ws f met) ≤ 2 * length met
  unfolding all_ends
  all_ends_at_most [] = omega arith
  all_ends_at_most (r ∷ rs) =
      omega (
        arith,
        length-append (ends_of (box_word ws r f 0) (box_word ws r f 1)) (all_ends ws f rs),
        ends_at_most (box_word ws r f 0) (box_word ws r f 1),
        all_ends_at_most rs,
      )

  -- what is kept of the ends of boxes is what is kept of those of the first, and behind it what is kept of the others'
  pub ends_step :
      (p : ℕ → Bool) (met : List ℕ) (i : ℕ) {r low high : ℕ} → i < length met → r ≡ get_or met i 0 →
      low ≡ box_word ws r f 0 → high ≡ box_word ws r f 1 →
      keep p (all_ends ws f (drop i met)) ≡ keep p (ends_of low high) ++ keep p (all_ends ws f (drop (i + 1) met))
  unfolding all_ends
  ends_step p met i l er el eh =
      rw (drop_step met i l, el, eh, er)
      (keep_append p (ends_of (box_word ws (get_or met i 0) f 0) (box_word ws (get_or met i 0) f 1))
      (all_ends ws f (drop (i + 1) met)))

  -- past the last box there are none
  pub ends_none : (p : ℕ → Bool) (met : List ℕ) (i : ℕ) → length met ≤ i → keep p (all_ends ws f (drop i met)) ≡ []
  unfolding all_ends
  ends_none p met i l = rw (drop_end met i l) (keep_none p refl)

  module _ (v : ℕ) (k : f < field_count) where
    -- a number is an end of box r exactly where box r ends there
    ends_here :
        (r : ℕ) → r < box_count ws →
        has (ends_of (box_word ws r f 0) (box_word ws r f 1)) v ≡ ends_at (box_of (boxes_in ws) r) f v
    unfolding ends_at
    ends_here r l =
        ends_at_lem (box_word ws r f 0) (box_word ws r f 1) v ∙ rw (low_there ws r l f k, high_there ws r l f k)

    -- a number is an end of boxes exactly where some of them ends there
    pub ends_some :
        (met : List ℕ) → ((r : ℕ) → has met r ≡ true → r < box_count ws) →
        has (all_ends ws f met) v ≡ any_of (λ r. ends_at (box_of (boxes_in ws) r) f v) met
    unfolding all_ends has any_of
    ends_some [] h = refl
    ends_some (r ∷ rs) h =
        has_append (ends_of (box_word ws r f 0) (box_word ws r f 1)) (all_ends ws f rs) v ∙
        rw (ends_here r (h r (has_first r rs r refl)), ends_some rs (λ x e. h x (has_tail r rs x e)))
