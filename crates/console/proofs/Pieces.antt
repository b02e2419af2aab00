-- However the input is cut into pieces, the replies are the same: those to one piece and then, from the state that it
-- leaves, those to the next.
use Prim.Native.Nat.{ℕ, ◌+◌, ◌<◌}
use native.Mathlib.Numerals.{add-one}
use mathlib.Core.Path.{◌≡◌, refl, sym, ap, ◌∙◌}
use mathlib.Core.List.{List, [], ◌∷◌, ◌++◌, append_assoc, append-nil}
use lib.ListN.{length, get_or, take}
use lib.Seq.{take-suc}
use Rattle.console.specs.declared.gather.Gathering.{Gathering}
use Rattle.console.specs.Gathered.{step, after, said, answers}

-- the state after one piece and then another
pub after_pieces : (g : Gathering) (xs ys : List ℕ) → after g (xs ++ ys) ≡ after (after g xs) ys
unfolding after
after_pieces g [] ys = refl
after_pieces g (x ∷ xs) ys = after_pieces (step g x) xs ys

-- the state after one byte more
pub after_more :
    (g : Gathering) (bs : List ℕ) (i : ℕ) → i < length bs →
    step (after g (take i bs)) (get_or bs i 0) ≡ after g (take (i + 1) bs)
unfolding after
after_more g bs i h = rw (add-one, take-suc bs i 0 h) (sym (after_pieces g (take i bs) (get_or bs i 0 ∷ [])))

module _ (answer : List ℕ → List ℕ) where
  -- the replies to one piece and then to another
  pub answers_pieces :
      (g : Gathering) (xs ys : List ℕ) →
      answers answer g (xs ++ ys) ≡ answers answer g xs ++ answers answer (after g xs) ys
  unfolding answers after
  answers_pieces g [] ys = refl
  answers_pieces g (x ∷ xs) ys =
      ap (λ (l : List ℕ). said answer g x ++ l) (answers_pieces (step g x) xs ys) ∙
      sym (append_assoc (said answer g x) (answers answer (step g x) xs) (answers answer (after (step g x) xs) ys))

  -- the replies to one byte more
  pub answers_more :
      (g : Gathering) (bs : List ℕ) (i : ℕ) → i < length bs →
      answers answer g (take (i + 1) bs) ≡
      answers answer g (take i bs) ++ said answer (after g (take i bs)) (get_or bs i 0)
  unfolding answers
  answers_more g bs i h =
      rw (add-one, take-suc bs i 0 h)
      (answers_pieces g (take i bs) (get_or bs i 0 ∷ []) ∙
      ap (λ (l : List ℕ). answers answer g (take i bs) ++ l) (append-nil _))
