-- A text that reads well, cut before its end, is refused with 10 and the number of whole lines that are left.
use Prim.Native.Nat.{ℕ, suc, ◌+◌}
use native.Mathlib.Nat.{add-zero}
use native.Mathlib.Omega.{arith}
use mathlib.Core.Option.{Option, none, some}
use mathlib.Core.List.{List, [], ◌∷◌, ◌++◌}
use mathlib.Core.Path.{◌≡◌, refl, sym, ap, ◌∙◌}
use lib.ListN.{length}
use Rattle.refusals.specs.declared.Refusal.TheVariants.{TextStops}
use Rattle.text.specs.Text.{Text, whole, split, lines_of, unlines}
use Rattle.text.specs.Text.{Reading, good, refused, at_end, on_step, run, read_all}
use Rattle.text.proofs.Texts.{bytes, tail_of, onto, split_append, split_exact}
use Rattle.text.proofs.Runs.{refused_good}

nil_right : (t q : List ℕ) → [] ≡ t ++ q → q ≡ []
nil_right [] q e = sym e
nil_right (x ∷ t) q e = let z : ◌≡◌ {A = ℕ} 0 1 = cc in absurd (omega arith)

-- a state that holds a result takes no more lines
module _
    {S R : Type 0} (step : S → List ℕ → Option S) (finish : S → Option R)
    (last : (st : S) (l : List ℕ) (r : R) → finish st ≡ some r → step st l ≡ none)
  where
    cut_end :
        (st : S) (k : ℕ) (ms : List (List ℕ)) (t u : List ℕ) (r : R) (f : Option R) → finish st ≡ f →
        run step finish st k ms t ≡ good r → (ms ≡ [] → t ≡ [] → ⊥) → at_end f k u ≡ refused (TextStops k)
    unfolding run
    cut_end st k ms t u r none e h more = refl
    cut_end st k [] [] u r (some q) e h more = absurd (more refl refl)
    cut_end st k [] (b ∷ t) u r (some q) e h more =
        refused_good (ap (λ (o : Option R). at_end o k (b ∷ t)) (sym e) ∙ h)
    cut_end st k (m ∷ ms) t u r (some q) e h more =
        let on : S → Reading R = λ st'. run step finish st' (k + 1) ms t in
        refused_good (ap (λ (o : Option S). on_step o k on) (sym (last st m q e)) ∙ h)

    cut_step :
        (k n : ℕ) (all left : S → Reading R) (r : R) (o : Option S) → on_step o k all ≡ good r →
        ((st : S) → all st ≡ good r → left st ≡ refused (TextStops n)) → on_step o k left ≡ refused (TextStops n)
    cut_step k n all left r none h ih = refused_good h
    cut_step k n all left r (some st) h ih = ih st h

    cut_run :
        (st : S) (k : ℕ) (ls ms : List (List ℕ)) (t u : List ℕ) (r : R) → run step finish st k (ls ++ ms) t ≡ good r →
        (ms ≡ [] → t ≡ [] → ⊥) → run step finish st k ls u ≡ refused (TextStops (k + length ls))
    unfolding run
    cut_run st k [] ms t u r h more = rw add-zero (cut_end st k ms t u r (finish st) refl h more)
    cut_run st k (l ∷ ls) ms t u r h more =
        let e : k + suc (length ls) ≡ k + 1 + length ls = omega arith in
        let all : S → Reading R = λ st'. run step finish st' (k + 1) (ls ++ ms) t in
        let left : S → Reading R = λ st'. run step finish st' (k + 1) ls u in
        rw e
        (cut_step k (k + 1 + length ls) all left r (step st l) h (λ st' h'. cut_run st' (k + 1) ls ms t u r h' more))

    cut_text :
        (st : S) (k : ℕ) (p q : List ℕ) (x y : Text) (r : R) → split (p ++ q) ≡ onto (lines_of x) y →
        bytes y ≡ tail_of x ++ q → (q ≡ [] → ⊥) → read_all step finish st k (split (p ++ q)) ≡ good r →
        read_all step finish st k x ≡ refused (TextStops (k + length (lines_of x)))
    unfolding unlines
    cut_text st k p q (whole ls t) (whole ms u) r e f more h =
        cut_run st k ls ms u t r (rw e at h) (λ em eu. more (nil_right t q (rw (em, eu) at f)))

    -- if a text reads well, then what is left of it, cut before its end, is refused with 10 at its whole lines
    pub cut :
        (st : S) (k : ℕ) (p q : List ℕ) (r : R) → (q ≡ [] → ⊥) → read_all step finish st k (split (p ++ q)) ≡ good r →
        read_all step finish st k (split p) ≡ refused (TextStops (k + length (lines_of (split p))))
    cut st k p q r more h =
        let left : List ℕ = tail_of (split p) ++ q in
        cut_text st k p q (split p) (split left) r (split_append p q) (split_exact left) more h
