-- A text of a list that is cut before its end is refused, over a format.
use Prim.Native.Nat.{ℕ}
use native.Mathlib.Nat.{zero-add}
use mathlib.Core.Option.{none, some}
use mathlib.Core.List.{List, [], ◌++◌}
use mathlib.Core.Path.{◌≡◌, refl, ap, ◌∙◌}
use lib.ListN.{length}
use Rattle.refusals.specs.declared.Refusal.TheVariants.{TextStops}
use Rattle.text.specs.Text.{good, refused, split, lines_of}
use Rattle.text.proofs.Lines.{none_some}
use Rattle.text.proofs.Cut.{cut}
use Rattle.rule_file.specs.ListText.{Format, State, start, within, over, step, finish, list_in}

-- a state that holds a list takes no more lines
no_more : (F : Format) (st : State) (l ws : List ℕ) → finish st ≡ some ws → step F st l ≡ none
no_more F start l ws e = none_some e
no_more F (within n i us) l ws e = none_some e
no_more F (over us) l ws e = refl

-- a text that reads well, cut before its end, is refused with 10 and the number of whole lines that are left
pub list_cut :
    (F : Format) (p q ws : List ℕ) → list_in F (p ++ q) ≡ good ws → (q ≡ [] → ⊥) →
    list_in F p ≡ refused (TextStops (length (lines_of (split p))))
unfolding list_in
list_cut F p q ws h more =
    cut (step F) finish (no_more F) start 0 p q ws more h ∙ ap (λ (k : ℕ). refused (TextStops k)) (zero-add _)
