-- A line whose second number counts those that follow it reads as the line of a format: two tabs, and so many more. So
-- the laws of lines serve for it.
--   counted_marks vs   the separators of such a line, its numbers being vs
use Prim.Native.Nat.{ℕ}
use native.Mathlib.Omega.{arith}
use mathlib.Core.Option.{some}
use mathlib.Core.List.{List, [], ◌∷◌}
use mathlib.Core.Path.{◌≡◌, refl, sym, ap, ◌∙◌}
use lib.ListN.{get_or, replicate}
use Rattle.text.specs.Words.{tab, two_tabs}
use Rattle.text.specs.Numbers.{Got, got, bad}
use Rattle.text.specs.Line.{then_read, read_word, fields_from, wholly, read_line, read_counted}
use Rattle.text.proofs.Numbers.{bad_got}
use Rattle.text.proofs.Lines.{none_some, wholly_got, fields_exact, fields_then, fields_front}

abbrev pub counted_marks : List ℕ → List ℕ
counted_marks vs = tab ∷ tab ∷ replicate (get_or vs 1 0) tab

-- the numbers us, and as many more as their second says
abbrev onward : List ℕ → List ℕ → Got (List ℕ)
onward us rest = fields_from us (replicate (get_or us 1 0) tab) rest

count_stays :
    (s us rest vs : List ℕ) (n : ℕ) → fields_from [] two_tabs s ≡ got us rest →
    fields_from us (replicate n tab) rest ≡ got vs [] → get_or vs 1 0 ≡ get_or us 1 0
count_stays s us rest vs n e h =
    let two = (fields_exact [] two_tabs [] s us rest refl tt e).count in
    fields_front us (replicate n tab) rest 1 vs [] (omega arith) h

marks_of :
    (s vs : List ℕ) (g : Got (List ℕ)) → fields_from [] two_tabs s ≡ g → then_read g onward ≡ got vs [] →
    fields_from [] (counted_marks vs) s ≡ got vs []
marks_of s vs (got us rest) e h =
    let n : get_or vs 1 0 ≡ get_or us 1 0 = count_stays s us rest vs (get_or us 1 0) e h in
    fields_then [] two_tabs (replicate (get_or vs 1 0) tab) s ∙ rw (e, n) h
marks_of s vs bad e h = bad_got h

of_marks :
    (s vs : List ℕ) (g : Got (List ℕ)) → fields_from [] two_tabs s ≡ g →
    then_read g (λ us rest. fields_from us (replicate (get_or vs 1 0) tab) rest) ≡ got vs [] →
    then_read g onward ≡ got vs []
of_marks s vs (got us rest) e h =
    let n : get_or vs 1 0 ≡ get_or us 1 0 = count_stays s us rest vs (get_or vs 1 0) e h in
    ap (λ (k : ℕ). fields_from us (replicate k tab) rest) (sym n) ∙ h
of_marks s vs bad e h = bad_got h

line_of :
    (vs : List ℕ) (g : Got (Unit {0})) →
    wholly (then_read g (λ u s. then_read (fields_from [] two_tabs s) onward)) ≡ some vs →
    wholly (then_read g (λ u s. fields_from [] (counted_marks vs) s)) ≡ some vs
line_of vs (got u s) h =
    rw (marks_of s vs (fields_from [] two_tabs s) refl (wholly_got (then_read (fields_from [] two_tabs s) onward) vs h))
line_of vs bad h = none_some h

of_line :
    (vs : List ℕ) (g : Got (Unit {0})) → wholly (then_read g (λ u s. fields_from [] (counted_marks vs) s)) ≡ some vs →
    wholly (then_read g (λ u s. then_read (fields_from [] two_tabs s) onward)) ≡ some vs
of_line vs (got u s) h =
    let f : fields_from [] (counted_marks vs) s ≡ got vs [] = wholly_got (fields_from [] (counted_marks vs) s) vs h in
    let e = sym (fields_then [] two_tabs (replicate (get_or vs 1 0) tab) s) ∙ f in
    rw (of_marks s vs (fields_from [] two_tabs s) refl e)
of_line vs bad h = none_some h

-- a line that reads with its count reads to the same numbers as a line of the format that they give
pub counted_line : (w l vs : List ℕ) → read_counted w l ≡ some vs → read_line w (counted_marks vs) l ≡ some vs
unfolding read_counted read_line
counted_line w l vs h = line_of vs (read_word w l) h

-- a line that reads to numbers as one of the format that they give reads to the same numbers with its count
pub line_counted : (w l vs : List ℕ) → read_line w (counted_marks vs) l ≡ some vs → read_counted w l ≡ some vs
unfolding read_counted read_line
line_counted w l vs h = of_line vs (read_word w l) h
