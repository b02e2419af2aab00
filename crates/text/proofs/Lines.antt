-- The laws of lines, over any word and any separators: what is written reads back, and what reads well is what would be
-- written.
--   Fields ns ms us s vs r    from s a number behind each separator of ms was read; vs are the numbers us, which stand
--                             behind the separators ns, and those; r is left, and all the bytes are the same
--   Line w ms l vs            l is the line of this format with the numbers vs
use Prim.Native.Nat.{ℕ, ◌+◌, ◌^◌}
use native.Mathlib.Omega.{arith}
use mathlib.Core.Bool.{Bool, true, false, cond}
use mathlib.Core.Option.{none, some}
use mathlib.Core.List.{List, [], ◌∷◌, ◌++◌, append_assoc, append-nil}
use mathlib.Core.Path.{◌≡◌, refl, sym, ap, ◌∙◌, subst}
use lib.ListN.{length, take, length-append}
use Rattle.facts.proofs.Bools.{clash}
use Rattle.text.specs.Numbers.{Got, got, bad, digits_of, is_digit}
use Rattle.text.specs.Line.{then_read, read_word, read_behind, fields_from, wholly, read_line}
use Rattle.text.specs.Line.{print_fields, print_line, EachUnder, parting}
use Rattle.text.proofs.Numbers.{bad_got, Ends}
use Rattle.text.proofs.Below.{below_append}
pub use Rattle.text.proofs.Parts.{word_back, word_exact, behind_back, behind_exact}
pub use Rattle.text.proofs.Parts.{fields_snoc, fields_then, fields_front}

pub record Fields (ns ms us s vs r : List ℕ) : Type 0 where
  pub text : print_fields ns us ++ s ≡ print_fields (ns ++ ms) vs ++ r
  pub count : length vs ≡ length us + length ms
  pub below : EachUnder (2 ^ 32) vs

-- what `fields_exact` says
abbrev Exact : List ℕ → List ℕ → List ℕ → List ℕ → List ℕ → List ℕ → Type 0
Exact ns ms us s vs r =
    length ns ≡ length us → EachUnder (2 ^ 32) us → fields_from us ms s ≡ got vs r → Fields ns ms us s vs r

fields_step :
    (ns ms us : List ℕ) (m : ℕ) (s vs r : List ℕ) (g : Got ℕ) → read_behind m s ≡ g → length ns ≡ length us →
    EachUnder (2 ^ 32) us → then_read g (λ v rest. fields_from (us ++ (v ∷ [])) ms rest) ≡ got vs r →
    ((v : ℕ) (rest : List ℕ) → Exact (ns ++ (m ∷ [])) ms (us ++ (v ∷ [])) rest vs r) → Fields ns (m ∷ ms) us s vs r
fields_step ns ms us m s vs r (got v rest) e l b h ih =
    let x = behind_exact m s v rest e in
    let f = ih v rest (simp length-append (omega arith)) (below_append (2 ^ 32) us (v ∷ []) b (x.1, tt)) h in
    let same : print_fields ns us ++ s ≡ print_fields (ns ++ (m ∷ [])) (us ++ (v ∷ [])) ++ rest =
    rw (fields_snoc ns us m v l, append_assoc, x.0) in
    record {
      text = same ∙ f.text ∙ ap (λ (l : List ℕ). print_fields l vs ++ r) (append_assoc ns (m ∷ []) ms);
      count = omega (arith, f.count, length-append us (v ∷ []));
      below = f.below;
    }
fields_step ns ms us m s vs r bad e l b h ih = bad_got h

-- what reads from bytes behind the numbers so far is `Fields` of it: nothing else is in the bytes, and nothing is lost
pub fields_exact :
    (ns ms us s vs r : List ℕ) → length ns ≡ length us → EachUnder (2 ^ 32) us → fields_from us ms s ≡ got vs r →
    Fields ns ms us s vs r
unfolding fields_from
fields_exact ns [] us s vs r l b h =
    let ev : us ≡ vs = cc in
    let er : s ≡ r = cc in
    record { text = rw (ev, er, append-nil); count = rw (← ev) (omega arith); below = subst (EachUnder (2 ^ 32)) ev b }
fields_exact ns (m ∷ ms) us s vs r l b h =
    fields_step ns ms us m s vs r (read_behind m s) refl l b h
    (λ v rest. fields_exact (ns ++ (m ∷ [])) ms (us ++ (v ∷ [])) rest vs r)

-- there is nothing and there is something: this cannot be
pub none_some : {A B : Type 0} {a : A} → none ≡ some a → B
none_some h = let z : ◌≡◌ {A = ℕ} 0 1 = cc in absurd (omega arith)

-- a choice that is made passed its test
pub made : {A : Type 0} {a b : A} (c : Bool) → cond c (some a) none ≡ some b → (c ≡ true) × (a ≡ b)
made true e = (refl, cc)
made false e = none_some e

-- what is read wholly is read with no bytes left
pub wholly_got : {A : Type 0} (g : Got A) (a : A) → wholly g ≡ some a → g ≡ got a []
wholly_got (got x []) a h = let e : x ≡ a = cc in ap (λ y. got y []) e
wholly_got (got x (b ∷ bs)) a h = none_some h
wholly_got bad a h = none_some h

parting_cons :
    (m : ℕ) (ms : List ℕ) (t : Bool) → is_digit m ≡ t → cond t false (parting ms) ≡ true →
    (is_digit m ≡ false) × (parting ms ≡ true)
parting_cons m ms true e h = clash h refl
parting_cons m ms false e h = (e, h)

ends_fields :
    (ms vs r : List ℕ) → parting ms ≡ true → length vs ≡ length ms → Ends r → Ends (print_fields ms vs ++ r)
unfolding print_fields Ends
ends_fields [] vs r h l e = e
ends_fields (m ∷ ms) [] r h l e = e
ends_fields (m ∷ ms) (v ∷ vs) r h l e = (parting_cons m ms (is_digit m) refl h).0

-- numbers of 32 bits behind separators that are not digits read back, if no digit follows them
pub fields_back :
    (us ms vs r : List ℕ) → parting ms ≡ true → length vs ≡ length ms → EachUnder (2 ^ 32) vs → Ends r →
    fields_from us ms (print_fields ms vs ++ r) ≡ got (us ++ vs) r
unfolding fields_from print_fields
fields_back us [] [] r h l b e = rw append-nil
fields_back us [] (v ∷ vs) r h l b e = absurd (omega arith)
fields_back us (m ∷ ms) [] r h l b e = absurd (omega arith)
fields_back us (m ∷ ms) (v ∷ vs) r h l b e =
    let h' = (parting_cons m ms (is_digit m) refl h).1 in
    let l' : length vs ≡ length ms = omega arith in
    let rest : List ℕ = print_fields ms vs ++ r in
    rw (append_assoc (digits_of v), behind_back m v rest b.0 (ends_fields ms vs r h' l' e))
    (fields_back (us ++ (v ∷ [])) ms vs r h' l' b.1 e ∙ ap (λ (l : List ℕ). got l r) (append_assoc us (v ∷ []) vs))

-- a written line reads back to its numbers, if they have 32 bits and no separator is a digit
pub line_back :
    (w ms vs : List ℕ) → parting ms ≡ true → length vs ≡ length ms → EachUnder (2 ^ 32) vs →
    read_line w ms (print_line w ms vs) ≡ some vs
unfolding read_line print_line Ends
line_back w ms vs h l b =
    let e : fields_from [] ms (print_fields ms vs) ≡ got vs [] =
    ap (fields_from [] ms) (sym (append-nil (print_fields ms vs))) ∙ fields_back [] ms vs [] h l b tt in
    rw (word_back w (print_fields ms vs), e)

pub record Line (w ms l vs : List ℕ) : Type 0 where
  pub text : l ≡ print_line w ms vs
  pub count : length vs ≡ length ms
  pub below : EachUnder (2 ^ 32) vs

line_word :
    (w ms l vs : List ℕ) (g : Got (Unit {0})) → read_word w l ≡ g →
    wholly (then_read g (λ u rest. fields_from [] ms rest)) ≡ some vs → Line w ms l vs
unfolding print_line print_fields
line_word w ms l vs (got u rest) e h =
    let f = fields_exact [] ms [] rest vs [] refl tt (wholly_got (fields_from [] ms rest) vs h) in
    record {
      text = word_exact w l rest e ∙ ap (λ (x : List ℕ). w ++ x) (f.text ∙ append-nil (print_fields ms vs));
      count = omega (arith, f.count);
      below = f.below;
    }
line_word w ms l vs bad e h = none_some h

-- a line that reads well is the line that would be written of its numbers
pub line_exact : (w ms l vs : List ℕ) → read_line w ms l ≡ some vs → Line w ms l vs
unfolding read_line
line_exact w ms l vs h = line_word w ms l vs (read_word w l) refl h

fields_past : (ms vs : List ℕ) → print_fields ms (take (length ms) vs) ≡ print_fields ms vs
unfolding print_fields
fields_past [] vs = refl
fields_past (m ∷ ms) [] = refl
fields_past (m ∷ ms) (v ∷ vs) = ap (λ (l : List ℕ). m ∷ (digits_of v ++ l)) (fields_past ms vs)

-- a line is written of as many numbers as it has separators
pub line_past : (w ms vs : List ℕ) → print_line w ms (take (length ms) vs) ≡ print_line w ms vs
unfolding print_line
line_past w ms vs = ap (λ (l : List ℕ). w ++ l) (fields_past ms vs)
