-- The parts of a line, read from its front: its word, a number behind a separator, and more such numbers.
use Prim.Native.Nat.{ℕ, ◌^◌, ◌<◌}
use native.Mathlib.Omega.{arith}
use mathlib.Core.Bool.{Bool, true, false, cond}
use mathlib.Core.List.{List, [], ◌∷◌, ◌++◌, append_assoc, append-nil}
use mathlib.Core.Path.{◌≡◌, refl, sym, ap, ◌∙◌}
use lib.Dec.{eqb}
use lib.ListN.{length, get_or, length-append, get_or-append}
use borrow.Author.Tests.{eq-eqb, eqb-true}
use Rattle.text.specs.Numbers.{Got, got, bad, digits_of, read_number}
use Rattle.text.specs.Line.{then_read, read_word, read_behind, fields_from, print_fields}
use Rattle.text.proofs.Numbers.{bad_got, Ends, number_back, number_exact}

-- a word reads back, and what follows it is left
pub word_back : (w s : List ℕ) → read_word w (w ++ s) ≡ got tt s
unfolding read_word
word_back [] s = refl
word_back (b ∷ w) s = rw (eq-eqb b b refl) (word_back w s)

word_step :
    (b w : ℕ) (ws bs r : List ℕ) (t : Bool) → eqb b w ≡ t → cond t (read_word ws bs) bad ≡ got tt r →
    (read_word ws bs ≡ got tt r → bs ≡ ws ++ r) → b ∷ bs ≡ w ∷ (ws ++ r)
word_step b w ws bs r true e h ih = rw (eqb-true b w e, ih h)
word_step b w ws bs r false e h ih = bad_got h

-- bytes from which a word reads are the word and what is left
pub word_exact : (w s r : List ℕ) → read_word w s ≡ got tt r → s ≡ w ++ r
unfolding read_word
word_exact [] s r h = cc
word_exact (w ∷ ws) [] r h = bad_got h
word_exact (w ∷ ws) (b ∷ bs) r h = word_step b w ws bs r (eqb b w) refl h (word_exact ws bs r)

-- a separator and the digits of a number of 32 bits read back to the number, if no digit follows them
pub behind_back :
    (m v : ℕ) (s : List ℕ) → v < 2 ^ 32 → Ends s → read_behind m (m ∷ (digits_of v ++ s)) ≡ got v s
unfolding read_behind
behind_back m v s h e = rw (eq-eqb m m refl) (number_back (2 ^ 32) v s h e)

behind_step :
    (m b : ℕ) (bs : List ℕ) (v : ℕ) (r : List ℕ) (t : Bool) → eqb b m ≡ t →
    cond t (read_number (2 ^ 32) bs) bad ≡ got v r → (b ∷ bs ≡ m ∷ (digits_of v ++ r)) × (v < 2 ^ 32)
behind_step m b bs v r true e h =
    let x = number_exact (2 ^ 32) bs v r (omega arith) h in
    (rw (eqb-true b m e, x.0), x.1)
behind_step m b bs v r false e h = bad_got h

-- bytes from which a number behind a separator reads are the separator, the digits of that number, which has 32 bits,
-- and what is left
pub behind_exact :
    (m : ℕ) (s : List ℕ) (v : ℕ) (r : List ℕ) → read_behind m s ≡ got v r →
    (s ≡ m ∷ (digits_of v ++ r)) × (v < 2 ^ 32)
unfolding read_behind
behind_exact m [] v r h = bad_got h
behind_exact m (b ∷ bs) v r h = behind_step m b bs v r (eqb b m) refl h

-- one more number with its separator is written behind the others
pub fields_snoc :
    (ms vs : List ℕ) (m v : ℕ) → length ms ≡ length vs →
    print_fields (ms ++ (m ∷ [])) (vs ++ (v ∷ [])) ≡ print_fields ms vs ++ (m ∷ digits_of v)
unfolding print_fields
fields_snoc [] [] m v h = ap (λ (l : List ℕ). m ∷ l) (append-nil (digits_of v))
fields_snoc [] (x ∷ vs) m v h = absurd (omega arith)
fields_snoc (k ∷ ms) [] m v h = absurd (omega arith)
fields_snoc (k ∷ ms) (x ∷ vs) m v h = rw (fields_snoc ms vs m v (omega arith), append_assoc)

-- what `fields_then` says
abbrev Then : List ℕ → List ℕ → List ℕ → List ℕ → Type 0
Then vs ms ns s = fields_from vs (ms ++ ns) s ≡ then_read (fields_from vs ms s) (λ us rest. fields_from us ns rest)

then_step :
    (vs ms ns : List ℕ) (g : Got ℕ) → ((v : ℕ) (rest : List ℕ) → Then (vs ++ (v ∷ [])) ms ns rest) →
    then_read g (λ v rest. fields_from (vs ++ (v ∷ [])) (ms ++ ns) rest)
    ≡ then_read (then_read g (λ v rest. fields_from (vs ++ (v ∷ [])) ms rest)) (λ us rest. fields_from us ns rest)
then_step vs ms ns (got v rest) ih = ih v rest
then_step vs ms ns bad ih = refl

-- reading the numbers behind two lists of separators is reading those behind the first, and then the others
pub fields_then :
    (vs ms ns s : List ℕ) →
    fields_from vs (ms ++ ns) s ≡ then_read (fields_from vs ms s) (λ us rest. fields_from us ns rest)
unfolding fields_from
fields_then vs [] ns s = refl
fields_then vs (m ∷ ms) ns s =
    then_step vs ms ns (read_behind m s) (λ v rest. fields_then (vs ++ (v ∷ [])) ms ns rest)

front_step :
    (us ms : List ℕ) (i : ℕ) (vs r : List ℕ) (g : Got ℕ) →
    ((v : ℕ) (rest : List ℕ) → fields_from (us ++ (v ∷ [])) ms rest ≡ got vs r → get_or vs i 0 ≡ get_or us i 0) →
    then_read g (λ v rest. fields_from (us ++ (v ∷ [])) ms rest) ≡ got vs r → get_or vs i 0 ≡ get_or us i 0
front_step us ms i vs r (got v rest) ih h = ih v rest h
front_step us ms i vs r bad ih h = bad_got h

-- the numbers so far stand in front of those that are read
pub fields_front :
    (us ms s : List ℕ) (i : ℕ) (vs r : List ℕ) → i < length us → fields_from us ms s ≡ got vs r →
    get_or vs i 0 ≡ get_or us i 0
unfolding fields_from
fields_front us [] s i vs r p h = let e : us ≡ vs = cc in ap (λ (l : List ℕ). get_or l i 0) (sym e)
fields_front us (m ∷ ms) s i vs r p h =
    front_step us ms i vs r (read_behind m s)
    (λ v rest e. fields_front (us ++ (v ∷ [])) ms rest i vs r (omega (arith, length-append us (v ∷ []))) e
    ∙ get_or-append us (v ∷ []) 0 i p) h
