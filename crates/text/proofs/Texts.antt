-- The laws of texts: their lines and their bytes say the same.
--   bytes x         the bytes of the text x: each line with its newline, and the last part
--   tail_of x       its last part
--   onto ls x       the text x with the lines ls before its own
--   Found c s l r   the bytes c and s are the line l without a newline, its newline, and r
use Prim.Native.Nat.{ℕ}
use mathlib.Core.Bool.{Bool, true, false, cond}
use mathlib.Core.List.{List, [], ◌∷◌, ◌++◌, append_assoc, append-nil}
use mathlib.Core.Path.{◌≡◌, refl, sym, ap, ◌∙◌, subst}
use native.Mathlib.Omega.{arith}
use lib.Dec.{eqb}
use borrow.Author.Tests.{ne_eqb, eqb-true, eqb-false}
use Rattle.text.specs.Words.{newline}
use Rattle.text.specs.Text.{Text, whole, before, above, split, lines_of, unlines, line, no_line, next_from}
use Rattle.text.proofs.Plain.{Plain, AllPlain, plain_append}

-- a line was found and none was: this cannot be
pub line_none : {B : Type 0} {l r : List ℕ} → line l r ≡ no_line → B
line_none h = let z : ◌≡◌ {A = ℕ} 0 1 = cc in absurd (omega arith)

abbrev pub bytes : Text → List ℕ
bytes (whole ls t) = unlines ls ++ t

abbrev pub tail_of : Text → List ℕ
tail_of (whole ls t) = t

abbrev pub onto : List (List ℕ) → Text → Text
onto ls (whole ms t) = whole (ls ++ ms) t

bytes_newline : (x : Text) → bytes (above [] x) ≡ newline ∷ bytes x
unfolding unlines
bytes_newline (whole ls t) = refl

bytes_before : (b : ℕ) (x : Text) → bytes (before b x) ≡ b ∷ bytes x
unfolding unlines
bytes_before b (whole [] t) = refl
bytes_before b (whole (l ∷ ls) t) = refl

exact_step :
    (b : ℕ) (bs : List ℕ) (t : Bool) → eqb b newline ≡ t → bytes (split bs) ≡ bs →
    bytes (cond t (above [] (split bs)) (before b (split bs))) ≡ b ∷ bs
exact_step b bs true e h = bytes_newline (split bs) ∙ rw (h, eqb-true b newline e)
exact_step b bs false e h = bytes_before b (split bs) ∙ rw h

-- the bytes of a split text are those that were split
pub split_exact : (s : List ℕ) → bytes (split s) ≡ s
unfolding split unlines
split_exact [] = refl
split_exact (b ∷ bs) = exact_step b bs (eqb b newline) refl (split_exact bs)

before_above : (b : ℕ) (l : List ℕ) (x : Text) → before b (above l x) ≡ above (b ∷ l) x
before_above b l (whole ls t) = refl

-- a line, its newline and more bytes are split into that line and the split of those
pub split_line : (l r : List ℕ) → Plain l → split (l ++ (newline ∷ r)) ≡ above l (split r)
unfolding split
split_line [] r p = refl
split_line (b ∷ l) r p = rw (ne_eqb b newline p.0, split_line l r p.1) (before_above b l (split r))

-- bytes without a newline are a last part
pub split_plain : (l : List ℕ) → Plain l → split l ≡ whole [] l
unfolding split
split_plain [] p = refl
split_plain (b ∷ l) p = rw (ne_eqb b newline p.0, split_plain l p.1)

-- lines, each with its newline, are split into those lines and nothing else
pub split_lines : (ls : List (List ℕ)) → AllPlain ls → split (unlines ls) ≡ whole ls []
unfolding split unlines
split_lines [] p = refl
split_lines (l ∷ ls) p = split_line l (unlines ls) p.0 ∙ rw (split_lines ls p.1)

-- the bytes of two lists of lines, one after the other, are the bytes of the two
pub unlines_append : (ls ms : List (List ℕ)) → unlines (ls ++ ms) ≡ unlines ls ++ unlines ms
unfolding unlines
unlines_append [] ms = refl
unlines_append (l ∷ ls) ms = rw (unlines_append ls ms, append_assoc)

-- the bytes of one more line stand behind the others, with its newline
pub unlines_more : (ls : List (List ℕ)) (l : List ℕ) → unlines (ls ++ (l ∷ [])) ≡ unlines ls ++ (l ++ (newline ∷ []))
unfolding unlines
unlines_more ls l = unlines_append ls (l ∷ [])

pub record Found (c s l r : List ℕ) : Type 0 where
  pub text : c ++ s ≡ l ++ (newline ∷ r)
  pub plain : Plain l

module _ (c : List ℕ) (b : ℕ) (s : List ℕ) (p : Plain c) where
  found_step :
      (l r : List ℕ) (t : Bool) → eqb b newline ≡ t → cond t (line c s) (next_from (c ++ (b ∷ [])) s) ≡ line l r →
      (Plain (c ++ (b ∷ [])) → next_from (c ++ (b ∷ [])) s ≡ line l r → Found (c ++ (b ∷ [])) s l r) →
      Found c (b ∷ s) l r
  found_step l r true e h ih =
      let el : c ≡ l = cc in
      let er : s ≡ r = cc in
      record { text = rw (eqb-true b newline e, el, er); plain = subst Plain el p }
  found_step l r false e h ih =
      let f = ih (plain_append c (b ∷ []) p (eqb-false b newline e, tt)) h in
      record { text = sym (append_assoc c (b ∷ []) s) ∙ f.text; plain = f.plain }

  none_step : (t : Bool) → eqb b newline ≡ t → cond t (line c s) (next_from (c ++ (b ∷ [])) s) ≡ no_line →
      (Plain (c ++ (b ∷ [])) → next_from (c ++ (b ∷ [])) s ≡ no_line → Plain ((c ++ (b ∷ [])) ++ s)) →
      Plain (c ++ (b ∷ s))
  none_step true e h ih = line_none h
  none_step false e h ih = rw append_assoc at (ih (plain_append c (b ∷ []) p (eqb-false b newline e, tt)) h)

-- the line that is found has no newline in it, and stands before its newline and what is left
pub next_found : (c s l r : List ℕ) → Plain c → next_from c s ≡ line l r → Found c s l r
unfolding next_from
next_found c [] l r p h = line_none (sym h)
next_found c (b ∷ s) l r p h = found_step c b s p l r (eqb b newline) refl h (next_found (c ++ (b ∷ [])) s l r)

-- where no line is found there is no newline
pub next_none : (c s : List ℕ) → Plain c → next_from c s ≡ no_line → Plain (c ++ s)
unfolding next_from
next_none c [] p h = rw append-nil p
next_none c (b ∷ s) p h = none_step c b s p (eqb b newline) refl h (next_none (c ++ (b ∷ [])) s)

onto_nil : (x : Text) → onto [] x ≡ x
onto_nil (whole ms t) = refl

onto_above : (l : List ℕ) (ls : List (List ℕ)) (x : Text) → above l (onto ls x) ≡ onto (l ∷ ls) x
onto_above l ls (whole ms t) = refl

onto_before : (b : ℕ) (l : List ℕ) (ls : List (List ℕ)) (x : Text) → before b (onto (l ∷ ls) x) ≡ onto ((b ∷ l) ∷ ls) x
onto_before b l ls (whole ms t) = refl

-- one byte more in front of a text: at a newline its lines gain an empty one
abbrev extend : Bool → ℕ → Text → Text
extend t b x = cond t (above [] x) (before b x)

append_step :
    (b : ℕ) (p q : List ℕ) (x : Text) (t : Bool) → eqb b newline ≡ t →
    split (p ++ q) ≡ onto (lines_of x) (split (tail_of x ++ q)) →
    extend t b (split (p ++ q)) ≡ onto (lines_of (extend t b x)) (split (tail_of (extend t b x) ++ q))
unfolding split
append_step b p q (whole ls u) true e h = rw h (onto_above [] ls (split (u ++ q)))
append_step b p q (whole [] u) false e h =
    rw (h, e) (ap (before b) (onto_nil (split (u ++ q))) ∙ sym (onto_nil (before b (split (u ++ q)))))
append_step b p q (whole (l ∷ ls) u) false e h = rw h (onto_before b l ls (split (u ++ q)))

-- two parts of a text are split into the lines of the first, and the split of its last part with the second
pub split_append : (p q : List ℕ) → split (p ++ q) ≡ onto (lines_of (split p)) (split (tail_of (split p) ++ q))
unfolding split
split_append [] q = sym (onto_nil (split q))
split_append (b ∷ p) q = append_step b p q (split p) (eqb b newline) refl (split_append p q)
