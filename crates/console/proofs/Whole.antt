-- The replies to the whole input: byte by byte they are those to its lines, and at its end that to its last part.
--   from answer k p x    what is replied to the text x where the bytes p of its first line are gathered already
use Prim.Native.Nat.{ℕ}
use mathlib.Core.Bool.{Bool, true, false}
use mathlib.Core.Path.{◌≡◌, refl, sym, ap, ◌∙◌}
use mathlib.Core.List.{List, [], ◌∷◌, ◌++◌, append_assoc, append-nil}
use lib.Dec.{eqb}
use borrow.Author.Tests.{eqb-true, eqb-false}
use Rattle.text.specs.Words.{newline}
use Rattle.text.specs.Places.{following}
use Rattle.text.specs.Text.{Text, whole, before, above, split}
use Rattle.console.specs.declared.gather.Gathering.{Gathering}
use Rattle.console.specs.Replies.{line_reply}
use Rattle.console.specs.Gathered.{begun, step, last_reply, after, said, answers, on_last, replies}
use Rattle.console.specs.Gathered.{on_text, input_replies}
use Rattle.console.proofs.Gathering.{said_none, said_line}
use Rattle.console.proofs.Held.{Holds, holds_begun, holds_next, holds_more, holds_reply, holds_last}

module _ (answer : List ℕ → List ℕ) where
  abbrev from : ℕ → List ℕ → Text → List ℕ
  from k p (whole [] t) = on_last k (p ++ t)
  from k p (whole (l ∷ ls) t) = line_reply answer k (p ++ l) ++ replies answer (following k) ls t

  -- with nothing gathered it is the replies to the text
  from_first : (k : ℕ) (x : Text) → from k [] x ≡ on_text answer k x
  unfolding replies
  from_first k (whole [] t) = refl
  from_first k (whole (l ∷ ls) t) = refl

  -- a newline ends what was gathered
  from_newline :
      (k : ℕ) (p : List ℕ) (x : Text) → from k p (above [] x) ≡ line_reply answer k p ++ from (following k) [] x
  from_newline k p (whole ls t) = rw (append-nil p, from_first (following k) (whole ls t))

  -- another byte is gathered
  from_byte : (k b : ℕ) (p : List ℕ) (x : Text) → from k p (before b x) ≡ from k (p ++ (b ∷ [])) x
  from_byte k b p (whole [] t) = ap (on_last k) (sym (append_assoc p (b ∷ []) t))
  from_byte k b p (whole (l ∷ ls) t) =
      ap (λ (x : List ℕ). line_reply answer k x ++ replies answer (following k) ls t) (sym (append_assoc p (b ∷ []) l))

  -- what is replied byte by byte, and at the end
  abbrev all : Gathering → List ℕ → List ℕ
  all g s = answers answer g s ++ last_reply (after g s)

  one_byte :
      {g : Gathering} {p : List ℕ} {k : ℕ} (b : ℕ) (s : List ℕ) (t : Bool) → eqb b newline ≡ t → Holds p k g →
      ((q : List ℕ) (j : ℕ) → Holds q j (step g b) → all (step g b) s ≡ from j q (split s)) →
      all g (b ∷ s) ≡ from k p (split (b ∷ s))
  unfolding answers after split
  one_byte {g} {p} {k} b s true e q next =
      let new = eqb-true b newline e in
      append_assoc (said answer g b) (answers answer (step g b) s) (last_reply (after (step g b) s)) ∙
      rw (e, next [] (following k) (holds_next q b new), ← said_line answer g b new, holds_reply q answer)
      (sym (from_newline k p (split s)))
  one_byte {g} {p} {k} b s false e q next =
      let same = eqb-false b newline e in
      append_assoc (said answer g b) (answers answer (step g b) s) (last_reply (after (step g b) s)) ∙
      rw (e, next (p ++ (b ∷ [])) k (holds_more q b same), ← said_none answer g b same)
      (sym (from_byte k b p (split s)))

  byte_by_byte :
      (s : List ℕ) (g : Gathering) (p : List ℕ) (k : ℕ) → Holds p k g → all g s ≡ from k p (split s)
  unfolding answers after split
  byte_by_byte [] g p k q = holds_last p q ∙ ap (on_last k) (sym (append-nil p))
  byte_by_byte (b ∷ s) g p k q = one_byte b s (eqb b newline) refl q (λ r j h. byte_by_byte s (step g b) r j h)

  -- what is replied byte by byte is what the input is to be replied
  pub whole_input : (s : List ℕ) → answers answer begun s ++ last_reply (after begun s) ≡ input_replies answer s
  unfolding input_replies
  whole_input s = byte_by_byte s begun [] 0 holds_begun ∙ from_first 0 (split s)
