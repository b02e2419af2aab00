-- Bytes without a newline are passed: all of them are taken, and nothing is replied to them. And where the line
-- ends that begins at a place of a piece of input.
--   part_to s at end   the bytes of s from the place at on, up to the place end
use Rattle.std.specs.Prelude.{Err, Ok, Result}
use Rattle.std.specs.Result.{result_unwrap_or}
use Rattle.refusals.specs.declared.Refusal.{Refusal}
use Prim.Native.Nat.{ℕ, ◌+◌, ◌-◌, ◌≤◌, ◌<◌}
use native.Mathlib.Omega.{arith}
use native.Mathlib.Nat.{zero-add}
use mathlib.Core.Path.{◌≡◌, refl, sym, ap, ◌∙◌, subst}
use mathlib.Core.List.{List, [], ◌∷◌, ◌++◌}
use lib.ListN.{length, get_or, take, drop, length-drop}
use lib.Seq.{take_at, take_all, drop-drop, drop_at, length-take-le}
use borrow.Author.Tests.{le-leb, ne_eqb}
use Rattle.facts.proofs.Steps.{drop_step}
use Rattle.text.specs.Words.{newline}
use Rattle.text.specs.Text.{no_line, next_from}
use Rattle.text.specs.Cursors.{cursor_at, line_end_at}
use Rattle.text.proofs.Plain.{Plain}
use Rattle.text.proofs.Texts.{Found, next_found, next_none}
use Rattle.text.proofs.NextLines.{EndAt, line_end_at_lem, line_end_refused}
use Rattle.console.specs.declared.gather.Gathering.{Gathering}
use Rattle.console.specs.Gathered.{step, after, answers}
use Rattle.console.specs.LineEnds.{line_end}
use Rattle.console.specs.Feeding.{taken_of}
use Rattle.console.proofs.Gathering.{said_none}

abbrev pub part_to : List ℕ → ℕ → ℕ → List ℕ
part_to s at end = take (end - at) (drop at s)

-- ---- bytes without a newline

module _ (answer : List ℕ → List ℕ) where
  -- nothing is replied to them
  pub answers_plain : (g : Gathering) (l : List ℕ) → Plain l → answers answer g l ≡ []
  unfolding answers
  answers_plain g [] p = refl
  answers_plain g (b ∷ l) p = rw (← said_none answer g b p.0) (answers_plain (step g b) l p.1)

  -- and all of them are taken
  pub taken_plain :
      (room : ℕ) (g : Gathering) (l rest : List ℕ) → Plain l →
      taken_of answer room g (l ++ rest) ≡ length l + taken_of answer room (after g l) rest
  unfolding taken_of after
  taken_plain room g [] rest p = sym (zero-add _)
  taken_plain room g (b ∷ l) rest p =
      let same : room - 0 ≡ room = omega arith in
      rw (← said_none answer g b p.0, le-leb 0 room (omega arith), same, taken_plain room (step g b) l rest p.1)
      (omega arith)

none_from : (c l : List ℕ) → Plain l → next_from c l ≡ no_line
unfolding next_from
none_from c [] p = refl
none_from c (b ∷ l) p = rw (ne_eqb b newline p.0) (none_from (c ++ (b ∷ [])) l p.1)

-- there is no whole line in them
pub none_of_plain : (l : List ℕ) → Plain l → next_from [] l ≡ no_line
none_of_plain l p = none_from [] l p

-- ---- the end of a line

-- no newline stands from `at` on up to `end`, and at `end` one does, unless it is the end of s
pub record EndsAt (s : List ℕ) (at end : ℕ) : Type 0 where
  pub from : at ≤ end
  pub within : end ≤ length s
  pub plain : Plain (part_to s at end)
  pub here : end < length s → get_or s end 0 ≡ newline

module _ (s : List ℕ) (at : ℕ) where
  module _ {end : ℕ} (k : EndAt s (cursor_at at 0) end) where
    found : Found [] (drop at s) k.this (drop (end + 1) s)
    found = next_found [] (drop at s) k.this (drop (end + 1) s) tt k.next

    size : length k.this ≡ end - at
    size =
        ap length (sym k.part) ∙ length-drop at (take end s) ∙
        omega (arith, length-take-le end s (omega (arith, k.within)))

    part : k.this ≡ part_to s at end
    part = sym (ap (take (end - at)) found.text ∙ take_at k.this _ (end - at) size)

    tail : newline ∷ drop (end + 1) s ≡ get_or s end 0 ∷ drop (end + 1) s
    tail =
        let e : at + (end - at) ≡ end = omega (arith, k.from) in
        sym (drop_at k.this _ (end - at) size) ∙ ap (drop (end - at)) (sym found.text) ∙
        drop-drop (end - at) at s ∙ ap (λ (n : ℕ). drop n s) e ∙ drop_step s end k.within

    at_newline : EndsAt s at end
    at_newline =
        record {
          from = k.from;
          within = omega (arith, k.within);
          plain = subst Plain part found.plain;
          here = λ h. (let t = tail in cc);
        }

  module _ (h : at ≤ length s) where
    at_end : next_from [] (drop at s) ≡ no_line → EndsAt s at (length s)
    at_end none =
        let all : drop at s ≡ part_to s at (length s) =
        sym (take_all (length s - at) (drop at s) (simp length-drop (omega arith))) in
        record {
          from = h;
          within = omega arith;
          plain = subst Plain all (next_none [] (drop at s) tt none);
          here = λ l. absurd (omega arith);
        }

    ends_by : (r : Result ℕ Refusal) → line_end_at s (cursor_at at 0) ≡ r → EndsAt s at (result_unwrap_or r (length s))
    ends_by (Ok end) e = at_newline (line_end_at_lem s (cursor_at at 0) e)
    ends_by (Err why) e = at_end (line_end_refused s (cursor_at at 0) e).0

  -- the end that is answered is the end of the line that begins at `at`
  pub line_ends : {end : ℕ} → at < length s → end ≡ line_end s at → EndsAt s at end
  unfolding line_end
  line_ends h e = rw e (ends_by (omega arith) (line_end_at s (cursor_at at 0)) refl)
