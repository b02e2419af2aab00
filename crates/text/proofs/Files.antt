-- Files of a first line, lines of records and an end line: what is written reads back, and what reads well was led to
-- line by line.
use Prim.Native.Nat.{ℕ, zero, suc, ◌+◌, ◌*◌, ◌^◌, ◌≤◌, ◌<◌}
use native.Mathlib.Nat.{suc-mul}
use native.Mathlib.Numerals.{add-one}
use native.Mathlib.Omega.{arith}
use mathlib.Core.Bool.{Bool, true, ◌&&◌}
use mathlib.Core.Option.{Option, none, some}
use mathlib.Core.Path.{◌≡◌, refl, sym, ap, ◌∙◌}
use mathlib.Core.List.{List, [], ◌∷◌, ◌++◌, append_assoc, append-nil}
use lib.ListN.{length, get_or, length-append}
use lib.Dec.{eqb}
use borrow.Author.Tests.{eq-eqb, eqb-true}
use Rattle.facts.specs.Lists.{tabulate}
use Rattle.facts.proofs.Bools.{both}
use Rattle.facts.proofs.Setting.{cells}
use Rattle.text.specs.Words.{newline, end_word, one_tab}
use Rattle.text.specs.Numbers.{is_digit}
use Rattle.text.specs.Line.{read_line, print_line, ended}
use Rattle.text.specs.Text.{Text, whole, split, unlines, good, run, read_all}
use Rattle.text.specs.EndLines.{end_line, record_lines, file_lines, on_end}
use Rattle.text.proofs.Lines.{Line, line_back, line_exact, none_some, made}
use Rattle.text.proofs.Plain.{Plain, AllPlain, plain_of, all_plain_more, line_plain}
use Rattle.text.proofs.Texts.{bytes, split_lines, split_exact, unlines_more}
use Rattle.text.proofs.Runs.{Walk, here, go, walk_more, walk_run, Led, led}

-- ---- lines of one number

-- a line of one number reads back
pub one_back : (w : List ℕ) (n : ℕ) → n < 2 ^ 32 → read_line w one_tab (print_line w one_tab (n ∷ [])) ≡ some (n ∷ [])
unfolding is_digit
one_back w n h = line_back w one_tab (n ∷ []) refl refl (h, tt)

-- a line of one number is written with that number
pub one_value : (w l v : List ℕ) → Line w one_tab l v → l ≡ print_line w one_tab (get_or v 0 0 ∷ [])
unfolding tabulate
one_value w l v f = f.text ∙ ap (print_line w one_tab) (cells 1 v f.count)

-- the end line leads past the end
pub end_back :
    {S : Type 0} {complete : Bool} (n : ℕ) (past : S) → n < 2 ^ 32 → complete ≡ true →
    on_end complete n past (read_line end_word one_tab (end_line n)) ≡ some past
end_back n past h all = rw (one_back end_word n h, all, eq-eqb n n refl)

-- a line that leads past the end is the end line of what is complete
pub end_exact :
    {S : Type 0} (complete : Bool) (n : ℕ) (past : S) {st : S} (l : List ℕ) →
    on_end complete n past (read_line end_word one_tab l) ≡ some st → (complete ≡ true) × (l ≡ end_line n) × (past ≡ st)
end_exact complete n past {st} l h = go (read_line end_word one_tab l) refl h
  where
    go :
        (o : Option (List ℕ)) → read_line end_word one_tab l ≡ o → on_end complete n past o ≡ some st →
        (complete ≡ true) × (l ≡ end_line n) × (past ≡ st)
    go none e q = none_some q
    go (some v) e q =
        let m = made (complete && eqb (get_or v 0 0) n) q in
        let b = both complete (eqb (get_or v 0 0) n) m.0 in
        let number = ap (λ (k : ℕ). print_line end_word one_tab (k ∷ [])) (eqb-true (get_or v 0 0) n b.1) in
        (b.0, one_value end_word l v (line_exact end_word one_tab l v e) ∙ number, m.1)

-- ---- the lines of records

module _ (line : ℕ → List ℕ) where
  -- the lines of the records below i + 1 are those below i and the line of record i
  pub lines_more : (i : ℕ) → record_lines line (i + 1) ≡ record_lines line i ++ (line i ∷ [])
  unfolding record_lines
  lines_more i = rw add-one

  -- no records have no text
  pub text_none : unlines (record_lines line 0) ≡ []
  unfolding record_lines unlines
  text_none = refl

  -- the text of the records below i, and the line of record i, are the text of those below i + 1
  pub text_more : (i : ℕ) → unlines (record_lines line i) ++ ended (line i) ≡ unlines (record_lines line (i + 1))
  text_more i = sym (unlines_more (record_lines line i) (line i)) ∙ ap unlines (sym (lines_more i))

  records_plain : ((i : ℕ) → Plain (line i)) → (i : ℕ) → AllPlain (record_lines line i)
  unfolding record_lines
  records_plain p zero = tt
  records_plain p (suc i) = all_plain_more (record_lines line i) (line i) (records_plain p i) (p i)

  -- lines of at most so many bytes each, with their newlines, take no more than that together
  pub records_size :
      (most n : ℕ) → ((i : ℕ) → i < n → length (ended (line i)) ≤ most) → (i : ℕ) → i ≤ n →
      length (unlines (record_lines line i)) ≤ i * most
  unfolding record_lines unlines
  records_size most n h zero b = omega arith
  records_size most n h (suc i) b =
      rw unlines_more
      (rw length-append (omega (arith, suc-mul i most, h i b, records_size most n h i (omega arith))))

-- records with the same lines have the same lines together
pub lines_same :
    (f g : ℕ → List ℕ) (i : ℕ) → ((j : ℕ) → j < i → f j ≡ g j) → record_lines f i ≡ record_lines g i
unfolding record_lines
lines_same f g zero h = refl
lines_same f g (suc i) h = rw (lines_same f g i (λ j b. h j (omega arith)), h i (omega arith))

-- ---- all lines

module _ (first : List ℕ) (ls : List (List ℕ)) (n : ℕ) where
  -- the first line, the lines of the records and the end line are the text of the file
  pub file_parts : (ended first ++ unlines ls) ++ ended (end_line (n + 1)) ≡ unlines (file_lines first ls n)
  unfolding unlines
  file_parts =
      ap (λ (x : List ℕ). x ++ ended (end_line (n + 1))) (append_assoc first (newline ∷ []) (unlines ls)) ∙
      sym (unlines_more (first ∷ ls) (end_line (n + 1)))

module _ {S R : Type 0} (step : S → List ℕ → Option S) (finish : S → Option R) where
  module _ {st : S} {first : List ℕ} (line : ℕ → List ℕ) (reached : ℕ → S) (n : ℕ) where
    walk_records :
        step st first ≡ some (reached 0) →
        ((i : ℕ) → i < n → step (reached i) (line i) ≡ some (reached (i + 1))) → (i : ℕ) → i ≤ n →
        Walk step finish st (first ∷ record_lines line i) (reached i)
    unfolding record_lines
    walk_records f g zero b = go f here
    walk_records f g (suc i) b =
        walk_more step finish (walk_records f g i (omega arith))
        (g i b ∙ ap (λ (k : ℕ). some (reached k)) (add-one i))

    -- a file whose lines lead from state to state, and past the end, reads as what the last state holds
    pub file_back :
        {past : S} {r : R} → Plain first → ((i : ℕ) → Plain (line i)) → step st first ≡ some (reached 0) →
        ((i : ℕ) → i < n → step (reached i) (line i) ≡ some (reached (i + 1))) →
        step (reached n) (end_line (n + 1)) ≡ some past → finish past ≡ some r →
        read_all step finish st 0 (split (unlines (file_lines first (record_lines line n) n))) ≡ good r
    unfolding run
    file_back p q f g e h =
        let ls : List (List ℕ) = file_lines first (record_lines line n) n in
        let last = line_plain end_word one_tab ((n + 1) ∷ []) (plain_of end_word refl) (plain_of one_tab refl) in
        let plain = all_plain_more (record_lines line n) (end_line (n + 1)) (records_plain line q n) last in
        let walk = walk_more step finish (walk_records f g n (omega arith)) e in
        rw (split_lines ls (p, plain))
        (ap (λ (l : List (List ℕ)). run step finish st 0 l []) (sym (append-nil ls)) ∙
        walk_run step finish 0 [] [] walk ∙ rw h)

  -- a text that reads well leads to a state that holds its result
  pub led_to :
      (Leads : S → List ℕ → Type 0) →
      (walk : (st st' : S) (t l : List ℕ) → Leads st t → step st l ≡ some st' → Leads st' (t ++ ended l)) → {st : S} →
      Leads st [] → (s : List ℕ) (r : R) → read_all step finish st 0 (split s) ≡ good r → Led step finish Leads walk r s
  led_to Leads walk {st} w s r h = go (split s) (split_exact s) h
    where
      go : (x : Text) → bytes x ≡ s → read_all step finish st 0 x ≡ good r → Led step finish Leads walk r s
      go (whole ls t) e q = rw e at (led step finish Leads walk st 0 ls [] t r w q)
