-- The end line: from what the cursor answers to whether the text ends as it should, and what this is to any reader that
-- waits for its end line.
use Rattle.std.specs.Prelude.{Err, Ok, Result}
use Rattle.refusals.specs.Verdict.{Fine, Refused, Verdict}
use Prim.Native.Nat.{ℕ, ◌^◌, ◌≤◌, ◌<◌}
use native.Mathlib.Omega.{arith}
use mathlib.Core.Bool.{Bool, true, false, cond, ◌&&◌}
use mathlib.Core.Path.{◌≡◌, refl, ◌∙◌}
use mathlib.Core.Option.{Option, none, some}
use mathlib.Core.List.{List}
use lib.ListN.{length, get_or}
use lib.Dec.{ltb, eqb}
use borrow.Author.Tests.{lt-ltb, le-ltb, ltb-true, ltb-false, eq-eqb, ne_eqb}
use Rattle.refusals.specs.declared.Refusal.{Refusal}
use Rattle.text.specs.declared.cursor.Cursor.{Cursor}
use Rattle.text.specs.declared.cursor.Fields.{Fields}
use Rattle.text.specs.Words.{end_word, one_tab}
use Rattle.text.specs.Line.{read_line}
use Rattle.text.specs.Text.{Reading, good, refused}
use Rattle.text.specs.Cursors.{wrong_at, line_at}
use Rattle.text.specs.Onward.{Stands, read_on}
use Rattle.text.specs.EndLines.{on_end, on_said, on_fields, end_line_at}
use Rattle.text.proofs.LineViews.{number_at}
use Rattle.text.proofs.NextLines.{Taken, line_next, line_refused}
use Rattle.text.proofs.Onward.{next_stands, on_next, on_wrong, not_taken, more_wrong, none_more}

-- ---- what the cursor's answer comes to

module _ (s : List ℕ) (c : Cursor) (complete : Bool) (n : ℕ) where
  -- where no end line was taken, that is the refusal
  pub line_missing : {why : Refusal} → line_at s c end_word one_tab ≡ Err why → Refused why ≡ end_line_at s c complete n
  unfolding end_line_at
  line_missing e = rw e

  module _ {r : Fields} (e : line_at s c end_word one_tab ≡ Ok r) where
    -- an end line after what is not complete is wrong
    pub not_complete :
        {why : Refusal} → complete ≡ false → why ≡ wrong_at c.lines → Refused why ≡ end_line_at s c complete n
    unfolding end_line_at
    not_complete h q = rw (e, h, q)

    module _ (all : complete ≡ true) where
      -- so is one with another number
      pub other_number :
          {why : Refusal} → (get_or r.values 0 0 ≡ n → ⊥) → why ≡ wrong_at c.lines →
          Refused why ≡ end_line_at s c complete n
      unfolding end_line_at
      other_number h q = rw (e, all, ne_eqb (get_or r.values 0 0) n h, q)

      module _ (right : get_or r.values 0 0 ≡ n) where
        -- what stands after it is wrong
        pub more_after :
            {why : Refusal} → r.next.at < length s → why ≡ wrong_at r.next.lines →
            Refused why ≡ end_line_at s c complete n
        unfolding end_line_at
        more_after l q = rw (e, all, eq-eqb (get_or r.values 0 0) n right, lt-ltb r.next.at (length s) l, q)

        -- with nothing after it the text is over
        pub none_after : length s ≤ r.next.at → Fine ≡ end_line_at s c complete n
        unfolding end_line_at
        none_after l = rw (e, all, eq-eqb (get_or r.values 0 0) n right, le-ltb r.next.at (length s) l)

-- where the text is over, what stands before the end line is complete
pub over_complete :
    (s : List ℕ) (c : Cursor) (complete : Bool) (n : ℕ) → Fine ≡ end_line_at s c complete n → complete ≡ true
unfolding end_line_at
over_complete s c true n e = refl
over_complete s c false n e = go (line_at s c end_word one_tab) e
  where
    go : (o : Result Fields Refusal) → Fine ≡ on_fields s c.lines false n o → false ≡ true
    go (Err why) q = let z : ◌≡◌ {A = ℕ} 0 1 = cc in absurd (omega arith)
    go (Ok d) q = let z : ◌≡◌ {A = ℕ} 0 1 = cc in absurd (omega arith)

-- ---- what it is to a reader

-- what a reading comes to that holds x where the text is over
abbrev pub EndComes : {R : Type 0} → Reading R → R → Verdict → Type 0
EndComes a x (Refused why) = a ≡ refused why
EndComes a x Fine = a ≡ good x

module _
    {S R : Type 0} (step : S → List ℕ → Option S) (finish : S → Option R) {s : List ℕ} {c : Cursor}
    (small : length s < 2 ^ 63) (stands : Stands s c) (st past : S) (x : R) (complete : Bool) (n : ℕ)
    (waits : finish st ≡ none)
    (ends : (l : List ℕ) → step st l ≡ on_end complete n past (read_line end_word one_tab l))
    (holds : finish past ≡ some x) (last : (l : List ℕ) → step past l ≡ none) where
  module _ {d : Cursor} {values : List ℕ} (t : Taken s c end_word one_tab d values) where
    abbrev right : Bool
    right = complete && eqb (get_or values 0 0) n

    -- what the line makes of the state
    line_makes : {b : Bool} → right ≡ b → step st t.this ≡ cond b (some past) none
    line_makes q =
        let number = number_at end_word one_tab t.this t.read t.holds (omega arith) 0 (omega arith) in
        ends t.this ∙ rw (t.read, ← number, q)

    by_rest :
        right ≡ true → (m : Bool) → ltb d.at (length s) ≡ m →
        EndComes (read_on step finish st s c) x (cond m (Refused (wrong_at d.lines)) Fine)
    by_rest q true l =
        let behind = next_stands small stands t.next t.within t.count in
        on_next small stands step finish st d past t.next t.count (line_makes q) ∙
        more_wrong small behind step finish past x holds last (ltb-true d.at (length s) l) refl
    by_rest q false l =
        on_next small stands step finish st d past t.next t.count (line_makes q) ∙
        none_more step finish past x s d holds (ltb-false d.at (length s) l)

    by_test :
        (b : Bool) → right ≡ b → EndComes (read_on step finish st s c) x (on_said s c.lines b d)
    by_test true q = by_rest q (ltb d.at (length s)) refl
    by_test false q = on_wrong small stands step finish st t.next (line_makes q) refl

  by_line :
      (o : Result Fields Refusal) → line_at s c end_word one_tab ≡ o →
      EndComes (read_on step finish st s c) x (on_fields s c.lines complete n o)
  by_line (Err why) e =
      not_taken small stands step finish st (line_refused s c end_word one_tab e) waits (λ l miss. ends l ∙ rw miss)
  by_line (Ok f) e = let t = line_next s c end_word one_tab e in by_test t (right t) refl

  -- a state that waits for the end line comes to what the end line comes to
  pub end_comes : EndComes (read_on step finish st s c) x (end_line_at s c complete n)
  unfolding end_line_at
  end_comes = by_line (line_at s c end_word one_tab) refl
