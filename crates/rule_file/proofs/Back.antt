-- What is written of a list reads back as the list, over a format.
use Prim.Native.Nat.{ℕ, ◌+◌, ◌*◌, ◌^◌, ◌<◌}
use native.Mathlib.Nat.{zero-mul}
use native.Mathlib.Omega.{arith}
use mathlib.Core.Bool.{Bool}
use mathlib.Core.Option.{some}
use mathlib.Core.List.{List, [], ◌∷◌}
use mathlib.Core.Path.{◌≡◌, refl}
use lib.ListN.{length, take, drop}
use lib.Seq.{take_all}
use borrow.Author.Tests.{lt-ltb, le-ltb, le-leb}
use Rattle.text.specs.Words.{one_tab}
use Rattle.text.specs.Line.{read_line, EachUnder}
use Rattle.text.specs.Text.{good}
use Rattle.text.specs.EndLines.{end_line}
use Rattle.text.proofs.Below.{below_drop, below_take}
use Rattle.text.proofs.Lines.{line_back}
use Rattle.text.proofs.Plain.{plain_of, line_plain}
use Rattle.text.proofs.Files.{one_back, end_back, file_back}
use Rattle.rule_file.specs.ListText.{Format, part_at, State, start, within, over, step, finish, list_in}
use Rattle.rule_file.specs.ListText.{first_line, rule_line, line_of, list_text}
use Rattle.rule_file.proofs.Parts.{part_within, at_length, at_next}
use Rattle.rule_file.proofs.Formats.{Sound, ListOf}

module _
    {F : Format} {holds : List ℕ → Bool} (s : Sound F holds) (n : ℕ) (ws : List ℕ) (g : ListOf F holds n ws)
    (b : EachUnder (2 ^ 32) ws) where
  -- within n rules, the words of those below i being read
  abbrev reached : ℕ → State
  reached i = within n i (take (i * F.width) ws)

  first_step : step F start (first_line F n) ≡ some (reached 0)
  first_step =
      let small : n < 2 ^ 32 = omega (arith, s.most_fits, g.few) in
      rw (one_back F.list_word n small, le-leb n F.most g.few, zero-mul F.width)

  rule_step : (i : ℕ) → i < n → step F (reached i) (rule_line F i (part_at F.width ws i)) ≡ some (reached (i + 1))
  rule_step i h =
      let r : List ℕ = part_at F.width ws i in
      let small : i < 2 ^ 32 = omega (arith, s.most_fits, g.few) in
      let size : length r ≡ F.width = at_length F.width ws i (omega (arith, g.size, part_within F.width h)) in
      let below : EachUnder (2 ^ 32) r =
      below_take (2 ^ 32) F.width (drop (i * F.width) ws) (below_drop (2 ^ 32) (i * F.width) ws b) in
      let read : read_line F.rule_word F.marks (rule_line F i r) ≡ some (F.values_of i r) =
      line_back F.rule_word F.marks (F.values_of i r) s.parts (s.values_length i r)
      (s.values_below i r small below) in
      rw (
        lt-ltb i n h,
        read,
        s.test_back i r size below (g.each i h),
        s.words_back i r size below (g.each i h),
        at_next F.width ws i,
      )

  end_step : step F (reached n) (end_line (n + 1)) ≡ some (over ws)
  end_step =
      rw (take_all (n * F.width) ws (omega (arith, g.size)), le-ltb n n (omega arith))
      (end_back (n + 1) (over ws) (omega (arith, s.most_fits, g.few)) refl)

  -- what is written of a list of words of 32 bits reads back as the list
  pub list_back : list_in F (list_text F n ws) ≡ good ws
  unfolding list_in list_text
  list_back =
      file_back (step F) finish (line_of F ws) reached n
      (line_plain F.list_word one_tab (n ∷ []) s.plain_list (plain_of one_tab refl))
      (λ i. line_plain F.rule_word F.marks _ s.plain_rule s.plain_marks) first_step rule_step end_step refl
