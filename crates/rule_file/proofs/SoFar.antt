-- What a text that led a reader to a state is: the lines that are written of what the state holds.
use Prim.Native.Nat.{ℕ, ◌+◌, ◌*◌, ◌^◌, ◌≤◌, ◌<◌}
use native.Mathlib.Nat.{zero-mul}
use native.Mathlib.Omega.{arith}
use mathlib.Core.Bool.{Bool, true}
use mathlib.Core.Option.{Option, none, some}
use mathlib.Core.List.{List, [], ◌∷◌, ◌++◌}
use mathlib.Core.Path.{◌≡◌, sym, ap, ◌∙◌, subst}
use lib.Dec.{leb}
use lib.ListN.{length, get_or, length-append}
use borrow.Author.Count.{below_more}
use borrow.Author.Tests.{leb-true}
use Rattle.text.specs.Words.{one_tab}
use Rattle.text.specs.Line.{read_line, print_line, ended, EachUnder}
use Rattle.text.specs.Text.{unlines}
use Rattle.text.specs.EndLines.{record_lines}
use Rattle.text.proofs.Below.{below_append}
use Rattle.text.proofs.Lines.{Line, line_exact, none_some, made}
use Rattle.text.proofs.Texts.{unlines_more}
use Rattle.text.proofs.Files.{one_value, lines_more}
use Rattle.rule_file.specs.ListText.{Format, part_at, State, start, within, over, on_first, on_rule}
use Rattle.rule_file.specs.ListText.{first_line, rule_line, line_of, rule_lines, list_text}
use Rattle.rule_file.proofs.Parts.{one_more, part_within, at_append, at_last}
use Rattle.rule_file.proofs.Formats.{Sound, ListOf}
use Rattle.rule_file.proofs.Writing.{lines_append}

module _ (F : Format) (holds : List ℕ → Bool) where
  -- a text that led to n rules in all, i of them read, with the words ws
  pub record RulesSoFar (n i : ℕ) (ws t : List ℕ) : Type 0 where
    pub text : t ≡ unlines (first_line F n ∷ rule_lines F ws i)
    pub size : length ws ≡ i * F.width
    pub few : n ≤ F.most
    pub most : i ≤ n
    pub below : EachUnder (2 ^ 32) ws
    pub each : (j : ℕ) → j < i → holds (part_at F.width ws j) ≡ true

  -- a text that led past the end line, with the words ws
  pub record TextOf (ws t : List ℕ) : Type 0 where
    pub count : ℕ
    pub text : list_text F count ws ≡ t
    pub list : ListOf F holds count ws
    pub below : EachUnder (2 ^ 32) ws

  -- what a text t that led to a state says
  abbrev pub SaysSoFar : State → List ℕ → Type 0
  SaysSoFar start t = t ≡ []
  SaysSoFar (within n i ws) t = RulesSoFar n i ws t
  SaysSoFar (over ws) t = TextOf ws t

module _ {F : Format} {holds : List ℕ → Bool} (s : Sound F holds) where
  -- ---- the first line

  -- a first line that a reader takes leads to what is written so far
  pub first_leads :
      (l t : List ℕ) (st : State) (o : Option (List ℕ)) → read_line F.list_word one_tab l ≡ o → t ≡ [] →
      on_first F o ≡ some st → SaysSoFar F holds st (t ++ ended l)
  unfolding unlines record_lines
  first_leads l t st none e empty h = none_some h
  first_leads l t st (some v) e empty h =
      let m = made (leb (get_or v 0 0) F.most) h in
      let line = one_value F.list_word l v (line_exact F.list_word one_tab l v e) in
      subst (λ (x : State). SaysSoFar F holds x (t ++ ended l)) m.1
      (record {
        text = ap (λ (u : List ℕ). u ++ ended l) empty ∙ ap ended line;
        size = sym (zero-mul F.width);
        few = leb-true (get_or v 0 0) F.most m.0;
        most = omega arith;
        below = tt;
        each = λ j p. absurd (omega arith);
      })

  -- ---- a rule

  module _
      {n i : ℕ} {ws t l v : List ℕ} (b : RulesSoFar F holds n i ws t) (f : Line F.rule_word F.marks l v)
      (r : F.test i v ≡ true) where
    abbrev w : ℕ
    w = F.width

    abbrev this : List ℕ
    this = F.words_of v

    rule_here : part_at w (ws ++ this) i ≡ this
    rule_here = at_last w ws i this b.size (s.words_length v)

    rule_lines_lem : rule_lines F (ws ++ this) (i + 1) ≡ rule_lines F ws i ++ (l ∷ [])
    rule_lines_lem =
        let line : l ≡ rule_line F i this =
        f.text ∙ ap (print_line F.rule_word F.marks) (s.values_exact i v r f.count) in
        lines_more (line_of F (ws ++ this)) i ∙
        rw (lines_append F ws i this (omega (arith, b.size)), rule_here, ← line)

    rule_text : t ++ ended l ≡ unlines (first_line F n ∷ rule_lines F (ws ++ this) (i + 1))
    rule_text =
        ap (λ (u : List ℕ). u ++ ended l) b.text ∙ sym (unlines_more (first_line F n ∷ rule_lines F ws i) l) ∙
        ap (λ (ls : List (List ℕ)). unlines (first_line F n ∷ ls)) (sym rule_lines_lem)

    rule_each : (j : ℕ) → j < i + 1 → holds (part_at w (ws ++ this) j) ≡ true
    rule_each =
        below_more (λ (k : ℕ). holds (part_at w (ws ++ this) k) ≡ true) i
        (λ k q. rw (at_append w ws k this (omega (arith, b.size, part_within w q))) (b.each k q))
        (rw rule_here (s.test_holds i v r f.count))

    rule_so_far : i < n → RulesSoFar F holds n (i + 1) (ws ++ this) (t ++ ended l)
    rule_so_far h =
        record {
          text = rule_text;
          size = length-append ws this ∙ omega (arith, b.size, s.words_length v, one_more w i);
          few = b.few;
          most = omega arith;
          below = below_append (2 ^ 32) ws this b.below (s.words_below i v r f.below);
          each = rule_each;
        }

  -- the line of a rule that a reader takes leads to what is written so far
  pub rule_leads :
      (n i : ℕ) (ws l t : List ℕ) (st : State) (o : Option (List ℕ)) →
      read_line F.rule_word F.marks l ≡ o → i < n → RulesSoFar F holds n i ws t → on_rule F n i ws o ≡ some st →
      SaysSoFar F holds st (t ++ ended l)
  rule_leads n i ws l t st none e p b h = none_some h
  rule_leads n i ws l t st (some v) e p b h =
      let m = made (F.test i v) h in
      subst (λ (x : State). SaysSoFar F holds x (t ++ ended l)) m.1
      (rule_so_far b (line_exact F.rule_word F.marks l v e) m.0 p)
