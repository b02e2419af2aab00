-- A text that reads well is the one that is written of its words, and these are a list, over a format.
use Prim.Native.Nat.{ℕ, ◌+◌, ◌*◌, ◌≤◌}
use native.Mathlib.Omega.{arith}
use mathlib.Core.Bool.{Bool, true, false, cond}
use mathlib.Core.Option.{some}
use mathlib.Core.List.{List, ◌∷◌, ◌++◌}
use mathlib.Core.Path.{◌≡◌, refl, ap, ◌∙◌, subst}
use lib.Dec.{ltb}
use borrow.Author.Tests.{ltb-true, ltb-false}
use Rattle.text.specs.Words.{end_word, one_tab}
use Rattle.text.specs.Line.{read_line, ended}
use Rattle.text.specs.Text.{unlines, good}
use Rattle.text.specs.EndLines.{on_end, end_line}
use Rattle.text.proofs.Lines.{none_some}
use Rattle.text.proofs.Texts.{unlines_more}
use Rattle.text.proofs.Files.{end_exact, led_to}
use Rattle.rule_file.specs.ListText.{Format, State, start, within, over, on_rule, step, finish, list_in}
use Rattle.rule_file.specs.ListText.{first_line, rule_lines, list_text}
use Rattle.rule_file.proofs.Formats.{Sound}
use Rattle.rule_file.proofs.SoFar.{RulesSoFar, TextOf, SaysSoFar, first_leads, rule_leads}

module _ {F : Format} {holds : List ℕ → Bool} where
  -- an end line that a reader takes leads to the text of the list
  end_leads :
      {n i : ℕ} {ws t : List ℕ} (l : List ℕ) (st : State) → n ≤ i → RulesSoFar F holds n i ws t →
      on_end true (n + 1) (over ws) (read_line end_word one_tab l) ≡ some st → SaysSoFar F holds st (t ++ ended l)
  unfolding list_text
  end_leads {n} {i} {ws} {t} l st p b h =
      let e = end_exact true (n + 1) (over ws) l h in
      let same : i ≡ n = omega (arith, b.most) in
      let front : t ≡ unlines (first_line F n ∷ rule_lines F ws n) =
      b.text ∙ ap (λ (k : ℕ). unlines (first_line F n ∷ rule_lines F ws k)) same in
      subst (λ (x : State). SaysSoFar F holds x (t ++ ended l)) e.2
      (record {
        count = n;
        text = rw (front, e.1) (unlines_more (first_line F n ∷ rule_lines F ws n) (end_line (n + 1)));
        list =
            record {
              size = b.size ∙ ap (λ (k : ℕ). k * F.width) same;
              few = b.few;
              each = λ j q. b.each j (omega arith);
            };
        below = b.below;
      })

  module _ (s : Sound F holds) where
    leads :
        (st st' : State) (t l : List ℕ) → SaysSoFar F holds st t → step F st l ≡ some st' →
        SaysSoFar F holds st' (t ++ ended l)
    leads start st' t l w h = first_leads s l t st' (read_line F.list_word one_tab l) refl w h
    leads (within n i ws) st' t l w h = go (ltb i n) refl h
      where
        go :
            (q : Bool) → ltb i n ≡ q →
            cond q (on_rule F n i ws (read_line F.rule_word F.marks l))
            (on_end true (n + 1) (over ws) (read_line end_word one_tab l)) ≡ some st' → SaysSoFar F holds st' (t ++ ended l)
        go true q k = rule_leads s n i ws l t st' (read_line F.rule_word F.marks l) refl (ltb-true i n q) w k
        go false q k = end_leads l st' (ltb-false i n q) w k
    leads (over ws) st' t l w h = none_some h

    of_last : (ws t : List ℕ) (st : State) → SaysSoFar F holds st t → finish st ≡ some ws → TextOf F holds ws t
    of_last ws t start w e = none_some e
    of_last ws t (within n i us) w e = none_some e
    of_last ws t (over us) w e = let same : us ≡ ws = cc in subst (λ (x : List ℕ). TextOf F holds x t) same w

    -- a text that reads well is the text of its words, which are a list of words of 32 bits
    pub list_exact : (t ws : List ℕ) → list_in F t ≡ good ws → TextOf F holds ws t
    unfolding list_in
    list_exact t ws h =
        let d = led_to (step F) finish (SaysSoFar F holds) leads refl t ws h in
        of_last ws t d.last d.led d.result
