-- The pass over the lines of the rules, rule by rule. `ReadSoFar` is the invariant: the rules below i are read, their
-- words are stored, and the rest decides.
use Rattle.refusals.specs.Verdict.{Fine, Refused}
use Prim.Native.Nat.{ℕ, ◌+◌, ◌*◌, ◌^◌, ◌≤◌, ◌<◌}
use native.Mathlib.Omega.{arith}
use mathlib.Core.Bool.{true}
use mathlib.Core.List.{List, [], ◌++◌}
use mathlib.Core.Path.{◌≡◌, refl, sym, ap, subst, ◌∙◌}
use lib.ListN.{length, length-append}
use lib.Seq.{sets}
use borrow.Author.Tests.{le-ltb}
use Rattle.facts.proofs.Setting.{sets_append}
use Rattle.refusals.specs.declared.Refusal.{Refusal}
use Rattle.text.specs.declared.cursor.Cursor.{Cursor}
use Rattle.text.specs.Text.{refused}
use Rattle.text.specs.Onward.{Stands}
use Rattle.text.specs.EndLines.{end_line_at}
use Rattle.text.proofs.EndLines.{EndComes, end_comes}
use Rattle.rules.specs.Words.{rule_words, most_rules}
use Rattle.rule_file.specs.declared.kind.Kind.{Kind}
use Rattle.rule_file.specs.ListText.{within, over, finish}
use Rattle.rule_file.specs.ReadSteps.{rules_step, rules_from, rest_from, RuleStored, RulesStored}

pub record ReadSoFar
    (k : Kind) (s old : List ℕ) (n : ℕ) (first : Cursor) (i : ℕ) (c : Cursor) (new : List ℕ) : Type 0 where
  pub words : List ℕ
  pub left : rest_from k n s first ≡ rules_from k (within n i words) s c
  pub size : length words ≡ i * rule_words
  pub rules_are : new ≡ sets old 0 words
  pub stands : Stands s c
  pub most : i ≤ n

-- before the first rule nothing is read, and all is left
pub so_far_first : {k : Kind} {s old : List ℕ} {n : ℕ} {c : Cursor} → Stands s c → ReadSoFar k s old n c 0 c old
so_far_first h = record { words = []; left = refl; size = refl; rules_are = refl; stands = h; most = omega arith }

module _
    {k : Kind} {s old new : List ℕ} {n i : ℕ} {first c : Cursor} (g : ReadSoFar k s old n first i c new) where
  -- the line of a rule leads to the next
  pub so_far_step :
      {next : List ℕ} {d : Cursor} → i < n → RuleStored k s c i new next d → ReadSoFar k s old n first (i + 1) d next
  so_far_step h r =
      let e : i * rule_words ≡ 0 + length g.words = omega (arith, g.size) in
      record {
        words = g.words ++ r.words;
        left = g.left ∙ r.moved n g.words h;
        size = length-append g.words r.words ∙ omega (arith, g.size, r.size);
        rules_are = r.rules_are ∙ rw (e, g.rules_are) (sym (sets_append old 0 g.words r.words));
        stands = r.stands;
        most = omega arith;
      }

  -- a refused line of a rule refuses the text
  pub so_far_refused :
      {why : Refusal} → i < n → ((m : ℕ) (ws : List ℕ) → i < m → rules_from k (within m i ws) s c ≡ refused why) →
      rest_from k n s first ≡ refused why
  so_far_refused h r = g.left ∙ r n g.words h

  module _ (small : length s < 2 ^ 63) (h : n ≤ i) where
    -- behind the last rule the end line decides
    last_comes : EndComes (rest_from k n s first) g.words (end_line_at s c true (n + 1))
    last_comes =
        let e : i ≡ n = omega (arith, g.most) in
        let there = g.left ∙ ap (λ (m : ℕ). rules_from k (within n m g.words) s c) e in
        rw there
        (end_comes (rules_step k) finish small g.stands (within n n g.words) (over g.words) g.words true
        (n + 1) refl (λ l. rw (le-ltb n n (omega arith))) refl (λ l. refl))

    -- where it is refused, so is the text
    pub so_far_ends_not :
        {why : Refusal} → Refused why ≡ end_line_at s c true (n + 1) → rest_from k n s first ≡ refused why
    so_far_ends_not q = subst (EndComes (rest_from k n s first) g.words) (sym q) last_comes

    -- where the text is over, all rules are stored
    pub so_far_ends :
        {j : Kind} → j ≡ k → n ≤ most_rules → Fine ≡ end_line_at s c true (n + 1) →
        RulesStored k (rest_from k n s first) old new n j
    so_far_ends same few q =
        record {
          words = g.words;
          says = subst (EndComes (rest_from k n s first) g.words) (sym q) last_comes;
          size = omega (arith, g.size, g.most);
          few = few;
          rules_are = g.rules_are;
          kind = same;
        }
