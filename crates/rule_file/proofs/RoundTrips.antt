-- The round trips, for each kind of file: what is written reads back, with its kind; what reads well is what its kind's
-- writer would write; and a file that is cut is refused. The laws over a format; a list with twins is not read.
use Prim.Native.Nat.{ℕ, ◌^◌}
use native.Mathlib.Omega.{arith}
use mathlib.Core.List.{List, [], ◌∷◌, ◌++◌}
use mathlib.Core.Logic.{◌↔◌}
use mathlib.Core.Path.{◌≡◌, refl, sym, ap, ◌∙◌}
use lib.ListN.{length}
use Rattle.refusals.specs.declared.Refusal.TheVariants.{TextStops}
use Rattle.refusals.specs.Verdict.{Fine}
use Rattle.text.specs.Line.{EachUnder, print_line}
use Rattle.text.specs.Text.{good, refused, split, lines_of, unlines, run}
use Rattle.rules.specs.Words.{rule_count, largest_action}
use Rattle.rules.specs.Twins.{twins_verdict}
use Rattle.rules.specs.Good.{list_verdict_to, list_verdict}
use Rattle.rules.proofs.TwinRules.{twins_fine_iff}
use Rattle.rules.proofs.Lists.{GoodRules, rules_fine_iff, twins_decide, fine_iff_good}
use Rattle.rule_file.specs.declared.kind.Kind.{Kind}
use Rattle.rule_file.specs.declared.kind.Kind.TheVariants.{Rules, Acl}
use Rattle.rule_file.specs.Kinds.{most_action, kind_of}
use Rattle.rule_file.specs.ListText.{list_in, list_text}
use Rattle.rule_file.specs.RuleText.{format_of, lines_in, rules_in, text_of}
use Rattle.rule_file.proofs.Lists.{good_at}
use Rattle.rule_file.proofs.Back.{list_back}
use Rattle.rule_file.proofs.SoFar.{TextOf}
use Rattle.rule_file.proofs.Exact.{list_exact}
use Rattle.rule_file.proofs.Cut.{list_cut}
use Rattle.rule_file.proofs.KindFormats.{holds_of, sound, good_of_lines}
use Rattle.rule_file.proofs.ReadTwins.{reads_of_lines, refused_of_lines, lines_of_read}

-- ---- the kind of a text

-- what is written in a file of a kind is of that kind
kind_of_text : (k : Kind) (n : ℕ) (ws : List ℕ) → kind_of (list_text (format_of k) n ws) ≡ k
unfolding kind_of list_text unlines print_line
kind_of_text Rules n ws = refl
kind_of_text Acl n ws = refl

-- ---- the lines of a text

module _ (k : Kind) (s ws : List ℕ) (e : list_in (format_of k) s ≡ good ws) where
  lines_of_lem : TextOf (format_of k) (holds_of k) ws s
  lines_of_lem = list_exact (sound k) s ws e

  -- a text that reads well as a kind is of that kind
  pub kind_of_lines : kind_of s ≡ k
  kind_of_lines = ap kind_of (sym lines_of_lem.text) ∙ kind_of_text k lines_of_lem.count ws

  -- the words of lines that read well are good rules, with actions that a file of the kind can say
  pub lines_good : GoodRules (most_action k) ws
  lines_good =
      let l = lines_of_lem.list in
      record {
        whole = omega (arith, l.size);
        few = omega (arith, l.size, l.few);
        each = λ r h. sym (good_at (most_action k) ws r) ∙ l.each r (omega (arith, l.size));
      }

-- ---- the round trips

-- what is written of a good list of words of 32 bits, whose actions a file of the kind can say, is of that kind and
-- reads back as the list
pub read_of_written :
    (k : Kind) (ws : List ℕ) → list_verdict_to (most_action k) ws ≡ Fine → EachUnder (2 ^ 32) ws →
    (kind_of (text_of k ws) ≡ k) × (rules_in (text_of k ws) ≡ good ws)
read_of_written k ws e b =
    let f = (fine_iff_good (most_action k) ws).0 e in
    let g = f.0 in
    let kind = kind_of_text k (rule_count ws) ws in
    let lines : list_in (format_of k) (text_of k ws) ≡ good ws =
    list_back (sound k) (rule_count ws) ws
    (record {
      size = omega (arith, g.whole);
      few = omega (arith, g.few);
      each = λ j h. good_at (most_action k) ws j ∙ g.each j h;
    })
    b in (
      kind,
      reads_of_lines (text_of k ws) ws (ap (λ (j : Kind). list_in (format_of j) (text_of k ws)) kind ∙ lines)
          ((twins_fine_iff ws).1 f.1),
    )

-- a text is of a kind and reads well exactly where it reads so as a file of that kind and its words have no twins
pub reads_iff_kind :
    (k : Kind) (s ws : List ℕ) →
    ((kind_of s ≡ k) × (rules_in s ≡ good ws)) ↔ ((list_in (format_of k) s ≡ good ws) × (twins_verdict ws ≡ Fine))
reads_iff_kind k s ws = (
  λ r. let t = lines_of_read s ws r.1 in (rw r.0 at t.0, t.1),
  λ l. let e = kind_of_lines k s ws l.0 in (e, reads_of_lines s ws (rw e l.0) l.1),
)

module _ (s ws : List ℕ) (e : rules_in s ≡ good ws) where
  text_of_lem : TextOf (format_of (kind_of s)) (holds_of (kind_of s)) ws s
  text_of_lem = lines_of_lem (kind_of s) s ws (lines_of_read s ws e).0

  -- a text that reads well is the one that the writer of its kind writes of its words
  pub written_of_read : text_of (kind_of s) ws ≡ s
  written_of_read =
      let count : text_of_lem.count ≡ rule_count ws = omega (arith, text_of_lem.list.size) in
      ap (λ (n : ℕ). list_text (format_of (kind_of s)) n ws) (sym count) ∙ text_of_lem.text

  -- the words of a text that reads well are a good list, with actions that a file of its kind can say
  pub fine_of_read : list_verdict_to (most_action (kind_of s)) ws ≡ Fine
  fine_of_read =
      let t = lines_of_read s ws e in
      let most = most_action (kind_of s) in
      twins_decide most ws ((rules_fine_iff most ws).1 (lines_good (kind_of s) s ws t.0)) ∙ t.1

  -- so they are a good list
  pub good_of_read : list_verdict ws ≡ Fine
  good_of_read =
      let f = (fine_iff_good (most_action (kind_of s)) ws).0 fine_of_read in
      (fine_iff_good largest_action ws).1 (good_of_lines (kind_of s) ws f.0, f.1)

  -- and of 32 bits
  pub below_of_read : EachUnder (2 ^ 32) ws
  below_of_read = text_of_lem.below

-- a text that reads well, cut before its end, is refused with 10 and the number of whole lines that are left
pub cut_refused :
    (p q ws : List ℕ) → rules_in (p ++ q) ≡ good ws → (q ≡ [] → ⊥) →
    rules_in p ≡ refused (TextStops (length (lines_of (split p))))
unfolding kind_of list_in split run
cut_refused p q ws e more = refused_of_lines p (go p (lines_of_read (p ++ q) ws e).0)
  where
    go :
        (p : List ℕ) → lines_in (p ++ q) ≡ good ws → lines_in p ≡ refused (TextStops (length (lines_of (split p))))
    go [] h = refl
    go (b ∷ p) h = list_cut (format_of (kind_of (b ∷ p))) (b ∷ p) q ws h more
