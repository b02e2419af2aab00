-- The format of each kind of file is as the laws of list texts ask.
use Prim.Native.Nat.{ℕ}
use native.Mathlib.Omega.{arith}
use mathlib.Core.Bool.{Bool, true}
use mathlib.Core.List.{List}
use mathlib.Core.Path.{◌≡◌, refl}
use lib.ListN.{length}
use Rattle.text.specs.Words.{rules_word, acl_word, rule_word, rule_marks, acl_marks}
use Rattle.text.specs.Numbers.{is_digit}
use Rattle.text.specs.Line.{parting}
use Rattle.text.proofs.Plain.{Plain, plain_of}
use Rattle.text.proofs.Below.{below_take}
use Rattle.rules.specs.Words.{largest_action}
use Rattle.rules.specs.Good.{good_to}
use Rattle.rules.proofs.Lists.{GoodRules}
use Rattle.rule_file.specs.declared.kind.Kind.{Kind}
use Rattle.rule_file.specs.declared.kind.Kind.TheVariants.{Rules, Acl}
use Rattle.rule_file.specs.Records.{rule_values}
use Rattle.rule_file.specs.Kinds.{list_word_of, marks_of, most_action}
use Rattle.rule_file.specs.RuleText.{format_of}
use Rattle.rule_file.proofs.Records.{tested, rule_length, rule_below, values_below}
use Rattle.rule_file.proofs.KindRecords.{values_count, values_exact, test_holds}
use Rattle.rule_file.proofs.KindRecords.{good_of_kind, rule_back, test_back}
use Rattle.rule_file.proofs.Formats.{Sound}

-- a rule that a file of the kind can hold
abbrev pub holds_of : Kind → List ℕ → Bool
holds_of k r = good_to (most_action k) r 0

plain_word : (k : Kind) → Plain (list_word_of k)
plain_word Rules = plain_of rules_word refl
plain_word Acl = plain_of acl_word refl

plain_marks : (k : Kind) → Plain (marks_of k)
plain_marks Rules = plain_of rule_marks refl
plain_marks Acl = plain_of acl_marks refl

marks_part : (k : Kind) → parting (marks_of k) ≡ true
unfolding is_digit
marks_part Rules = refl
marks_part Acl = refl

-- the format of each kind is as the laws ask
pub sound : (k : Kind) → Sound (format_of k) (holds_of k)
sound k =
    record {
      plain_list = plain_word k;
      plain_rule = plain_of rule_word refl;
      plain_marks = plain_marks k;
      parts = marks_part k;
      most_fits = omega arith;
      values_length = values_count k;
      values_below = λ i r h b. below_take _ (length (marks_of k)) (rule_values i r) (values_below i r h b);
      words_length = rule_length;
      words_below = λ i v t b. rule_below i v b (tested i v t);
      words_back = λ i r l b g. rule_back i r l b k g;
      test_back = λ i r l b g. test_back i r l b k g;
      test_holds = λ i v t l. test_holds k i v l (tested i v t);
      values_exact = λ i v t l. values_exact k i v l (tested i v t);
    }

-- rules whose actions a file of the kind can say are good
pub good_of_lines : (k : Kind) (ws : List ℕ) → GoodRules (most_action k) ws → GoodRules largest_action ws
good_of_lines k ws g =
    record { whole = g.whole; few = g.few; each = λ r h. good_of_kind k ws r (g.each r h) }
