-- Writing a rule file. Definitions only.
--   write_verdict k ws room   1, 2, 11, then 4 where the room is less than the bytes of the text; in a file of kind k,
--                             2 is also for an action that its lines cannot say
--   ListWritten k             the promise of the writer of kind k: the text of the list stands in front, or it is
--                             refused
--   RulesWritten, AclWritten  those of the two kinds
use Rattle.refusals.specs.declared.Refusal.{Refusal}
use Rattle.std.specs.Prelude.{ℕ, List, [], ◌∷◌, length, Result}
use Rattle.refusals.specs.Verdict.{Verdict}
use Rattle.refusals.specs.Order.{room_verdict, ◌then◌}
use Rattle.refusals.specs.Promises.{Writes}
use Rattle.rules.specs.Good.{list_verdict_to}
use Rattle.text.specs.Said.{paper}
use Rattle.rule_file.specs.declared.kind.Kind.{Kind}
use Rattle.rule_file.specs.declared.kind.Kind.TheVariants.{Rules, Acl}
use Rattle.rule_file.specs.Kinds.{most_action}
use Rattle.rule_file.specs.RuleText.{text_of}

abbrev pub write_verdict : Kind → List ℕ → ℕ → Verdict
write_verdict k ws room = list_verdict_to (most_action k) ws then room_verdict (length (text_of k ws)) room

abbrev pub ListWritten : Kind → List ℕ → List ℕ → Result ℕ Refusal → List ℕ → Type 0
ListWritten k ws before r after =
    Writes paper (write_verdict k ws (length before)) (length (text_of k ws) ∷ []) (text_of k ws) before r after

abbrev pub RulesWritten : List ℕ → List ℕ → Result ℕ Refusal → List ℕ → Type 0
RulesWritten ws before r after = ListWritten Rules ws before r after

abbrev pub AclWritten : List ℕ → List ℕ → Result ℕ Refusal → List ℕ → Type 0
AclWritten ws before r after = ListWritten Acl ws before r after
