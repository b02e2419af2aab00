-- What the steps of the rule reader find, line by line, in a text of kind k. Definitions only.
--   rules_step k st l           what the line l makes of the state st, or that it is wrong
--   rules_from k st s c         what reading the text s from the cursor c on comes to, from the state st on
--   rest_from k n s c           the same where n rules are announced, and none is read
--   FirstLineRead k s r         r is what the first line says, and where the rules begin
--   RuleStored k s c i old new d    the line of rule i stands at c, its words are stored, and d is the cursor behind it
--   RuleLineRead k s c i old new r  r is that cursor, or the refusal there, whatever was read before
--   RulesStored k a old new n j     the reading a came to n rules in a file of kind k, which j is, and their words are
--                               stored, as far as there is room
--   PassRead k a old new r      r is what the reading a comes to
--   WordsTaken k ws before r after  r is what comes of the words ws of rules: 11 for twins, then 4, else
--                               they stand in front
use Rattle.rule_file.specs.declared.read.Rules.{Rules}
use Rattle.refusals.specs.declared.Refusal.{Refusal}
use Rattle.std.specs.Prelude.{ℕ, ◌+◌, ◌*◌, ◌≤◌, ◌<◌, List, [], ◌∷◌, ◌++◌, ◌≡◌, length, Err, Ok, Result}
use Rattle.std.proofs.Math.Option.{Option}
use Rattle.std.proofs.lemmas.List.Edits.{sets}
use Rattle.refusals.specs.Order.{room_verdict, ◌then◌}
use Rattle.refusals.specs.Promises.{Writes}
use Rattle.text.specs.declared.cursor.Cursor.{Cursor}
use Rattle.text.specs.Text.{Reading, good, refused}
use Rattle.text.specs.Onward.{Stands}
use Rattle.rules.specs.Words.{rule_words, most_rules, rule_count}
use Rattle.rules.specs.Good.{list_verdict}
use Rattle.rule_file.specs.declared.kind.Kind.{Kind}
use Rattle.rule_file.specs.ListText.{State, within, step, list_from, list_in}
use Rattle.rule_file.specs.Kinds.{kind_number}
use Rattle.rule_file.specs.RuleText.{format_of}
use Rattle.rule_file.specs.Reading.{paper}

abbrev pub rules_step : Kind → State → List ℕ → Option State
rules_step k st l = step (format_of k) st l

abbrev pub rules_from : Kind → State → List ℕ → Cursor → Reading (List ℕ)
rules_from k st s c = list_from (format_of k) st s c

abbrev pub rest_from : Kind → ℕ → List ℕ → Cursor → Reading (List ℕ)
rest_from k n s c = rules_from k (within n 0 []) s c

pub record RulesAnnounced (k : Kind) (s : List ℕ) (n : ℕ) (d : Cursor) : Type 0 where
  pub moved : list_in (format_of k) s ≡ rest_from k n s d
  pub stands : Stands s d
  pub few : n ≤ most_rules

abbrev pub FirstLineRead : Kind → List ℕ → Result (ℕ × Cursor) Refusal → Type 0
FirstLineRead k s (Err why) = list_in (format_of k) s ≡ refused why
FirstLineRead k s (Ok (n, d)) = RulesAnnounced k s n d

pub record RuleStored (k : Kind) (s : List ℕ) (c : Cursor) (i : ℕ) (old new : List ℕ) (d : Cursor) : Type 0 where
  pub words : List ℕ
  pub moved :
      (n : ℕ) (ws : List ℕ) → i < n →
      rules_from k (within n i ws) s c ≡ rules_from k (within n (i + 1) (ws ++ words)) s d
  pub size : length words ≡ rule_words
  pub rules_are : new ≡ sets old (i * rule_words) words
  pub stands : Stands s d

abbrev pub RuleLineRead : Kind → List ℕ → Cursor → ℕ → List ℕ → List ℕ → Result Cursor Refusal → Type 0
RuleLineRead k s c i old new (Err why) =
    (n : ℕ) (ws : List ℕ) → i < n → rules_from k (within n i ws) s c ≡ refused why
RuleLineRead k s c i old new (Ok d) = RuleStored k s c i old new d

pub record RulesStored (k : Kind) (a : Reading (List ℕ)) (old new : List ℕ) (n : ℕ) (j : Kind) : Type 0 where
  pub words : List ℕ
  pub says : a ≡ good words
  pub size : length words ≡ n * rule_words
  pub few : n ≤ most_rules
  pub rules_are : new ≡ sets old 0 words
  pub kind : j ≡ k

abbrev pub PassRead : Kind → Reading (List ℕ) → List ℕ → List ℕ → Result Rules Refusal → Type 0
PassRead k a old new (Err why) = a ≡ refused why
PassRead k a old new (Ok read) = RulesStored k a old new read.rules read.kind

abbrev pub WordsTaken : Kind → List ℕ → List ℕ → Result Rules Refusal → List ℕ → Type 0
WordsTaken k ws before r after =
    Writes paper (list_verdict ws then room_verdict (length ws) (length before)) (rule_count ws ∷ kind_number k ∷ []) ws
    before r after
