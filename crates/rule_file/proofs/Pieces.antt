-- The pieces of a rule's line: they are its line, one after another, and each is short.
use Prim.Native.Nat.{ℕ, zero, suc, ◌+◌, ◌-◌, ◌*◌, ◌^◌, ◌≤◌, ◌<◌}
use native.Mathlib.Omega.{arith}
use mathlib.Core.Bool.{Bool, true, false}
use mathlib.Core.List.{List, [], ◌∷◌, ◌++◌, append-nil, append_assoc}
use mathlib.Core.Path.{◌≡◌, refl, ap, ◌∙◌}
use lib.ListN.{length, get_or, take, drop, length-take}
use lib.Seq.{get_or-take, get_or-drop}
use borrow.Author.Tests.{lt-ltb, le-ltb, ltb-true}
use Rattle.facts.proofs.Cases.{WithinOrOver, within_or_over, at_most, over}
use Rattle.fields.specs.Words.{field_count}
use Rattle.rules.specs.Words.{rule_words, match_words, rule_count, rule_there, action_of}
use Rattle.text.specs.Words.{tab, rule_word, rule_marks, acl_marks}
use Rattle.text.specs.Numbers.{digits_of}
use Rattle.text.specs.Line.{EachUnder, print_fields, print_line}
use Rattle.text.proofs.Below.{below_at, below_drop, below_take, below_of}
use Rattle.text.proofs.Sizes.{fields_few}
use Rattle.rule_file.specs.declared.kind.Kind.TheVariants.{Rules, Acl}
use Rattle.rule_file.specs.ListText.{line_of}
use Rattle.rule_file.specs.RuleText.{format_of}
use Rattle.rule_file.specs.Records.{rule_values, rule_at}
use Rattle.rule_file.specs.Pieces.{places, between, piece_of, words_for, words_line}
use Rattle.rule_file.proofs.Records.{values_below}

-- the places rise, by five at most, and there is a separator at each but the last
pub record Rises (f : ℕ) : Type 0 where
  pub rise : get_or places f 0 ≤ get_or places (f + 1) 0
  pub few : get_or places (f + 1) 0 ≤ get_or places f 0 + 5
  pub inside : get_or places (f + 1) 0 ≤ length rule_marks

pub places_rise : (f : ℕ) → f < field_count → Rises f
places_rise zero h = record { rise = omega arith; few = omega arith; inside = omega arith }
places_rise (suc zero) h = record { rise = omega arith; few = omega arith; inside = omega arith }
places_rise (suc (suc zero)) h = record { rise = omega arith; few = omega arith; inside = omega arith }
places_rise (suc (suc (suc zero))) h = record { rise = omega arith; few = omega arith; inside = omega arith }
places_rise (suc (suc (suc (suc zero)))) h = record { rise = omega arith; few = omega arith; inside = omega arith }
places_rise (suc (suc (suc (suc (suc f))))) h = absurd (omega arith)

-- the rule's number stands before all fields: no piece has it
pub piece_same :
    (f : ℕ) → f < field_count → (i j : ℕ) (r : List ℕ) → piece_of f (rule_values i r) ≡ piece_of f (rule_values j r)
unfolding piece_of rule_values
piece_same zero h i j r = refl
piece_same (suc zero) h i j r = refl
piece_same (suc (suc zero)) h i j r = refl
piece_same (suc (suc (suc zero))) h i j r = refl
piece_same (suc (suc (suc (suc zero)))) h i j r = refl
piece_same (suc (suc (suc (suc (suc f))))) h i j r = absurd (omega arith)

module _ (rs : List ℕ) (r f : ℕ) where
  -- a rule that is there has words for each field
  pub words_there : r < rule_count rs → f < field_count → words_for rs r f ≡ piece_of f (rule_values r (rule_at rs r))
  unfolding words_for
  words_there h l = rw (lt-ltb r (rule_count rs) h, lt-ltb f field_count l)

  -- a rule that is not there has none
  pub words_no_rule : rule_there rs r ≡ false → words_for rs r f ≡ []
  unfolding words_for
  words_no_rule h = rw h

  -- and there are none for what is no field
  pub words_no_field : field_count ≤ f → words_for rs r f ≡ []
  unfolding words_for
  words_no_field h = go (rule_there rs r) refl
    where
      go : (t : Bool) → rule_there rs r ≡ t → words_for rs r f ≡ []
      go true e = rw (e, le-ltb f field_count h)
      go false e = rw e

module _ (n : ℕ) (r : List ℕ) where
  abbrev piece : ℕ → List ℕ
  piece f = piece_of f (rule_values n r)

  abbrev pieces : List ℕ
  pieces = rule_word ++ ((tab ∷ digits_of n) ++ (piece 0 ++ (piece 1 ++ (piece 2 ++ (piece 3 ++ piece 4)))))

  rules_pieces : print_line rule_word rule_marks (take (length rule_marks) (rule_values n r)) ≡ pieces
  unfolding print_line print_fields piece_of rule_values
  rules_pieces = simp (append_assoc, append-nil)

  -- the line with the action is the other, and then the action
  action_behind :
      print_line rule_word acl_marks (take (length acl_marks) (rule_values n r)) ≡
      print_line rule_word rule_marks (take (length rule_marks) (rule_values n r)) ++ (tab ∷ digits_of (get_or r match_words 0))
  unfolding print_line print_fields rule_values
  action_behind = simp (append_assoc, append-nil)

  acl_pieces :
      print_line rule_word acl_marks (take (length acl_marks) (rule_values n r)) ≡
      pieces ++ (tab ∷ digits_of (get_or r match_words 0))
  acl_pieces = action_behind ∙ rw rules_pieces

module _ (rs : List ℕ) (n : ℕ) (h : n < rule_count rs) where
  its_pieces : pieces n (rule_at rs n) ≡ words_line rs n
  its_pieces =
      let is : (f : ℕ) → f < field_count → words_for rs n f ≡ piece_of f (rule_values n (rule_at rs n)) =
      λ f l. words_there rs n f h l in
      rw (is 0 (omega arith), is 1 (omega arith), is 2 (omega arith), is 3 (omega arith), is 4 (omega arith))

  -- the line of a rule is that in a file without actions
  pub rules_line : line_of (format_of Rules) rs n ≡ words_line rs n
  rules_line = rules_pieces n (rule_at rs n) ∙ its_pieces

  -- and in one with actions the action stands behind it
  pub acl_line : line_of (format_of Acl) rs n ≡ words_line rs n ++ (tab ∷ digits_of (action_of rs n))
  acl_line =
      let action : get_or (rule_at rs n) match_words 0 ≡ action_of rs n =
      get_or-take rule_words (drop (n * rule_words) rs) match_words 0 (omega arith) ∙
      get_or-drop (n * rule_words) rs match_words 0 in
      acl_pieces n (rule_at rs n) ∙ ap (λ l. l ++ (tab ∷ digits_of (get_or (rule_at rs n) match_words 0))) its_pieces ∙
      ap (λ a. words_line rs n ++ (tab ∷ digits_of a)) action

-- a piece of numbers of 32 bits is short: it has five at most, each behind its separator
piece_few : (f : ℕ) (vs : List ℕ) → f < field_count → EachUnder (2 ^ 32) vs → length (piece_of f vs) ≤ 55
unfolding piece_of
piece_few f vs h b =
    let from : ℕ = get_or places f 0 in
    let to : ℕ = get_or places (f + 1) 0 in
    let p : List ℕ = between from to vs in
    let below : EachUnder (2 ^ 32) p = below_take (2 ^ 32) (to - from) (drop from vs) (below_drop (2 ^ 32) from vs b) in
    let each : EachUnder (10 ^ 10) p =
    below_of (10 ^ 10) p (λ i l. omega (arith, below_at (2 ^ 32) p i (omega arith) below)) in
    let size = fields_few 9 (between from to rule_marks) p each in
    let short = length-take (to - from) (drop from vs) in
    let rises = places_rise f h in
    omega (arith, size, short, rises.few)

-- so are the words of a rule for a field
pub words_few : (rs : List ℕ) (r f : ℕ) → EachUnder (2 ^ 32) rs → length (words_for rs r f) ≤ 55
words_few rs r f b = go (within_or_over field_count f)
  where
    there : f < field_count → (t : Bool) → rule_there rs r ≡ t → length (words_for rs r f) ≤ 55
    there h false e = rw (words_no_rule rs r f e) (omega arith)
    there h true e =
        let rule = below_take (2 ^ 32) rule_words (drop (r * rule_words) rs) (below_drop (2 ^ 32) (r * rule_words) rs b) in
        let short = piece_few f (rule_values 0 (rule_at rs r)) h (values_below 0 (rule_at rs r) (omega arith) rule) in
        rw (words_there rs r f (ltb-true _ _ e) h, piece_same f h r 0 (rule_at rs r)) short

    go : WithinOrOver field_count f → length (words_for rs r f) ≤ 55
    go (at_most k) = rw (words_no_field rs r f k) (omega arith)
    go (over k) = there k (rule_there rs r) refl
