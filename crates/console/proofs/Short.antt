-- No reply by a good list is longer than `most_reply`: a buffer of that room never holds the input up.
use Prim.Native.Nat.{ℕ, ◌+◌, ◌^◌, ◌≤◌, ◌<◌}
use native.Mathlib.Omega.{arith}
use mathlib.Core.Bool.{Bool, true, false}
use mathlib.Core.Path.{◌≡◌, refl, sym, ap, ◌∙◌}
use mathlib.Core.List.{List, ◌∷◌}
use mathlib.Core.Option.{Option, none, some}
use lib.ListN.{length, take, replicate, length-append}
use lib.Dec.{leb, eqb}
use borrow.Author.Tests.{le-leb}
use Rattle.facts.specs.Lists.{up_from}
use Rattle.facts.proofs.Steps.{length_up}
use Rattle.facts.proofs.Filling.{keep_at_most}
use Rattle.facts.proofs.Under.{all_under_iff_at, all_under_iff_has}
use Rattle.refusals.specs.declared.Refusal.{Refusal}
use Rattle.refusals.specs.declared.Refusal.TheVariants.{RuleNotGood, HeaderWrong}
use Rattle.refusals.specs.Verdict.{Verdict}
use Rattle.refusals.specs.Verdict.{Fine, Refused}
use Rattle.refusals.specs.Order.{refuse_unless}
use Rattle.refusals.proofs.Order.{then_fine, then_refused, refused_not_fine, room_fine_iff}
use Rattle.refusals.proofs.Turns.{lowest_of_turns}
use Rattle.fields.specs.Words.{field_count}
use Rattle.fields.specs.Headers.{field_verdict, header_verdict}
use Rattle.rules.specs.Words.{most_rules, rule_count, rule_there}
use Rattle.rules.specs.Good.{list_verdict}
use Rattle.rules.specs.Matching.{first_miss, matches, matching}
use Rattle.rules.specs.LineAll.{all_verdict}
use Rattle.rules.specs.RuleMisses.{there_verdict, miss_verdict}
use Rattle.rules.proofs.Lists.{good_of_fine}
use Rattle.rules.proofs.Listing.{listed_iff_matches}
use Rattle.text.specs.Words.{newline, tab}
use Rattle.text.specs.Line.{EachUnder, print_line}
use Rattle.text.specs.Places.{highest, place_after}
use Rattle.text.specs.Cursors.{wrong_at}
use Rattle.text.proofs.Places.{within_in}
use Rattle.text.proofs.Below.{below_of}
use Rattle.text.proofs.Sizes.{fields_few}
use Rattle.console.specs.declared.gather.Gathering.{Gathering}
use Rattle.console.specs.Heads.{most_bytes, head_in}
use Rattle.console.specs.Lines.{refused_line, hit_line, most_reply}
use Rattle.console.specs.Replies.{search_verdict, search_list, answer_of, answer_to, on_head, line_reply}
use Rattle.console.specs.MissLines.{line_or, miss_answer}
use Rattle.console.specs.Gathered.{reply_at, said}
use Rattle.console.specs.Feeding.{taken_of}
use Rattle.console.proofs.Saying.{refused_few, miss_few}

-- ---- the line of a hit

hit_short : (ms : List ℕ) → length ms ≤ most_rules → EachUnder (10 ^ 3) ms → length (hit_line ms) ≤ most_reply
unfolding hit_line print_line
hit_short ms few below =
    let size = fields_few 2 (replicate (length ms + 1) tab) (length ms ∷ ms) (omega arith, below) in
    simp length-append (omega (arith, size))

module _ (rs h : List ℕ) (fine : list_verdict rs ≡ Fine) where
  few_rules : rule_count rs ≤ most_rules
  few_rules = omega (arith, (good_of_fine rs fine).few)

  few_matching : length (matching rs h) ≤ most_rules
  unfolding matching
  few_matching =
      omega (arith, keep_at_most (matches rs h) (up_from 0 (rule_count rs)), length_up (rule_count rs) 0, few_rules)

  small_matching : EachUnder (10 ^ 3) (matching rs h)
  small_matching =
      let under = (all_under_iff_has most_rules (matching rs h)).1
      (λ y m. omega (arith, ((listed_iff_matches rs h y).0 m).0, few_rules)) in
      below_of (10 ^ 3) (matching rs h) (λ i l. omega (arith, (all_under_iff_at most_rules (matching rs h)).0 under i l))

-- ---- the line of a refusal

refuses_for : (t : Bool) {w why : Refusal} → refuse_unless t w ≡ Refused why → why ≡ w
unfolding refuse_unless
refuses_for true e = refused_not_fine (sym e)
refuses_for false e = cc

wrong_short : (f : ℕ) {why : Refusal} → f ≤ field_count → why ≡ HeaderWrong f → length (refused_line why) ≤ most_reply
wrong_short f h e = rw e (omega (arith, refused_few (HeaderWrong f) (omega arith) (omega arith) (omega arith)))

-- a header is refused in few bytes
header_short : (h : List ℕ) {why : Refusal} → header_verdict h ≡ Refused why → length (refused_line why) ≤ most_reply
unfolding header_verdict field_verdict
header_short h {why} e = go (refuse_unless (eqb (length h) field_count) (HeaderWrong field_count)) refl
  where
    go :
        (v : Verdict) → refuse_unless (eqb (length h) field_count) (HeaderWrong field_count) ≡ v →
        length (refused_line why) ≤ most_reply
    go Fine k =
        let low = lowest_of_turns field_count 0 (field_verdict h) (sym (then_fine _ k) ∙ e) in
        wrong_short low.at (omega (arith, low.below)) (refuses_for _ low.refuses)
    go (Refused x) k =
        let same : x ≡ why = (let z = sym (then_refused _ k) ∙ e in cc) in
        wrong_short field_count (omega arith) (refuses_for _ (k ∙ ap Refused same))

-- ---- the replies

module _ (rs nodes pool : List ℕ) (fine : list_verdict rs ≡ Fine) where
  -- the answer to a header, by a good list
  pub answer_short : (h : List ℕ) → length (answer_to false rs nodes pool h) ≤ most_reply
  unfolding answer_to search_verdict search_list answer_of all_verdict
  answer_short h = go (header_verdict h) refl
    where
      go : (v : Verdict) → header_verdict h ≡ v → length (answer_to false rs nodes pool h) ≤ most_reply
      go Fine k =
          let all : all_verdict rs h most_rules ≡ Fine =
          then_fine _ fine ∙ then_fine _ k ∙ (room_fine_iff _ _).1 (few_matching rs h fine) in
          rw all (hit_short (matching rs h) (few_matching rs h fine) (small_matching rs h fine))
      go (Refused why) k =
          let all : all_verdict rs h most_rules ≡ Refused why = then_fine _ fine ∙ then_refused _ k in
          rw all (header_short h k)

-- why a rule of a good list misses a header
pub miss_short :
    (rs : List ℕ) (n : ℕ) (h : List ℕ) → list_verdict rs ≡ Fine → EachUnder (2 ^ 32) rs → n < 2 ^ 64 →
    length (miss_answer rs n h) ≤ most_reply
unfolding miss_answer miss_verdict line_or there_verdict refuse_unless
miss_short rs n h fine below small = go (header_verdict h) refl
  where
    there :
        header_verdict h ≡ Fine → (t : Bool) → rule_there rs n ≡ t → length (miss_answer rs n h) ≤ most_reply
    there k true e =
        let all : miss_verdict rs h n ≡ Fine = then_fine _ fine ∙ then_fine _ k ∙ rw e in
        rw all (omega (arith, miss_few rs n (first_miss rs h n) below))
    there k false e =
        let all : miss_verdict rs h n ≡ Refused (RuleNotGood n) = then_fine _ fine ∙ then_fine _ k ∙ rw e in
        rw all (omega (arith, refused_few (RuleNotGood n) (omega arith) small (omega arith)))

    go : (v : Verdict) → header_verdict h ≡ v → length (miss_answer rs n h) ≤ most_reply
    go Fine k = there k (rule_there rs n) refl
    go (Refused why) k =
        let all : miss_verdict rs h n ≡ Refused why = then_fine _ fine ∙ then_refused _ k in
        rw all (header_short h k)

module _ (answer : List ℕ → List ℕ) (short : (h : List ℕ) → length (answer h) ≤ most_reply) where
  wrong_few : (k : ℕ) → length (refused_line (wrong_at k)) ≤ most_reply
  unfolding place_after
  wrong_few k =
      omega (arith, refused_few (wrong_at k) (omega arith) (omega (arith, within_in (k + 1) highest)) (omega arith))

  head_short : (k : ℕ) (o : Option (List ℕ)) → length (on_head answer k o) ≤ most_reply
  head_short k none = wrong_few k
  head_short k (some h) = short h

  reply_few : (g : Gathering) (few : Bool) → leb g.count most_bytes ≡ few → length (reply_at answer g) ≤ most_reply
  unfolding reply_at line_reply
  reply_few g true e = rw e (head_short g.lines (head_in (take g.count g.held)))
  reply_few g false e = rw e (wrong_few g.lines)

  -- what is replied at a byte
  pub said_few : (g : Gathering) (b : ℕ) → length (said answer g b) ≤ most_reply
  unfolding said
  said_few g b = go (eqb b newline) refl
    where
      go : (new : Bool) → eqb b newline ≡ new → length (said answer g b) ≤ most_reply
      go true e = rw e (reply_few g (leb g.count most_bytes) refl)
      go false e = rw e (omega arith)

  -- so where there is room for a reply, one byte at least is taken
  pub some_taken :
      (room : ℕ) (g : Gathering) (b : ℕ) (bs : List ℕ) → most_reply ≤ room → 0 < taken_of answer room g (b ∷ bs)
  unfolding taken_of
  some_taken room g b bs h = rw (le-leb (length (said answer g b)) room (omega (arith, said_few g b))) (omega arith)
