-- Filling words with the boxes of the rules, side after side, and the invariant of the loop that does it. Of m fields,
-- side i is field i % m of rule i / m; its two ends stand at the words 2 i and 2 i + 1.
use Prim.Native.Nat.{ℕ, suc, ◌+◌, ◌*◌, ◌/◌, ◌%◌, ◌^◌, ◌≤◌, ◌<◌}
use native.Mathlib.Numerals.{add-one}
use native.Mathlib.Omega.{arith}
use mathlib.Core.Path.{◌≡◌, sym, ap, ◌∙◌}
use mathlib.Core.Logic.{◌⊎◌, inl, inr}
use mathlib.Core.List.{List, [], ◌∷◌}
use lib.ListN.{length, get_or, set, take}
use lib.Seq.{sets, get_or-set_same, get_or-set_other, get_or-take, length-take-le, ext_get_or, lt-length-set}
use Rattle.facts.proofs.Cases.{same_or_not}
use Rattle.facts.proofs.Counted.{map_up_same}
use Rattle.refusals.specs.Verdict.{Fine}
use Rattle.fields.specs.Words.{address_bits, field_count}
use Rattle.fields.proofs.Fields.{two_ends}
use Rattle.rules.specs.Words.{rule_count, form_of, field_of}
use Rattle.rules.specs.Good.{list_verdict}
use Rattle.rules.specs.Matching.{rule_box}
use Rattle.rules.specs.Bounds.{ends_of}
use Rattle.rules.proofs.Lists.{good_of_fine}
use Rattle.rules.proofs.Meaning.{box_ends}
use Rattle.rules.proofs.Ends.{ends_of_good}
use Rattle.built.specs.Boxes.{boxes_of}
use Rattle.builder.specs.BoxWords.{box_words, box_count, box_word, box_at, boxes_in, BoxesFilled}
use Rattle.builder.proofs.BoxWords.{side_words, box_at_size, box_at_ends}

-- the two words of side i
abbrev pub side_at : List ℕ → ℕ → List ℕ
side_at ws i = get_or ws (i * 2) 0 ∷ get_or ws (i * 2 + 1) 0 ∷ []

-- the ends that side i is to have
abbrev pub side_of : List ℕ → ℕ → List ℕ
side_of rs i = get_or (rule_box rs (i / field_count)) (i % field_count) []

-- the first n sides stand in the words
pub record SidesFilled (rs ws : List ℕ) (n : ℕ) : Type 0 where
  pub side : (i : ℕ) → i < n → side_at ws i ≡ side_of rs i

-- a side's ends are two numbers, as those of a field are
side_two : (rs : List ℕ) (i : ℕ) → side_of rs i ≡ get_or (side_of rs i) 0 0 ∷ get_or (side_of rs i) 1 0 ∷ []
side_two rs i =
    rw (box_ends rs (i / field_count) (i % field_count) (omega arith))
    (two_ends (field_of (form_of (i % field_count)) rs (i / field_count)))

-- the ends that are found for a side of a good list are those that it is to have
pub side_found :
    (rs : List ℕ) (i : ℕ) → list_verdict rs ≡ Fine → ((k : ℕ) → get_or rs k 0 < 2 ^ address_bits) →
    i < rule_count rs * field_count → ends_of rs (i / field_count) (i % field_count) ≡ side_of rs i
side_found rs i fine words h =
    let r : ℕ = i / field_count in
    let there : r < rule_count rs = omega arith in
    ends_of_good rs r (i % field_count) ((good_of_fine rs fine).each r there) there (omega arith) words

module _ (ws : List ℕ) (n a b : ℕ) where
  -- two words put at side n
  abbrev put : List ℕ
  put = sets ws (n * 2) (a ∷ b ∷ [])

  put_here : n * 2 + 2 ≤ length ws → side_at put n ≡ a ∷ b ∷ []
  put_here h =
      let low : get_or put (n * 2) 0 ≡ a =
      get_or-set_other (set ws (n * 2) a) (suc (n * 2)) (n * 2) b 0 (λ e. omega arith) ∙
      get_or-set_same ws (n * 2) a 0 (omega arith) in
      let high : get_or put (n * 2 + 1) 0 ≡ b =
      rw (add-one (n * 2))
      (get_or-set_same (set ws (n * 2) a) (suc (n * 2)) b 0 (lt-length-set ws (n * 2) a (omega arith))) in
      rw (low, high)

  put_elsewhere : (j : ℕ) → (j ≡ n * 2 → ⊥) → (j ≡ n * 2 + 1 → ⊥) → get_or put j 0 ≡ get_or ws j 0
  put_elsewhere j d e =
      get_or-set_other (set ws (n * 2) a) (suc (n * 2)) j b 0 (λ q. e (omega arith)) ∙
      get_or-set_other ws (n * 2) j a 0 d

-- once the ends of side n are stored, the first n + 1 sides stand in the words
pub sides_step :
    {rs ws new ends : List ℕ} {n : ℕ} → SidesFilled rs ws n → n * 2 + 2 ≤ length ws → ends ≡ side_of rs n →
    new ≡ sets ws (n * 2) ends → SidesFilled rs new (n + 1)
sides_step {rs} {ws} {new} {ends} {n} w room e q = record { side = λ i h. go i h (same_or_not i n) }
  where
    low : ℕ
    low = get_or (side_of rs n) 0 0

    high : ℕ
    high = get_or (side_of rs n) 1 0

    stored : new ≡ sets ws (n * 2) (low ∷ high ∷ [])
    stored = q ∙ ap (sets ws (n * 2)) (e ∙ side_two rs n)

    go : (i : ℕ) → i < n + 1 → (i ≡ n) ⊎ (i ≡ n → ⊥) → side_at new i ≡ side_of rs i
    go i h (inl s) = rw (s, stored) (put_here ws n low high room ∙ sym (side_two rs n))
    go i h (inr d) =
        rw (
          stored,
          put_elsewhere ws n low high (i * 2) (λ k. d (omega arith)) (λ k. omega arith),
          put_elsewhere ws n low high (i * 2 + 1) (λ k. omega arith) (λ k. d (omega arith)),
        )
        (w.side i (omega arith))

-- ---- at the end

module _ (rs ws : List ℕ) (w : SidesFilled rs ws (rule_count rs * field_count)) where
  abbrev front : List ℕ
  front = take (rule_count rs * box_words) ws

  word_in_front :
      (r f j k : ℕ) → r < rule_count rs → f < field_count → j < 2 → r * box_words + f * 2 + j ≡ k →
      box_word front r f j ≡ get_or ws k 0
  word_in_front r f j k h l m e =
      get_or-take (rule_count rs * box_words) ws (r * box_words + f * 2 + j) 0 (omega arith) ∙
      ap (λ (k : ℕ). get_or ws k 0) e

  side_in_front :
      (r f : ℕ) → r < rule_count rs → f < field_count → side_words front r f ≡ get_or (rule_box rs r) f []
  side_in_front r f h k =
      let i : ℕ = r * field_count + f in
      let rule : i / field_count ≡ r = omega arith in
      let field : i % field_count ≡ f = omega arith in
      let low : box_word front r f 0 ≡ get_or ws (i * 2) 0 =
      word_in_front r f 0 (i * 2) h k (omega arith) (omega arith) in
      let high : box_word front r f 1 ≡ get_or ws (i * 2 + 1) 0 =
      word_in_front r f 1 (i * 2 + 1) h k (omega arith) (omega arith) in
      rw (low, high)
      (rw (rule, field) at (w.side i (omega arith)))

  box_in_front : (r : ℕ) → r < rule_count rs → box_at front r ≡ rule_box rs r
  unfolding rule_box
  box_in_front r h =
      ext_get_or [] (box_at front r) (rule_box rs r) (box_at_size front r)
      (λ f l.
      let k : f < field_count = omega (arith, box_at_size front r) in
      box_at_ends front r f k ∙ side_in_front r f h k)

  -- the boxes of the rules stand in the words once each side does
  pub sides_last : rule_count rs * box_words ≤ length ws → BoxesFilled rs ws
  unfolding boxes_in boxes_of
  sides_last room =
      let count : box_count front ≡ rule_count rs = omega (arith, length-take-le (rule_count rs * box_words) ws room) in
      record { boxes = rw count (map_up_same [] (box_at front) (rule_box rs) (rule_count rs) box_in_front) }
