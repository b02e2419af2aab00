-- `builder::boxes::box_meets` meets its contract: each field is tested. Assumes nothing.
use Prim.Native.Nat.{ℕ}
use mathlib.Core.Bool.{Bool, true, false, ◌&&◌}
use mathlib.Core.Path.{◌≡◌, refl, ◌∙◌}
use borrow.Author.Tests.{tests}
use Rattle.std.proofs.Common.{rules}
use Rattle.std.proofs.lemmas.Iterator.{YieldsList-from_range}
use Rattle.std.proofs.lemmas.Iterator.Search.{all_from_yields_List}
use Rattle.std.specs.List.{list_all, range_with_len}
use Rattle.facts.specs.Below.{all_below}
use Rattle.fields.specs.Words.{field_count}
use Rattle.fields.specs.Ranges.{ranges_meet}
use Rattle.fields.specs.Boxes.{low_of, high_of}
use Rattle.builder.specs.BoxWords.{box_word}
use Rattle.builder.proofs.BoxWords.{words_meet}
use Rattle.builder.proofs.boxes.box_meets.Goals as goal

-- a test of each field in turn holds exactly where it holds of all fields
each_field : (p : ℕ → Bool) → list_all p (range_with_len 0 field_count) ≡ all_below field_count p
unfolding all_below
each_field p = go (p 0) (p 1) (p 2) (p 3) (p 4)
  where
    go : (a b c d e : Bool) → (a && (b && (c && (d && (e && true))))) ≡ (true && a && b && c && d && e)
    go true true true true true = refl
    go true true true true false = refl
    go true true true false e = refl
    go true true false d e = refl
    go true false c d e = refl
    go false b c d e = refl

pub returns : goal.returns
returns c =
    let a = c.args in
    let test : ℕ → Bool =
    λ f. ranges_meet (box_word a.boxes.now a.r f 0) (box_word a.boxes.now a.r f 1) (low_of a.bounds f) (high_of a.bounds f) in
    all_from_yields_List test _ _ _ c.all.ensures.ran (YieldsList-from_range 0 field_count field_count refl refl)
    (λ x b q k. search (rules, tests)) ∙
    each_field test ∙ words_meet _ _ c.requires _
