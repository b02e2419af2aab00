-- What the laws of list texts ask of a format, and what a list of it is.
--   Sound F holds        the numbers of a line and the words of a rule give each other back, for words of which `holds`
--                        is true; the words and the separators can be told from numbers and from newlines
--   ListOf F holds n ws  the words ws are n such rules
use Prim.Native.Nat.{ℕ, ◌+◌, ◌*◌, ◌^◌, ◌≤◌, ◌<◌}
use mathlib.Core.Bool.{Bool, true}
use mathlib.Core.List.{List}
use mathlib.Core.Path.{◌≡◌}
use lib.ListN.{length}
use Rattle.text.specs.Line.{EachUnder, parting}
use Rattle.text.proofs.Plain.{Plain}
use Rattle.rule_file.specs.ListText.{Format, part_at}

pub record Sound (F : Format) (holds : List ℕ → Bool) : Type 0 where
  pub plain_list : Plain F.list_word
  pub plain_rule : Plain F.rule_word
  pub plain_marks : Plain F.marks
  pub parts : parting F.marks ≡ true
  pub most_fits : F.most + 1 < 2 ^ 32
  pub values_length : (i : ℕ) (r : List ℕ) → length (F.values_of i r) ≡ length F.marks
  pub values_below : (i : ℕ) (r : List ℕ) → i < 2 ^ 32 → EachUnder (2 ^ 32) r → EachUnder (2 ^ 32) (F.values_of i r)
  pub words_length : (v : List ℕ) → length (F.words_of v) ≡ F.width
  pub words_below : (i : ℕ) (v : List ℕ) → F.test i v ≡ true → EachUnder (2 ^ 32) v → EachUnder (2 ^ 32) (F.words_of v)
  pub words_back :
      (i : ℕ) (r : List ℕ) → length r ≡ F.width → EachUnder (2 ^ 32) r → holds r ≡ true →
      F.words_of (F.values_of i r) ≡ r
  pub test_back :
      (i : ℕ) (r : List ℕ) → length r ≡ F.width → EachUnder (2 ^ 32) r → holds r ≡ true →
      F.test i (F.values_of i r) ≡ true
  pub test_holds :
      (i : ℕ) (v : List ℕ) → F.test i v ≡ true → length v ≡ length F.marks → holds (F.words_of v) ≡ true
  pub values_exact :
      (i : ℕ) (v : List ℕ) → F.test i v ≡ true → length v ≡ length F.marks → v ≡ F.values_of i (F.words_of v)

pub record ListOf (F : Format) (holds : List ℕ → Bool) (n : ℕ) (ws : List ℕ) : Type 0 where
  pub size : length ws ≡ n * F.width
  pub few : n ≤ F.most
  pub each : (j : ℕ) → j < n → holds (part_at F.width ws j) ≡ true
