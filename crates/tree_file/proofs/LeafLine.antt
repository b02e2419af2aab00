-- What a node's line makes of a state: a cut by its numbers; a leaf by its two numbers and then its entries.
use Prim.Native.Nat.{ℕ, ◌+◌, ◌<◌}
use native.Mathlib.Omega.{arith}
use mathlib.Core.Bool.{Bool, true, false, cond, ◌&&◌}
use mathlib.Core.Path.{◌≡◌, refl, sym, ap, ◌∙◌}
use mathlib.Core.Option.{Option, none, some}
use mathlib.Core.List.{List, [], ◌∷◌, ◌++◌, append_assoc, append-nil}
use lib.ListN.{length, get_or, replicate}
use borrow.Author.Tests.{lt-ltb}
use Rattle.facts.specs.Lists.{all_under}
use Rattle.trees.specs.Words.{leaf_mark}
use Rattle.text.specs.Words.{tab, cut_word, leaf_word, two_tabs, four_tabs}
use Rattle.text.specs.Numbers.{Got, got, bad}
use Rattle.text.specs.Line.{then_read, read_word, read_behind, fields_from, read_fields, wholly, read_line, read_counted}
use Rattle.text.proofs.Numbers.{bad_got}
use Rattle.text.proofs.Lines.{fields_exact}
use Rattle.tree_file.specs.TreeText.{State, within, leaf_fits, on_leaf, step}
use Rattle.tree_file.specs.NodeSteps.{on_entries, entries_of}

-- ---- numbers behind others

-- numbers that were read, with others in front
abbrev infront : List ℕ → Got (List ℕ) → Got (List ℕ)
infront us (got vs rest) = got (us ++ vs) rest
infront us bad = bad

front_step :
    (us vs ms : List ℕ) (g : Got ℕ) →
    ((v : ℕ) (rest : List ℕ) →
    fields_from (us ++ (vs ++ (v ∷ []))) ms rest ≡ infront us (fields_from (vs ++ (v ∷ [])) ms rest)) →
    then_read g (λ v rest. fields_from ((us ++ vs) ++ (v ∷ [])) ms rest) ≡
    infront us (then_read g (λ v rest. fields_from (vs ++ (v ∷ [])) ms rest))
front_step us vs ms (got v rest) ih = rw (append_assoc us vs (v ∷ [])) (ih v rest)
front_step us vs ms bad ih = refl

-- numbers that stand in front stay there
front_stays : (us vs ms s : List ℕ) → fields_from (us ++ vs) ms s ≡ infront us (fields_from vs ms s)
unfolding fields_from
front_stays us vs [] s = refl
front_stays us vs (m ∷ ms) s =
    front_step us vs ms (read_behind m s) (λ v rest. front_stays us (vs ++ (v ∷ [])) ms rest)

-- a word and its numbers: as many as separators
pub fields_count :
    (w ms l vs rest : List ℕ) (g : Got (Unit {0})) → read_word w l ≡ g → read_fields w ms l ≡ got vs rest →
    length vs ≡ length ms
fields_count w ms l vs rest (got u r) e h =
    let f = fields_exact [] ms [] r vs rest refl tt (rw e at h) in
    f.count ∙ omega arith
fields_count w ms l vs rest bad e h = bad_got (rw e at h)

-- ---- a leaf line

counted_by :
    (w l us rest : List ℕ) (g : Got (Unit {0})) → read_word w l ≡ g → read_fields w two_tabs l ≡ got us rest →
    read_counted w l ≡ wholly (fields_from us (replicate (get_or us 1 0) tab) rest)
unfolding read_counted
counted_by w l us rest (got u r) e h = rw (e, rw e at h)
counted_by w l us rest bad e h = bad_got (rw e at h)

-- what a leaf's numbers and entries come to
abbrev on_numbers : ℕ → ℕ → ℕ → ℕ → List ℕ → List ℕ → ℕ → Bool → Option (List ℕ) → Option State
on_numbers n m p i ws es c false o = none
on_numbers n m p i ws es c true none = none
on_numbers n m p i ws es c true (some ys) =
    some (within n m p (i + 1) (ws ++ (leaf_mark ∷ length es ∷ c ∷ [])) (es ++ ys))

module _ (n m p i : ℕ) (ws es : List ℕ) (a c : ℕ) where
  pass_by :
      (t b : Bool) (ys : List ℕ) →
      cond (t && b) (some (within n m p (i + 1) (ws ++ (leaf_mark ∷ length es ∷ c ∷ [])) (es ++ ys))) none ≡
      on_numbers n m p i ws es c t (cond b (some ys) none)
  pass_by true true ys = refl
  pass_by true false ys = refl
  pass_by false b ys = refl

  none_by : (t : Bool) → none ≡ on_numbers n m p i ws es c t none
  none_by true = refl
  none_by false = refl

  -- the entries decide, if the two numbers pass
  entries_by :
      (g : Got (List ℕ)) →
      on_leaf n m p i ws es (wholly (infront (a ∷ c ∷ []) g)) ≡
      on_numbers n m p i ws es c (leaf_fits n p i (length es) a c) (on_entries n (wholly g))
  entries_by (got ys []) = pass_by (leaf_fits n p i (length es) a c) (all_under n ys) ys
  entries_by (got ys (b ∷ bs)) = none_by (leaf_fits n p i (length es) a c)
  entries_by bad = none_by (leaf_fits n p i (length es) a c)

two_of : (us : List ℕ) → length us ≡ 2 → us ≡ get_or us 0 0 ∷ get_or us 1 0 ∷ []
two_of [] e = absurd (omega arith)
two_of (a ∷ []) e = absurd (omega arith)
two_of (a ∷ b ∷ []) e = refl
two_of (a ∷ b ∷ x ∷ us) e = absurd (omega arith)

module _ (n m p i : ℕ) (l ws es : List ℕ) (h : i < m) (no_cut : read_line cut_word four_tabs l ≡ none) where
  -- what is no cut line is left to the leaf line
  leaf_left : step (within n m p i ws es) l ≡ on_leaf n m p i ws es (read_counted leaf_word l)
  unfolding step
  leaf_left = rw (lt-ltb i m h, no_cut)

  -- without the word and two numbers it is no leaf line
  pub no_leaf : read_fields leaf_word two_tabs l ≡ bad → step (within n m p i ws es) l ≡ none
  unfolding read_counted
  no_leaf e = leaf_left ∙ ap (on_leaf n m p i ws es) (counted_none (read_word leaf_word l) refl)
    where
      counted_none : (g : Got (Unit {0})) → read_word leaf_word l ≡ g → read_counted leaf_word l ≡ none
      counted_none (got u r) q = rw (q, rw q at e)
      counted_none bad q = rw q

  module _ {us rest : List ℕ} (two : read_fields leaf_word two_tabs l ≡ got us rest) where
    -- the two numbers and the entries decide
    pub leaf_decides :
        step (within n m p i ws es) l ≡
        on_numbers n m p i ws es (get_or us 1 0) (leaf_fits n p i (length es) (get_or us 0 0) (get_or us 1 0))
        (entries_of n (get_or us 1 0) rest)
    unfolding entries_of
    leaf_decides =
        let g = fields_from [] (replicate (get_or us 1 0) tab) rest in
        let count = fields_count leaf_word two_tabs l us rest (read_word leaf_word l) refl two in
        let front : fields_from us (replicate (get_or us 1 0) tab) rest ≡ infront (get_or us 0 0 ∷ get_or us 1 0 ∷ []) g =
        ap (λ (x : List ℕ). fields_from x (replicate (get_or us 1 0) tab) rest) (sym (append-nil us)) ∙
        front_stays us [] (replicate (get_or us 1 0) tab) rest ∙ ap (λ (x : List ℕ). infront x g) (two_of us count) in
        leaf_left ∙
        ap (on_leaf n m p i ws es) (counted_by leaf_word l us rest (read_word leaf_word l) refl two ∙ ap wholly front) ∙
        entries_by n m p i ws es (get_or us 0 0) (get_or us 1 0) g
