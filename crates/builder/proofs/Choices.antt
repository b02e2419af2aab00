-- What a node is, by the tests that the code makes: a node that does not stand yet, and one that does.
use Rattle.trees.specs.declared.words.Node.{Node}
use Rattle.trees.specs.Standing as at_node
use Rattle.std.specs.Prelude.{Option}
use Prim.Native.Nat.{ℕ, ◌≤◌, ◌<◌}
use native.Mathlib.Omega.{arith}
use mathlib.Core.Bool.{Bool, true, false, ◌||◌}
use mathlib.Core.Path.{◌≡◌, refl, ◌∙◌}
use mathlib.Core.List.{List}
use lib.ListN.{length}
use lib.Dec.{eqb}
use borrow.Author.Tests.{le-leb, lt-leb, eq-eqb, ne_eqb}
use Rattle.trees.specs.Node.{node_at}
use Rattle.built.specs.Boxes.{meeting}
use Rattle.built.specs.CutValues.{cut_values, cut_count, chosen_field, chosen_value, most_in_leaf, stops}
use Rattle.builder.specs.declared.choice.Choice.TheVariants.{Leaf, Stands, Cut}
use Rattle.builder.specs.declared.choice.Values.{Values}
use Rattle.builder.specs.Choices.{fresh_choice, choice_in, choice_of}
use Rattle.builder.specs.ChoiceSteps.{MostFound}
use Rattle.builder.proofs.Most.{chosen_field_lem, chosen_count, chosen_middle}

-- a test or one that holds holds
or-true : (a : Bool) → (a || true) ≡ true
or-true true = refl
or-true false = refl

module _ (k n : ℕ) (boxes : List (List (List ℕ))) (b : List (List ℕ)) where
  -- with no cuts allowed it is a leaf
  pub fresh_at_end : k ≡ 0 → Leaf ≡ fresh_choice k n boxes b
  unfolding fresh_choice
  fresh_at_end e = rw (eq-eqb k 0 e)

  -- where no more boxes meet than a leaf may list it is a leaf
  pub fresh_few : length (meeting n boxes b) ≤ most_in_leaf → Leaf ≡ fresh_choice k n boxes b
  unfolding fresh_choice stops
  fresh_few l = rw (le-leb (length (meeting n boxes b)) most_in_leaf l, or-true (eqb k 0))

  module _ (l : most_in_leaf < length (meeting n boxes b)) where
    -- where more meet and the chosen field has no cut value it is a leaf
    fresh_uncut : cut_count n boxes b (chosen_field n boxes b) ≡ 0 → Leaf ≡ fresh_choice k n boxes b
    unfolding fresh_choice stops
    fresh_uncut e =
        rw (
          lt-leb (length (meeting n boxes b)) most_in_leaf l,
          eq-eqb (cut_count n boxes b (chosen_field n boxes b)) 0 e,
          or-true (eqb k 0),
        )

    -- where it has one, and a cut is allowed, it is cut there
    fresh_cut :
        (k ≡ 0 → ⊥) → (cut_count n boxes b (chosen_field n boxes b) ≡ 0 → ⊥) →
        Cut (chosen_field n boxes b) (chosen_value n boxes b) ≡ fresh_choice k n boxes b
    unfolding fresh_choice stops
    fresh_cut z e =
        rw (
          ne_eqb k 0 z,
          lt-leb (length (meeting n boxes b)) most_in_leaf l,
          ne_eqb (cut_count n boxes b (chosen_field n boxes b)) 0 e,
        )

    module _ {r : Values} (w : MostFound (cut_values n boxes b) n r) where
      -- where more meet and no values are found it is a leaf
      pub found_none : r.count ≡ 0 → Leaf ≡ fresh_choice k n boxes b
      found_none e = fresh_uncut (chosen_count n boxes b w ∙ e)

      -- where some are found, and a cut is allowed, it is cut in the field found at the value found
      pub found_some : (k ≡ 0 → ⊥) → (r.count ≡ 0 → ⊥) → Cut r.field r.middle ≡ fresh_choice k n boxes b
      found_some z e =
          let field = chosen_field_lem n boxes b w in
          let middle = chosen_middle n boxes b w (omega arith) in
          let cut = fresh_cut z (λ q. e (omega (arith, chosen_count n boxes b w))) in
          cc

module _
    (k n : ℕ) (boxes : List (List (List ℕ))) (standing : List ℕ) (b : List (List ℕ)) (i : ℕ) {x : Option Node}
    (told : x ≡ node_at standing i)
  where
    -- a node that does not stand is fresh
    pub choice_missing : x ≡ at_node.Missing → fresh_choice k n boxes b ≡ choice_of k n boxes standing b i
    unfolding choice_of choice_in
    choice_missing e = rw (← told, e)

    -- a leaf that stands is taken as it stands
    pub choice_leaf :
        {start count : ℕ} → x ≡ at_node.Leaf start count → Stands start count ≡ choice_of k n boxes standing b i
    unfolding choice_of choice_in
    choice_leaf e = rw (← told, e)

    module _ {f v child : ℕ} (e : x ≡ at_node.Cut f v child) where
      -- with no cuts allowed a cut that stands is a leaf
      pub choice_no_cut : k ≡ 0 → Leaf ≡ choice_of k n boxes standing b i
      unfolding choice_of choice_in
      choice_no_cut z = rw (← told, e, eq-eqb k 0 z)

      -- otherwise it is cut as it stands
      pub choice_cut : (k ≡ 0 → ⊥) → Cut f v ≡ choice_of k n boxes standing b i
      unfolding choice_of choice_in
      choice_cut z = rw (← told, e, ne_eqb k 0 z)
