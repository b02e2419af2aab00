-- What a look at a node says of the part that begins there.
use Rattle.refusals.specs.declared.Refusal.{Refusal}
use Rattle.trees.specs.declared.words.Node.{Node}
use Rattle.trees.specs.Standing.{Cut, Leaf, Missing}
use Rattle.std.specs.Prelude.{Option, Err, Ok, Result}
use Prim.Native.Nat.{ℕ, suc, ◌+◌, ◌-◌, ◌<◌}
use native.Mathlib.Omega.{arith}
use mathlib.Core.Bool.{Bool, true, false, cond}
use mathlib.Core.Path.{◌≡◌, refl, sym, ap, subst, ◌∙◌}
use mathlib.Core.List.{List}
use lib.Dec.{eqb}
use borrow.Author.Tests.{eqb-true, eqb-false, eq-eqb, ne_eqb}
use Rattle.facts.proofs.Bools.{held, failed}
use Rattle.refusals.specs.declared.Refusal.TheVariants.{NodeWrong}
use Rattle.fields.specs.Cuts.{divides, left_of, right_of}
use Rattle.trees.specs.Words.{node_count, field_of, value_of, child_of, entries}
use Rattle.trees.specs.Node.{node_at}
use Rattle.trees.proofs.Nodes.{IsLeaf, IsCut, missing_means, leaf_is, cut_is}
use Rattle.tree_check.specs.Preorder.{after_left, leaf_part, no_part, preorder_of}
use Rattle.tree_check.specs.Steps.{look_in, look_at}
use Rattle.tree_check.proofs.Parts.{preorder_missing, preorder_leaf, preorder_deep, preorder_undivided}
use Rattle.tree_check.proofs.Parts.{preorder_divided}

-- ---- a look, test by test

module _ (nodes : List ℕ) (k : ℕ) (b : List (List ℕ)) (i : ℕ) where
  -- where no node is there it is missing
  pub look_missing : node_at nodes i ≡ Missing → Ok Missing ≡ look_at nodes k b i
  unfolding look_at look_in
  look_missing e = rw e

  -- a leaf is a leaf
  pub look_leaf : {s c : ℕ} → node_at nodes i ≡ Leaf s c → Ok (Leaf s c) ≡ look_at nodes k b i
  unfolding look_at look_in
  look_leaf e = rw e

  module _ {f v w : ℕ} (e : node_at nodes i ≡ Cut f v w) where
    -- a cut where no more are allowed is wrong
    pub look_deep : k ≡ 0 → Err (NodeWrong i) ≡ look_at nodes k b i
    unfolding look_at look_in
    look_deep q = rw (e, eq-eqb k 0 q)

    module _ (some : k ≡ 0 → ⊥) {t : Bool} (d : t ≡ divides b f v) where
      -- one whose value does not divide the box is wrong
      pub look_out : t ≡ false → Err (NodeWrong i) ≡ look_at nodes k b i
      unfolding look_at look_in
      look_out n = let z = failed d n in rw (e, ne_eqb k 0 some, z)

      -- else it is a cut
      pub look_cut : t ≡ true → Ok (Cut f v w) ≡ look_at nodes k b i
      unfolding look_at look_in
      look_cut n = let z = held d n in rw (e, ne_eqb k 0 some, z)

-- ---- what a look says

module _ (far : Bool) (rs nodes pool : List ℕ) (k : ℕ) (b : List (List ℕ)) (i : ℕ) where
  -- a leaf that is looked at: these are its words, and the part is that leaf's
  pub record SeesLeaf (start count : ℕ) : Type 0 where
    pub is : IsLeaf nodes i start count
    pub part : preorder_of far k rs nodes pool b i ≡ leaf_part rs (entries nodes pool i) b i

  -- a cut that is looked at: these are its words, one more is allowed, its value divides the box, and the part goes on
  pub record SeesCut (field value child : ℕ) : Type 0 where
    pub is : IsCut nodes i field value child
    pub allowed : 0 < k
    pub divided : divides b field value ≡ true
    pub part :
        preorder_of far k rs nodes pool b i ≡
        after_left far (node_count nodes) i child (preorder_of far (k - 1) rs nodes pool (left_of b field value) (i + 1))
        (λ next. preorder_of far (k - 1) rs nodes pool (right_of b field value) next)

  -- what each look says
  pub Sees : Result (Option Node) Refusal → Type 0
  Sees (Err why) = preorder_of far k rs nodes pool b i ≡ Err why
  Sees (Ok Missing) = preorder_of far k rs nodes pool b i ≡ no_part far i
  Sees (Ok (Leaf start count)) = SeesLeaf start count
  Sees (Ok (Cut field value child)) = SeesCut field value child

  module _ {f v w : ℕ} (c : IsCut nodes i f v w) where
    deep : k ≡ 0 → preorder_of far k rs nodes pool b i ≡ Err (NodeWrong i)
    deep e = rw e (preorder_deep far rs nodes pool b i c.there c.below_mark)

    words : (t : Bool) → divides b f v ≡ t → divides b (field_of nodes i) (value_of nodes i) ≡ t
    words t e = rw (c.field, c.value) at e

    undivided : (k ≡ 0 → ⊥) → divides b f v ≡ false → preorder_of far k rs nodes pool b i ≡ Err (NodeWrong i)
    undivided n e =
        let q : k ≡ suc (k - 1) = omega arith in
        rw q (preorder_undivided far rs nodes pool b i c.there c.below_mark (k - 1) (words false e))

    divided_so : (k ≡ 0 → ⊥) → divides b f v ≡ true → SeesCut f v w
    divided_so n e =
        record { is = c; allowed = omega arith; divided = e; part = rw (c.field, c.value, c.child) whole }
      where
        whole :
            preorder_of far k rs nodes pool b i ≡
            after_left far (node_count nodes) i (child_of nodes i)
            (preorder_of far (k - 1) rs nodes pool (left_of b (field_of nodes i) (value_of nodes i)) (i + 1))
            (λ next. preorder_of far (k - 1) rs nodes pool (right_of b (field_of nodes i) (value_of nodes i)) next)
        whole =
            let q : k ≡ suc (k - 1) = omega arith in
            ap (λ (m : ℕ). preorder_of far m rs nodes pool b i) q ∙
            preorder_divided far rs nodes pool b i c.there c.below_mark (k - 1) (words true e)

  sees_node : (y : Option Node) → node_at nodes i ≡ y → Sees (look_in k b i y)
  unfolding Sees look_in
  sees_node Missing e = preorder_missing far rs nodes pool b i k (missing_means nodes i e)
  sees_node (Leaf start count) e =
      let l = leaf_is nodes i e in
      record { is = l; part = preorder_leaf far rs nodes pool b i l.there k l.mark }
  sees_node (Cut f v w) e = go (eqb k 0) refl (divides b f v) refl
    where
      go :
          (x : Bool) → eqb k 0 ≡ x → (y : Bool) → divides b f v ≡ y →
          Sees (cond x (Err (NodeWrong i)) (cond y (Ok (Cut f v w)) (Err (NodeWrong i))))
      go true p y q = deep (cut_is nodes i e) (eqb-true k 0 p)
      go false p true q = divided_so (cut_is nodes i e) (eqb-false k 0 p) q
      go false p false q = undivided (cut_is nodes i e) (eqb-false k 0 p) q

  -- a look says what it sees
  pub sees : (x : Result (Option Node) Refusal) → x ≡ look_at nodes k b i → Sees x
  unfolding look_at
  sees x e = subst Sees (sym e) (sees_node (node_at nodes i) refl)

  -- ---- by each look

  module _ (x : Result (Option Node) Refusal) (e : x ≡ look_at nodes k b i) where
    -- where no node is there the part is not begun, or is refused
    pub sees_missing : x ≡ Ok Missing → no_part far i ≡ preorder_of far k rs nodes pool b i
    unfolding Sees
    sees_missing q = sym (subst Sees q (sees x e))

    -- a node that is refused is the refusal
    pub sees_wrong : {why : Refusal} → x ≡ Err why → Err why ≡ preorder_of far k rs nodes pool b i
    unfolding Sees
    sees_wrong q = sym (subst Sees q (sees x e))

    -- a leaf is seen
    pub sees_leaf : {start count : ℕ} → x ≡ Ok (Leaf start count) → SeesLeaf start count
    unfolding Sees
    sees_leaf q = subst Sees q (sees x e)

    -- a cut is seen
    pub sees_cut : {field value child : ℕ} → x ≡ Ok (Cut field value child) → SeesCut field value child
    unfolding Sees
    sees_cut q = subst Sees q (sees x e)
