-- Numbers stored from a place on, one list behind another: the steps by which the ends of boxes are stored.
use Prim.Native.Nat.{ℕ, ◌+◌, ◌-◌, ◌≤◌}
use native.Mathlib.Omega.{arith}
use mathlib.Core.Bool.{Bool, true, false}
use mathlib.Core.Path.{◌≡◌, refl, sym, ◌∙◌}
use mathlib.Core.List.{List, [], ◌∷◌, ◌++◌, append-nil, append_assoc}
use lib.ListN.{length, set, length-append}
use borrow.Author.Tests.{eq-eqb, ne_eqb}
use Rattle.facts.specs.Lists.{keep}
use Rattle.facts.proofs.Setting.{sets_append}
use Rattle.facts.proofs.Filling.{keep_at_most}
use Rattle.facts.proofs.Keeping.{keep_append}
use Rattle.builder.specs.ChoiceSteps.{ends_of, Stored}

module _ (p : ℕ → Bool) (l : List ℕ) (n v : ℕ) where
  -- a number that fails is not stored
  pub stored_out : p v ≡ false → Stored l n (keep p (v ∷ [])) n l
  unfolding keep
  stored_out e = rw e (record { counts = omega arith; stores = refl })

  -- a number that passes is stored, and the next place is behind it
  pub stored_in : {after : List ℕ} → p v ≡ true → after ≡ set l n v → Stored l n (keep p (v ∷ [])) (n + 1) after
  unfolding keep
  stored_in e q = rw e (record { counts = omega arith; stores = q })

-- storing one list behind another is storing the two as one
pub stored_behind :
    {a b d xs ys : List ℕ} {n m k : ℕ} → Stored a n xs m b → Stored b m ys k d → Stored a n (xs ++ ys) k d
stored_behind {a} {b} {d} {xs} {ys} {n} s t =
    record {
      counts = omega (arith, s.counts, t.counts, length-append xs ys);
      stores = t.stores ∙ rw (s.stores, s.counts) (sym (sets_append a n xs ys));
    }

-- what is kept of a list takes no more places than the list has numbers
pub stored_at_most :
    (p : ℕ → Bool) (l : List ℕ) {a b : List ℕ} {n m : ℕ} → Stored a n (keep p l) m b → m ≤ n + length l
stored_at_most p l s = omega (arith, s.counts, keep_at_most p l)

module _ (p : ℕ → Bool) (low high : ℕ) {a b : List ℕ} {n m : ℕ} (s : Stored a n (keep p (high ∷ [])) m b) where
  -- of a range from 0 on only the high is an end
  pub stored_one_end : low ≡ 0 → Stored a n (keep p (ends_of low high)) m b
  unfolding ends_of
  stored_one_end e = rw (eq-eqb low 0 e) s

  -- of any other range the high and the low less one are the ends
  pub stored_both_ends :
      {d : List ℕ} {k : ℕ} → (low ≡ 0 → ⊥) → Stored b m (keep p ((low - 1) ∷ [])) k d →
      Stored a n (keep p (ends_of low high)) k d
  unfolding ends_of
  stored_both_ends e t =
      rw (ne_eqb low 0 e, keep_append p (high ∷ []) ((low - 1) ∷ [])) (stored_behind s t)

-- ---- a loop that stores one list behind another

-- the loop's invariant: of a list all the front is stored from place 0 on, and rest is left
pub record Storing (all rest before : List ℕ) (n : ℕ) (after : List ℕ) : Type 0 where
  pub done : List ℕ
  pub whole : done ++ rest ≡ all
  pub stored : Stored before 0 done n after

module _ {all rest before after : List ℕ} {n : ℕ} (w : Storing all rest before n after) where
  -- a list that stands in front of what is left is stored behind the others
  pub storing_step :
      {new next last : List ℕ} {m : ℕ} → rest ≡ new ++ next → Stored after n new m last → Storing all next before m last
  storing_step {new} {next} e s =
      record {
        done = w.done ++ new;
        whole = append_assoc w.done new next ∙ rw e at w.whole;
        stored = stored_behind w.stored s;
      }

  -- at the end all is stored
  pub storing_last : rest ≡ [] → Stored before 0 all n after
  storing_last none =
      let e : w.done ≡ all = sym (append-nil w.done) ∙ rw none at w.whole in rw e at w.stored
