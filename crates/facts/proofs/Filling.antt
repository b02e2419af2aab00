-- A loop that stores what is kept of a list, from the front of lent words on, as far as there is room, and counts it:
-- its invariant, for any test and any list.
--   all      the list; rest what the loop has not looked at yet
--   before   the lent words as found; after as they are now; n numbers were kept so far
use Prim.Native.Nat.{ℕ, suc, ◌+◌, ◌≤◌}
use native.Mathlib.Nat.{zero-add}
use native.Mathlib.Omega.{arith}
use mathlib.Core.Bool.{Bool, true, false, cond}
use mathlib.Core.Path.{◌≡◌, refl, sym, ap, ◌∙◌}
use mathlib.Core.List.{List, [], ◌∷◌, ◌++◌, append-nil, append_assoc}
use lib.ListN.{length, set, length-append}
use lib.Seq.{sets, length-sets}
use Rattle.facts.specs.Lists.{keep, Kept}
use Rattle.facts.proofs.Steps.{keep_none, keep_in, keep_out}
use Rattle.facts.proofs.Setting.{sets_append}

pub record Filled (p : ℕ → Bool) (all rest before after : List ℕ) (n : ℕ) : Type 0 where
  pub done : List ℕ
  pub whole : done ++ keep p rest ≡ keep p all
  pub count : n ≡ length done
  pub words : after ≡ sets before 0 done

-- where the loop begins nothing is stored, and all is left
pub filled_first : (p : ℕ → Bool) (all before : List ℕ) → Filled p all all before before 0
filled_first p all before = record { done = []; whole = refl; count = refl; words = refl }

module _ {p : ℕ → Bool} {all rest before after : List ℕ} {n : ℕ} (w : Filled p all rest before after n) where
  -- the lent words stay as many
  pub filled_size : length after ≡ length before
  filled_size = ap length w.words ∙ length-sets before 0 w.done

  module _ {next : List ℕ} {x : ℕ} (step : rest ≡ x ∷ next) where
    -- a number that passes is stored behind the others
    pub filled_in : {new : List ℕ} → p x ≡ true → new ≡ set after n x → Filled p all next before new (n + 1)
    filled_in t q =
        record {
          done = w.done ++ (x ∷ []);
          whole = append_assoc w.done (x ∷ []) (keep p next) ∙ rw (keep_in p x step t) at w.whole;
          count = omega (arith, w.count, length-append w.done (x ∷ []));
          words = q ∙ rw (w.words, w.count) (sym (sets_append before 0 w.done (x ∷ []) ∙ rw zero-add));
        }

    -- a number that fails leaves the words as they are
    pub filled_out : p x ≡ false → Filled p all next before after n
    filled_out t =
        record {
          done = w.done;
          whole = rw (keep_out p x step t) at w.whole;
          count = w.count;
          words = w.words;
        }

  -- at the end all that is kept is stored and counted
  pub filled_last : rest ≡ [] → Kept p all before n after
  filled_last none =
      let e : w.done ≡ keep p all = sym (append-nil w.done) ∙ rw (keep_none p none) at w.whole in
      record { counts = w.count ∙ ap length e; stores = w.words ∙ ap (sets before 0) e }

-- ---- how many there can be

-- no more are kept than there are
pub keep_at_most : (p : ℕ → Bool) (l : List ℕ) → length (keep p l) ≤ length l
unfolding keep
keep_at_most p [] = omega arith
keep_at_most p (x ∷ xs) = go (p x) (keep_at_most p xs)
  where
    go : (t : Bool) → length (keep p xs) ≤ length xs → length (cond t (x ∷ keep p xs) (keep p xs)) ≤ suc (length xs)
    go true h = omega arith
    go false h = omega arith
