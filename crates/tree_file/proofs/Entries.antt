-- The entries of a leaf line, read in turn. `EntriesLeft` is the loop's invariant: j of them are read and stored, and
-- the rest is left.
use Prim.Native.Nat.{ℕ, suc, ◌+◌, ◌-◌, ◌≤◌, ◌<◌}
use native.Mathlib.Nat.{sub-zero}
use native.Mathlib.Omega.{arith}
use mathlib.Core.Bool.{true, false}
use mathlib.Core.Path.{◌≡◌, refl, sym, ◌∙◌}
use mathlib.Core.Option.{none, some}
use mathlib.Core.List.{List, [], ◌∷◌, ◌++◌}
use lib.ListN.{length, get_or, drop, replicate, length-append}
use lib.Dec.{ltb}
use lib.Seq.{sets, get_or_at}
use borrow.Author.Tests.{lt-ltb}
use Rattle.facts.specs.Lists.{all_under}
use Rattle.facts.proofs.Bools.{both, fails}
use Rattle.facts.proofs.Setting.{sets_append}
use Rattle.facts.proofs.Steps.{drop_step, drop_end}
use Rattle.facts.proofs.Under.{all_under_iff_at}
use Rattle.text.specs.Words.{tab}
use Rattle.text.specs.Numbers.{Got, got, bad}
use Rattle.text.specs.Line.{then_read, read_behind, fields_from, wholly}
use Rattle.text.specs.Cursors.{cursor_at}
use Rattle.text.specs.declared.cursor.Cursor.{Cursor}
use Rattle.text.proofs.Numbers.{bad_got}
use Rattle.text.proofs.Lines.{fields_front}
use Rattle.text.proofs.Behind.{NumberRead}
use Rattle.tree_file.specs.NodeSteps.{on_entries, entries_of}

-- ---- numbers below a limit

-- one number more below n
under_more : (n : ℕ) (l : List ℕ) (v : ℕ) → all_under n l ≡ true → v < n → all_under n (l ++ (v ∷ [])) ≡ true
unfolding all_under
under_more n [] v e h = rw (lt-ltb v n h)
under_more n (x ∷ l) v e h =
    let t = both (ltb x n) (all_under n l) e in
    rw t.0 (under_more n l v t.1 h)

-- ---- what was read stays in front

long_step :
    (us ms vs r : List ℕ) (g : Got ℕ) → then_read g (λ v rest. fields_from (us ++ (v ∷ [])) ms rest) ≡ got vs r →
    ((v : ℕ) (rest : List ℕ) → fields_from (us ++ (v ∷ [])) ms rest ≡ got vs r → length (us ++ (v ∷ [])) ≤ length vs) →
    length us ≤ length vs
long_step us ms vs r (got v rest) h ih = omega (arith, ih v rest h, length-append us (v ∷ []))
long_step us ms vs r bad h ih = bad_got h

fields_long : (us ms s vs r : List ℕ) → fields_from us ms s ≡ got vs r → length us ≤ length vs
unfolding fields_from
fields_long us [] s vs r h = let e : us ≡ vs = cc in rw e (omega arith)
fields_long us (m ∷ ms) s vs r h =
    long_step us ms vs r (read_behind m s) h (λ v rest. fields_long (us ++ (v ∷ [])) ms rest vs r)

-- numbers of which one is not below n are no entries
over_none :
    (n j : ℕ) (us ms s : List ℕ) (g : Got (List ℕ)) → fields_from us ms s ≡ g → j < length us → n ≤ get_or us j 0 →
    on_entries n (wholly g) ≡ none
over_none n j us ms s (got vs []) e h l =
    let same = fields_front us ms s j vs [] h e in
    let long = fields_long us ms s vs [] e in
    let out : all_under n vs ≡ false =
    fails (all_under n vs) (λ t. omega (arith, (all_under_iff_at n vs).0 t j (omega arith), same)) in
    rw out
over_none n j us ms s (got vs (b ∷ bs)) e h l = refl
over_none n j us ms s bad e h l = refl

-- ---- the loop

pub record EntriesLeft (s : List ℕ) (start n count filled j at : ℕ) (old new : List ℕ) : Type 0 where
  pub ys : List ℕ
  pub left : fields_from [] (replicate count tab) (drop start s) ≡ fields_from ys (replicate (count - j) tab) (drop at s)
  pub size : length ys ≡ j
  pub under : all_under n ys ≡ true
  pub stored : new ≡ sets old filled ys
  pub within : at ≤ length s
  pub upto : j ≤ count

-- at the first entry all are left
pub left_first :
    (s : List ℕ) (start n count filled : ℕ) (old : List ℕ) → start ≤ length s →
    EntriesLeft s start n count filled 0 start old old
unfolding all_under
left_first s start n count filled old h =
    record {
      ys = [];
      left = rw sub-zero;
      size = refl;
      under = refl;
      stored = refl;
      within = h;
      upto = omega arith;
    }

module _ {s : List ℕ} {start n count filled j at : ℕ} {old new : List ℕ}
    (k : EntriesLeft s start n count filled j at old new) where
  module _ (more : j < count) where
    -- the next separator is a tab
    next_tab : replicate (count - j) tab ≡ tab ∷ replicate (count - (j + 1)) tab
    next_tab = let e : count - j ≡ suc (count - (j + 1)) = omega arith in rw e

    -- where no number stands there are not so many entries
    pub left_bad : read_behind tab (drop at s) ≡ bad → entries_of n count (drop start s) ≡ none
    unfolding entries_of fields_from
    left_bad e = rw (k.left, next_tab, e)

    module _ {lines v : ℕ} {d : Cursor} (r : NumberRead s (cursor_at at lines) tab v d) where
      -- the number is read, and fewer are left
      read_on :
          fields_from [] (replicate count tab) (drop start s) ≡
          fields_from (k.ys ++ (v ∷ [])) (replicate (count - (j + 1)) tab) (drop d.at s)
      unfolding fields_from
      read_on = k.left ∙ rw (next_tab, r.read)

      -- a number that names no rule is no entry
      pub left_over : n ≤ v → entries_of n count (drop start s) ≡ none
      unfolding entries_of
      left_over h =
          let us = k.ys ++ (v ∷ []) in
          let here : get_or us j 0 ≡ v = get_or_at k.ys v [] 0 j k.size in
          let long : length us ≡ j + 1 = length-append k.ys (v ∷ []) ∙ omega (arith, k.size) in
          over_none n j us (replicate (count - (j + 1)) tab) (drop d.at s)
          (fields_from [] (replicate count tab) (drop start s)) (sym read_on) (omega arith) (omega arith)

      -- a number that names a rule is the next entry
      pub left_step :
          {new' : List ℕ} → v < n → new' ≡ sets new (filled + j) (v ∷ []) →
          EntriesLeft s start n count filled (j + 1) d.at old new'
      left_step h e =
          record {
            ys = k.ys ++ (v ∷ []);
            left = read_on;
            size = length-append k.ys (v ∷ []) ∙ omega (arith, k.size);
            under = under_more n k.ys v k.under h;
            stored = e ∙ rw (k.stored, ← k.size) (sym (sets_append old filled k.ys (v ∷ [])));
            within = r.within;
            upto = omega arith;
          }

  module _ (last : count ≤ j) where
    -- after the last entry what is left decides
    all_read : fields_from [] (replicate count tab) (drop start s) ≡ got k.ys (drop at s)
    unfolding fields_from
    all_read = let e : count - j ≡ 0 = omega arith in k.left ∙ rw e

    -- more than the entries is wrong
    pub left_more : at < length s → entries_of n count (drop start s) ≡ none
    unfolding entries_of
    left_more h = rw (all_read, drop_step s at h)

    -- the entries alone are those of the leaf
    pub left_last : length s ≤ at → entries_of n count (drop start s) ≡ some k.ys
    unfolding entries_of
    left_last h = rw (all_read, drop_end s at h, k.under)
