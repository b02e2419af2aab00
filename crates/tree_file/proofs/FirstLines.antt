-- The first line, from what the cursor answers.
use Prim.Native.Nat.{ℕ, ◌^◌, ◌<◌}
use native.Mathlib.Omega.{arith}
use mathlib.Core.Bool.{true, false}
use mathlib.Core.Path.{◌≡◌, refl, sym, ◌∙◌}
use mathlib.Core.List.{List}
use lib.ListN.{length, get_or}
use Rattle.refusals.specs.declared.Refusal.{Refusal}
use Rattle.text.specs.declared.cursor.Cursor.{Cursor}
use Rattle.text.specs.Words.{three_tabs}
use Rattle.text.specs.Cursors.{wrong_at, cursor_at}
use Rattle.text.specs.Text.{refused}
use Rattle.text.proofs.LineViews.{number_at}
use Rattle.text.proofs.NextLines.{Taken, LineRefused}
use Rattle.text.proofs.Onward.{top_stands, next_stands, on_next, on_wrong, not_taken}
use Rattle.tree_file.specs.TreeText.{start, counts_fit, step, finish, file_in}
use Rattle.tree_file.specs.ReadSteps.{tree_from, TreeAnnounced}

abbrev top : Cursor
top = cursor_at 0 0

-- what a text says is what it says from its front on
from_start : (word s : List ℕ) → file_in word s ≡ tree_from (start word) s top
unfolding file_in
from_start word s = refl

module _ {word s : List ℕ} (small : length s < 2 ^ 63) where
  -- where the first line was not taken the text is refused
  pub first_not : {why : Refusal} → LineRefused s top word three_tabs why → file_in word s ≡ refused why
  unfolding step finish
  first_not r = from_start word s ∙ not_taken small (top_stands s) step finish (start word) r refl (λ l e. rw e)

  module _ {d : Cursor} {values : List ℕ} (t : Taken s top word three_tabs d values) where
    number : (j : ℕ) → j < 3 → get_or values j 0 ≡ get_or t.vs j 0
    number j h = number_at word three_tabs t.this t.read t.holds (omega arith) j h

    module _ {n m p : ℕ} (en : n ≡ get_or values 0 0) (em : m ≡ get_or values 1 0) (ep : p ≡ get_or values 2 0) where
      numbers : (get_or t.vs 0 0 ≡ n) × (get_or t.vs 1 0 ≡ m) × (get_or t.vs 2 0 ≡ p)
      numbers =
          (sym (en ∙ number 0 (omega arith)), sym (em ∙ number 1 (omega arith)), sym (ep ∙ number 2 (omega arith)))

      -- counts past the limits are refused
      pub first_wrong : {why : Refusal} → counts_fit n m p ≡ false → why ≡ wrong_at 0 → file_in word s ≡ refused why
      unfolding step
      first_wrong f q =
          from_start word s ∙
          on_wrong small (top_stands s) step finish (start word) t.next
          (rw (t.read, numbers.0, numbers.1, numbers.2, f)) q

      -- counts within the limits are announced
      pub first_taken : counts_fit n m p ≡ true → TreeAnnounced word s (record { rules = n; nodes = m; pool = p }) d
      unfolding step
      first_taken f =
          record {
            moved =
                from_start word s ∙
                on_next small (top_stands s) step finish (start word) d _ t.next t.count
                (rw (t.read, numbers.0, numbers.1, numbers.2, f));
            stands = next_stands small (top_stands s) t.next t.within t.count;
            limits = record { fit = f };
          }
