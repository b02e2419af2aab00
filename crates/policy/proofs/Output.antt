-- What the program writes: whatever the tree file holds, the replies are those of the written list.
use Prim.Native.Nat.{ℕ, ◌*◌, ◌≤◌}
use native.Mathlib.Omega.{arith}
use mathlib.Core.Path.{◌≡◌, refl, ap, ◌∙◌}
use mathlib.Core.Logic.{◌↔◌}
use mathlib.Core.List.{List, ◌++◌}
use mathlib.Core.Option.{Option, none, some}
use lib.ListN.{length}
use lib.Seq.{take-length}
use borrow.Author.Tests.{le-leb}
use Rattle.refusals.specs.declared.Refusal.{Refusal}
use Rattle.refusals.specs.Verdict.{Fine, Refused}
use Rattle.refusals.specs.Order.{◌then◌}
use Rattle.refusals.proofs.Order.{refused_not_fine, holds_fine, then_fine, then_fine_iff, room_fine_iff}
use Rattle.rules.specs.Words.{rule_words, most_rules}
use Rattle.rules.proofs.Lists.{good_of_fine}
use Rattle.trees.specs.Words.{node_words, most_nodes, most_pool}
use Rattle.trees.proofs.Sizes.{sizes_fine_iff}
use Rattle.tree_check.specs.TreeCheck.{check_verdict}
use Rattle.tree_check.proofs.Accepts.{accepts_iff_serves}
use Rattle.text.specs.Words.{tree_word, part_word}
use Rattle.text.specs.Text.{Reading, good, refused}
use Rattle.rule_file.specs.RuleText.{rules_in}
use Rattle.rule_file.specs.Reading as rule_file
use Rattle.rule_file.proofs.RoundTrips.{good_of_read}
use Rattle.tree_file.specs.TreeText.{Tree, tree, file_in}
use Rattle.tree_file.specs.Reading.{room_for, read_verdict, nodes_in, pool_in}
use Rattle.tree_file.proofs.RoundTrips.{spelling_of_read}
use Rattle.console.specs.Gathered.{input_replies}
use Rattle.console.proofs.Agreeing.{input_alike}
use Rattle.policy.specs.Files.{list_in, tree_of, part_of}
use Rattle.policy.specs.Output.{own_verdict, serving_verdict, by_list, by_serving, verdict_line, on_list, output}
use Rattle.policy.specs.Output.{TreeServes}
use Rattle.policy.proofs.Servers.{serving_as_list}

-- ---- the replies

-- by whoever serves, every header gets the answer that the list gives
by_serving_as_list : (rs : List ℕ) (t : Reading Tree) (h : List ℕ) → by_serving rs t h ≡ by_list rs h
unfolding by_serving serving_verdict
by_serving_as_list rs t h =
    serving_as_list rs (nodes_in t) (pool_in t) (nodes_in t) (pool_in t) (serving_verdict rs t)
    (λ e. ((then_fine_iff _ _).0 e).1) (take-length (nodes_in t)) (take-length (pool_in t)) h

module _ (f g : Option (List ℕ)) (s : List ℕ) where
  with_list : Reading (List ℕ) → List ℕ
  with_list a = on_list a (λ rs. verdict_line (serving_verdict rs (tree_of g)) ++ input_replies (by_serving rs (tree_of g)) s)

  -- whatever the tree file holds, the input gets the replies of the written list
  pub output_by_list :
      {rs : List ℕ} → list_in f ≡ good rs →
      output f g s ≡ verdict_line (serving_verdict rs (tree_of g)) ++ input_replies (by_list rs) s
  unfolding output with_list
  output_by_list {rs} e =
      ap with_list e ∙
      ap (λ (l : List ℕ). verdict_line (serving_verdict rs (tree_of g)) ++ l)
      (input_alike (by_serving rs (tree_of g)) (by_list rs) (by_serving_as_list rs (tree_of g)) s)

  -- a rule file that is refused has its line written, and nothing else
  pub output_refused : {why : Refusal} → list_in f ≡ refused why → output f g s ≡ verdict_line (Refused why)
  unfolding output with_list
  output_refused e = ap with_list e

-- ---- the tree that is not refused

-- no line is written for the tree exactly where its file holds a tree that may serve
pub accepted_iff : (rs : List ℕ) (f : Option (List ℕ)) → (serving_verdict rs (tree_of f) ≡ Fine) ↔ TreeServes rs f
unfolding serving_verdict
accepted_iff rs f = (λ e. to (tree_of f) refl e, of)
  where
    to :
        (t : Reading Tree) → tree_of f ≡ t → (own_verdict t then check_verdict rs (nodes_in t) (pool_in t)) ≡ Fine →
        TreeServes rs f
    to (refused why) q e = refused_not_fine ((then_fine_iff (Refused why) _).0 e).0
    to (good (tree n ns es)) q e =
        let ok = ((then_fine_iff Fine (check_verdict rs ns es)).0 e).1 in
        record { count = n; nodes = ns; pool = es; holds = q; serves = (accepts_iff_serves rs ns es).0 ok }

    of : TreeServes rs f → serving_verdict rs (tree_of f) ≡ Fine
    of s =
        ap (serving_verdict rs) s.holds ∙
        then_fine {v = Fine} _ refl ∙ (accepts_iff_serves rs s.nodes s.pool).1 s.serves

-- ---- the program's rooms

-- words for the most rules are room for any list, so that the file alone decides
pub list_room :
    (f : Option (List ℕ)) {a : ℕ} → most_rules * rule_words ≤ a →
    rule_file.read_verdict (list_in f) a ≡ own_verdict (list_in f)
unfolding list_in
list_room none h = refl
list_room (some s) {a} h = go (rules_in s) refl
  where
    go : (t : Reading (List ℕ)) → rules_in s ≡ t → rule_file.read_verdict t a ≡ own_verdict t
    go (refused why) e = refl
    go (good ws) e =
        let few = (good_of_fine ws (good_of_read s ws e)).few in (room_fine_iff (length ws) a).1 (omega arith)

-- words for the most nodes and for the longest pool are room for any tree that a text says, whatever its first word
pub text_room :
    (word s : List ℕ) {a b : ℕ} → most_nodes * node_words ≤ a → most_pool ≤ b →
    read_verdict (file_in word s) a b ≡ own_verdict (file_in word s)
unfolding room_for
text_room word s {a} {b} h k = go (file_in word s) refl
  where
    go : (t : Reading Tree) → file_in word s ≡ t → read_verdict t a b ≡ own_verdict t
    go (refused why) e = refl
    go (good (tree n ns es)) e =
        let fits = (sizes_fine_iff ns es).0 (spelling_of_read _ s n ns es e).sizes in
        then_fine _ ((room_fine_iff (length ns) a).1 (omega (arith, fits.few_nodes))) ∙
        holds_fine _ (le-leb (length es) b (omega (arith, fits.short_pool)))

-- so they are for any tree, and for any part
pub tree_room :
    (f : Option (List ℕ)) {a b : ℕ} → most_nodes * node_words ≤ a → most_pool ≤ b →
    read_verdict (tree_of f) a b ≡ own_verdict (tree_of f)
unfolding tree_of
tree_room none h k = refl
tree_room (some s) h k = text_room tree_word s h k

pub part_room :
    (f : Option (List ℕ)) {a b : ℕ} → most_nodes * node_words ≤ a → most_pool ≤ b →
    read_verdict (part_of f) a b ≡ own_verdict (part_of f)
unfolding part_of
part_room none h k = refl
part_room (some s) h k = text_room part_word s h k
