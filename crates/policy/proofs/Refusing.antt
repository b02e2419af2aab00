-- Where there is room for any list and any tree, what is refused is what the files hold.
use Rattle.std.specs.Prelude.{Err, Result, Ok}
use Rattle.policy.specs.declared.tree.Words.{Words}
use Prim.Native.Nat.{ℕ, ◌*◌, ◌≤◌}
use mathlib.Core.Path.{◌≡◌, refl, sym, ap, ◌∙◌}
use mathlib.Core.List.{List, [], ◌∷◌}
use mathlib.Core.Option.{Option}
use lib.ListN.{length, take}
use Rattle.facts.specs.Lists.{written}
use Rattle.refusals.specs.declared.Refusal.{Refusal}
use Rattle.refusals.specs.Verdict.{Verdict}
use Rattle.refusals.specs.Verdict as verdict
use Rattle.refusals.proofs.Order.{refused_not_fine, then_fine, then_refused}
use Rattle.refusals.proofs.Promises.{refused_by, fine_by, said_by, left_written}
use Rattle.rules.specs.Words.{rule_words, most_rules}
use Rattle.trees.specs.Words.{node_words, most_nodes, most_pool}
use Rattle.tree_check.specs.TreeCheck.{check_verdict}
use Rattle.text.specs.Text.{Reading, good, refused}
use Rattle.tree_file.specs.TreeText.{Tree, tree}
use Rattle.tree_file.specs.Reading.{read_verdict, nodes_in, pool_in}
use Rattle.policy.specs.Files.{list_in, tree_of}
use Rattle.policy.specs.TakeList as take_list
use Rattle.policy.specs.TakeList.{ListTaken}
use Rattle.policy.specs.TakeTree.{TreeTaken}
use Rattle.policy.specs.WhoServes.{serving, serving_of}
use Rattle.policy.specs.Output.{own_verdict, serving_verdict}
use Rattle.policy.proofs.Stored.{stands}
use Rattle.policy.proofs.Output.{list_room, tree_room}

own_refused :
    {R : Type 0} (a : Reading R) {why : Refusal} → own_verdict a ≡ verdict.Refused why → a ≡ refused why
own_refused (good r) e = refused_not_fine (sym e)
own_refused (refused w) {why} e = let z : w ≡ why = cc in ap refused z

-- a list that is not taken is refused as its file is
pub list_untaken :
    (f : Option (List ℕ)) {before after : List ℕ} {l : Result ℕ Refusal} {why : Refusal} → most_rules * rule_words ≤ length before →
    ListTaken f before l after → l ≡ Err why → list_in f ≡ refused why
list_untaken f h t e =
    own_refused (list_in f) (sym (list_room f h) ∙ refused_by (said_by t) (ap take_list.paper e))

serving_refuses : (v : Verdict) (ns es : List ℕ) → (serving v ns es).refused ≡ v
unfolding serving
serving_refuses verdict.Fine ns es = refl
serving_refuses (verdict.Refused why) ns es = refl

-- who serves is told what is refused of the tree that the file holds
pub serving_refused_as :
    (rs : List ℕ) (f : Option (List ℕ)) {nodes pool nodes' pool' : List ℕ} (t : Result Words Refusal) →
    most_nodes * node_words ≤ length nodes → most_pool ≤ length pool → TreeTaken f nodes pool t nodes' pool' →
    (serving_of t rs nodes' pool').refused ≡ serving_verdict rs (tree_of f)
unfolding serving_of serving_verdict
serving_refused_as rs f (Err why) a b h =
    let own = sym (tree_room f a b) ∙ refused_by (said_by h.0) {why = why} refl in
    serving_refuses (verdict.Refused why) [] [] ∙ sym (then_refused _ own)
serving_refused_as rs f {nodes} {pool} {nodes'} {pool'} (Ok taken) a b h = go (tree_of f) refl
  where
    says :
        (read_verdict (tree_of f) (length nodes) (length pool) ≡ verdict.Fine) ×
        (taken.nodes ∷ taken.pool ∷ [] ≡ length (nodes_in (tree_of f)) ∷ length (pool_in (tree_of f)) ∷ [])
    says = fine_by (said_by h.0) refl

    go :
        (t : Reading Tree) → tree_of f ≡ t →
        (serving (check_verdict rs (take taken.nodes nodes') (take taken.pool pool')) (take taken.nodes nodes')
        (take taken.pool pool')).refused ≡
        serving_verdict rs t
    go (refused why) q = refused_not_fine (rw q at says.0)
    go (good (tree m ns es)) q =
        let values : taken.nodes ∷ taken.pool ∷ [] ≡ length ns ∷ length es ∷ [] = rw q at says.1 in
        let left : nodes' ≡ written ns nodes = rw q at (left_written h.0 says.0) in
        let kept : pool' ≡ written es pool = rw q at (left_written h.1 says.0) in
        let there = stands ns nodes taken.nodes left (cc) in
        let held = stands es pool taken.pool kept (cc) in
        serving_refuses _ _ _ ∙ rw (there.0, held.0) (sym (then_fine {v = verdict.Fine} _ refl))
