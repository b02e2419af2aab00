-- A step of a compile that is not refused has a text, and it is no longer than a file may be.
use Prim.Native.Nat.{ℕ, ◌+◌, ◌*◌, ◌≤◌, ◌<◌}
use native.Mathlib.Omega.{arith}
use mathlib.Core.Bool.{Bool, true, false}
use mathlib.Core.Path.{◌≡◌, refl, sym, ◌∙◌}
use mathlib.Core.List.{List}
use lib.ListN.{length}
use lib.Dec.{leb}
use Rattle.refusals.specs.Verdict.{Verdict}
use Rattle.refusals.specs.Verdict.{Fine, Refused}
use Rattle.refusals.specs.Order.{room_verdict, ◌then◌}
use Rattle.refusals.proofs.Order.{then_fine, then_refused, then_fine_iff, room_fine_iff}
use Rattle.fields.specs.Boxes.{root_box}
use Rattle.rules.specs.Words.{rule_count}
use Rattle.rules.specs.Good.{list_verdict}
use Rattle.rules.proofs.Lists.{good_of_fine}
use Rattle.trees.specs.Words.{node_words, most_nodes, most_pool, node_count}
use Rattle.tree_check.specs.Whole.{most_cuts}
use Rattle.tree_check.specs.PartCheck.{so_far_verdict}
use Rattle.tree_check.proofs.PartStages.{part_taken}
use Rattle.built.specs.Boxes.{boxes_of}
use Rattle.built.specs.Trees.{Tree}
use Rattle.built.specs.Layout.{size, pooled, laid}
use Rattle.built.specs.GrownOn.{tree_on}
use Rattle.built.specs.Stops.{up_to}
use Rattle.built.specs.BuiltTree.{built_tree}
use Rattle.built.proofs.Stopping.{up_to_some}
use Rattle.built.proofs.FullTrees.{full_some}
use Rattle.built.proofs.Covering.{Covers, covers_full, covers_up_to, built_covers}
use Rattle.built.proofs.BuiltSpelt.{laid_spelt}
use Rattle.built.proofs.Accepting.{fit_sizes}
use Rattle.built.proofs.StopLies.{stop_lies}
use Rattle.built.proofs.PartTaken.{part_covers}
use Rattle.builder.specs.Build.{at_least_one}
use Rattle.builder.proofs.StopCalls.{at_least_one_lem}
use Rattle.tree_file.specs.TreeLines.{Spelling}
use Rattle.policy.specs.Files.{most_file}
use Rattle.policy.specs.Steps.{step_word, step_text, step_verdict}
use Rattle.policy.proofs.Buds.{buds_few}
use Rattle.policy.proofs.CompiledSize.{file_short}

-- both words have four letters
four_letters : (e : ℕ) (t : Tree) → length (step_word e t) ≡ 4
unfolding step_word
four_letters e t = go (leb (size t) e) refl
  where
    go : (b : Bool) → leb (size t) e ≡ b → length (step_word e t) ≡ 4
    go true q = rw q
    go false q = rw q

-- what a step is judged by before it grows the tree t up to node e: where it is fine the list is good, and t covers it
pub record Judged (rs : List ℕ) (v : Verdict) (e : ℕ) (t : Tree) : Type 0 where
  pub list : v ≡ Fine → list_verdict rs ≡ Fine
  pub covers : v ≡ Fine → Covers false rs most_cuts root_box t
  pub some : 0 < e

module _ (rs : List ℕ) {v : Verdict} {e : ℕ} {t : Tree} (j : Judged rs v e t) where
  -- a step that is fine has a text
  pub step_spelling :
      step_verdict v e t ≡ Fine → Spelling (rule_count rs) (laid (up_to e t 0) 0 0) (pooled (up_to e t 0))
  unfolding step_verdict
  step_spelling fine =
      let f = (then_fine_iff v _).0 fine in
      let c = j.covers f.0 in
      record {
        few = omega (arith, (good_of_fine rs (j.list f.0)).few);
        sizes =
            fit_sizes (up_to e t 0) (most_nodes * node_words) most_pool
            (up_to_some e t 0 j.some (full_some (covers_full c))) f.1;
        spelt = laid_spelt rs (up_to e t 0) (covers_up_to e c 0) (stop_lies e (covers_full c));
      }

  -- it is no longer than a file may be
  pub step_short : step_verdict v e t ≡ Fine → length (step_text (rule_count rs) e t) ≤ most_file
  unfolding step_text step_verdict
  step_short fine =
      let c = j.covers ((then_fine_iff v _).0 fine).0 in
      file_short rs (step_word e t) (four_letters e t) (covers_up_to e c 0) (stop_lies e (covers_full c))
      (buds_few e c 0)
      (step_spelling fine)

  -- so where there is room for a file, nothing is refused but what the step refuses
  pub step_room :
      (room : ℕ) → most_file ≤ room →
      (step_verdict v e t then room_verdict (length (step_text (rule_count rs) e t)) room) ≡ step_verdict v e t
  step_room room h = go (step_verdict v e t) refl
    where
      go :
          (u : Verdict) → step_verdict v e t ≡ u →
          (step_verdict v e t then room_verdict (length (step_text (rule_count rs) e t)) room) ≡ step_verdict v e t
      go Fine q =
          then_fine _ q ∙
          (room_fine_iff (length (step_text (rule_count rs) e t)) room).1 (omega (arith, step_short q)) ∙ sym q
      go (Refused why) q = then_refused _ q ∙ sym q

-- a step from nothing is judged so
pub some_judged : (rs : List ℕ) (most : ℕ) → Judged rs (list_verdict rs) (at_least_one most) (built_tree rs)
some_judged rs most = record { list = λ f. f; covers = λ f. built_covers rs; some = at_least_one_lem most }

-- so is one from a part
pub on_judged :
    (rs : List ℕ) (n : ℕ) (part kept : List ℕ) (most : ℕ) →
    Judged rs (so_far_verdict rs n part kept) (node_count part + at_least_one most) (tree_on (boxes_of rs) part kept)
on_judged rs n part kept most =
    record {
      list = λ f. (part_taken rs n part kept f).2.list;
      covers = part_covers rs n part kept;
      some = omega (arith, at_least_one_lem most);
    }
