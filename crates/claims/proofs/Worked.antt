-- The worked policy's rows hold, by computation.
use Prim.Native.Nat.{ℕ}
use mathlib.Core.Path.{◌≡◌, refl}
use mathlib.Core.List.{List}
use Rattle.facts.specs.Below.{all_below, lowest}
use Rattle.facts.specs.Lists.{up_from, keep, has, rises, all_under, written}
use Rattle.refusals.specs.Order.{refuse_unless, room_verdict, ◌then◌, in_turn, ◌giving◌, leaving}
use Rattle.refusals.specs.Verdict.{Verdict}
use Rattle.refusals.specs.Paper.{Paper}
use Rattle.refusals.specs.Promises.{Says, Writes}
use Rattle.fields.specs.Boxes.{meets}
use Rattle.fields.specs.Cuts.{divides, left_of, right_of}
use Rattle.fields.specs.Headers.{field_verdict, header_verdict}
use Rattle.fields.specs.Prefixes.{span, prefix_good, prefix_agrees, prefix_ends}
use Rattle.fields.specs.Ranges.{range_good, range_holds, ranges_meet}
use Rattle.fields.specs.Ports.{whole_ports, ports_match, ports_end}
use Rattle.rules.specs.Twins.{same_words, earlier_twin, twin_verdict, twins_verdict}
use Rattle.rules.specs.Good.{fields_good, good_to, rule_verdict, rules_verdict, list_verdict_to}
use Rattle.rules.specs.Lacking.{lacking, lowest_lacking}
use Rattle.rules.specs.Matching.{agrees, first_miss, matches, matching, rule_box}
use Rattle.rules.specs.LineAll.{all_verdict}
use Rattle.rules.specs.RuleMisses.{there_verdict, miss_verdict}
use Rattle.trees.specs.Words.{entries, size_verdict}
use Rattle.trees.specs.Walk.{side_of, step_of, walk, walk_of}
use Rattle.trees.specs.Search.{leaf_verdict, reach_verdict, leaf_list, tree_list, looked_at}
use Rattle.trees.specs.TreeAll.{tree_all_verdict}
use Rattle.trees.specs.Spelt.{leaf_count, counts_below, leaf_spelt, node_verdict, spelt_verdict}
use Rattle.tree_check.specs.Preorder.{lack_of, leaf_part, cut_part, node_part, preorder_of}
use Rattle.tree_check.specs.TreeCheck.{root_part, words_verdict, check_verdict}
use Rattle.claims.specs.Worked.{AllHold, table}

infixr 5 ◌and◌
◌and◌ : {A B : Type 0} → A → B → A × B
a and b = (a, b)

module _ {R : Type 0} {paper : R → Paper} {v : Verdict} {values : List ℕ} {r : R} where
  says : paper r ≡ (v giving values) → Says paper v values r
  says e = record { answers = e }

  wrote :
      {new found after : List ℕ} → paper r ≡ (v giving values) → after ≡ leaving v (written new found) found →
      Writes paper v values new found r after
  wrote e left = record { answers = e; leaves = left }

pub worked : AllHold table
unfolding all_below lowest up_from keep has rises all_under refuse_unless room_verdict ◌then◌ in_turn ◌giving◌ meets
    divides left_of right_of field_verdict header_verdict span prefix_good prefix_agrees prefix_ends range_good
    range_holds ranges_meet whole_ports ports_match ports_end same_words earlier_twin twin_verdict twins_verdict fields_good
    good_to rule_verdict rules_verdict list_verdict_to lacking lowest_lacking agrees first_miss matches matching rule_box
    entries leaving written all_verdict there_verdict miss_verdict size_verdict side_of step_of walk walk_of leaf_verdict
    reach_verdict leaf_list tree_list looked_at tree_all_verdict leaf_count counts_below leaf_spelt node_verdict spelt_verdict
    lack_of leaf_part cut_part node_part preorder_of root_part words_verdict check_verdict
worked =
    (wrote refl refl, says refl, wrote refl refl, says refl) and
    (wrote refl refl, says refl, wrote refl refl, says refl) and
    (wrote refl refl, says refl, wrote refl refl, says refl) and
    (wrote refl refl, says refl, wrote refl refl, says refl) and
    (wrote refl refl, says refl, wrote refl refl, says refl) and
    (wrote refl refl, says refl, wrote refl refl, says refl) and
    (wrote refl refl, says refl, wrote refl refl, says refl) and
    (wrote refl refl, says refl, wrote refl refl, says refl) and
    says refl and says refl and says refl and says refl and says refl and says refl and says refl and says refl and tt
