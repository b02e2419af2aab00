-- The numbers are these, by computation.
use native.Mathlib.Omega.{arith}
use mathlib.Core.Path.{refl}
use Rattle.facts.specs.Below.{all_below, lowest}
use Rattle.facts.specs.Lists.{up_from, keep, any_of}
use Rattle.fields.specs.Boxes.{meets}
use Rattle.fields.specs.Cuts.{left_of, right_of}
use Rattle.fields.specs.Prefixes.{span, prefix_ends}
use Rattle.fields.specs.Ranges.{ranges_meet}
use Rattle.fields.specs.Ports.{whole_ports, ports_end}
use Rattle.rules.specs.Matching.{rule_box}
use Rattle.built.specs.Boxes.{meeting, boxes_of}
use Rattle.built.specs.CutValues.{ends_at, cuts_at, cut_values, has_most, chosen_field, chosen_value, stops}
use Rattle.built.specs.Trees.{grown}
use Rattle.built.specs.BuiltTree.{built_tree}
use Rattle.built.proofs.PartedBoxes.{many_nodes}
use Rattle.claims.specs.Numbers.{ports, Numbers}

pub numbers_claim : Numbers
unfolding all_below lowest up_from keep any_of meets span prefix_ends ranges_meet whole_ports ports_end rule_box meeting boxes_of
    left_of right_of ends_at cuts_at cut_values has_most chosen_field chosen_value stops grown built_tree
numbers_claim =
    record {
      limits = refl;
      words = refl;
      tops = refl;
      refusals = refl;
      answers = (refl, refl, refl, refl, refl, refl, refl, refl, refl, refl, refl, refl, refl, refl, refl, refl, refl);
      leaf_of_eight = refl;
      cut_of_nine = many_nodes (ports 9) 3 0 (omega arith) (omega arith) (omega arith) (omega arith) refl;
      middle = refl;
    }
