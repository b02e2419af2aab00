-- `builder::choice::choice_of` meets its contract: a node is as it stands, or else fresh. Assumes nothing.
use Rattle.std.specs.Prelude.{Some}
use mathlib.Core.Path.{◌∙◌, ap}
use Rattle.builder.proofs.Choices.{choice_missing, choice_leaf, choice_no_cut, choice_cut}
use Rattle.builder.proofs.choice.choice_of.Goals as goal

pub returns-then-cuts-eq0 : goal.returns-then-cuts-eq0
returns-then-cuts-eq0 c = choice_no_cut _ _ _ _ _ _ c.node_at.ensures (c.in-Some-Cut.is ∙ ap Some c.in-Some-Cut.field-0-is) c.if-cuts-eq0.true

pub returns-in-None : goal.returns-in-None
returns-in-None c = c.fresh_choice.ensures ∙ choice_missing _ _ _ _ _ _ c.node_at.ensures c.in-None.is

pub returns-in-Some-Leaf : goal.returns-in-Some-Leaf
returns-in-Some-Leaf c = rw (c.in-Some-Leaf.start-is, c.in-Some-Leaf.count-is)
    (choice_leaf _ _ _ _ _ _ c.node_at.ensures (c.in-Some-Leaf.is ∙ ap Some c.in-Some-Leaf.field-0-is))

pub returns-else-cuts-eq0 : goal.returns-else-cuts-eq0
returns-else-cuts-eq0 c = rw (c.in-Some-Cut.field-is, c.in-Some-Cut.value-is)
    (choice_cut _ _ _ _ _ _ c.node_at.ensures (c.in-Some-Cut.is ∙ ap Some c.in-Some-Cut.field-0-is) c.if-cuts-eq0.false)
