-- The marked rows of the scope's worked policy, as one table under one statement: each row's answer is the one that its
-- call's promise allows. Destination is 192.168.0.1 and source port 40,000 throughout. Statements only.
--   search h ms n c f a    header h: list ms and first f, by list and tree; n nodes, c compared, and a for the first
--   check rs ns es r       the tree check of nodes ns and pool es for the list rs answers r
--   misses h k r           the call that says why a rule missed answers r of rule k and header h
use Rattle.tree_check.specs.declared.check.Figures.{Figures}
use Rattle.tree_check.specs.Said.{Accepted}
use Rattle.trees.specs.Answers as by_tree
use Rattle.rules.specs.Hits as by_list
use Rattle.refusals.specs.declared.Refusal.{Refusal}
use Rattle.std.specs.Prelude.{ℕ, ◌+◌, ◌*◌, List, [], ◌∷◌, length, Err, Ok, Result}
use Rattle.facts.specs.Lists.{written}
use Rattle.refusals.specs.declared.Refusal.TheVariants.{RuleNotGood, NodeWrong, LeafLacksRule}
use Rattle.fields.specs.Words.{absent_port}
use Rattle.rules.specs.LineAll.{LineAllSearched}
use Rattle.rules.specs.LineFirst.{LineFirstSearched}
use Rattle.rules.specs.RuleMisses.{RuleCompared}
use Rattle.trees.specs.TreeAll.{TreeAllSearched}
use Rattle.trees.specs.TreeFirst.{TreeFirstSearched}
use Rattle.tree_check.specs.TreeCheck.{TreeChecked}

abbrev pub from : ℕ → ℕ → ℕ → ℕ → ℕ → ℕ → List ℕ
from a b c d port protocol = (((a * 256 + b) * 256 + c) * 256 + d) ∷ 3232235521 ∷ 40000 ∷ port ∷ protocol ∷ []

-- from 10.0.0.0/8 to port 80, from 10.1.0.0/16 to ports 0 to 1,023, each with protocol 6; everything; with action 0
abbrev pub rules : List ℕ
rules =
    167772160 ∷ 8 ∷ 0 ∷ 0 ∷ 0 ∷ 65535 ∷ 80 ∷ 80 ∷ 6 ∷ 6 ∷ 0 ∷ 167837696 ∷ 16 ∷ 0 ∷ 0 ∷ 0 ∷ 65535 ∷ 0 ∷ 1023 ∷ 6 ∷ 6 ∷
    0 ∷ 0 ∷ 0 ∷ 0 ∷ 0 ∷ 0 ∷ 65535 ∷ 0 ∷ 65535 ∷ 0 ∷ 255 ∷ 0 ∷ []

-- two cuts of the source address, the second with the value v, and three leaves, the second with the count k
abbrev pub nodes : ℕ → ℕ → List ℕ
nodes v k = 0 ∷ 167772159 ∷ 2 ∷ 5 ∷ 0 ∷ 1 ∷ 0 ∷ v ∷ 4 ∷ 5 ∷ 1 ∷ k ∷ 5 ∷ (1 + k) ∷ 1 ∷ []

abbrev pub tree : List ℕ
tree = nodes 184549375 3

abbrev pub pool : List ℕ
pool = 2 ∷ 0 ∷ 1 ∷ 2 ∷ 2 ∷ []

abbrev pub room : List ℕ
room = 0 ∷ 0 ∷ 0 ∷ []

pub data Row : Type 0 where
  search : List ℕ → List ℕ → ℕ → ℕ → ℕ → ℕ → Row
  check : List ℕ → List ℕ → List ℕ → Result Figures Refusal → Row
  misses : List ℕ → ℕ → Result ℕ Refusal → Row

abbrev pub AllHold : List Row → Type 0
AllHold [] = Unit {0}
AllHold (search h ms n c f a ∷ rows) =
    (LineAllSearched rules h room (Ok (length ms)) (written ms room) ×
    LineFirstSearched rules h (by_list.Rule f 0) ×
    TreeAllSearched rules tree pool h room (by_tree.Found (length ms) n c) (written ms room) ×
    TreeFirstSearched rules tree pool h (by_tree.Rule f 0 n a)) × AllHold rows
AllHold (check rs ns es r ∷ rows) = TreeChecked rs ns es r × AllHold rows
AllHold (misses h k r ∷ rows) = RuleCompared rules h k r × AllHold rows

abbrev pub table : List Row
table =
    search (from 10 1 2 3 80 6) (0 ∷ 1 ∷ 2 ∷ []) 3 3 0 1 ∷
    search (from 10 2 0 1 80 6) (0 ∷ 2 ∷ []) 3 3 0 1 ∷
    search (from 10 1 2 3 443 6) (1 ∷ 2 ∷ []) 3 3 1 2 ∷
    search (from 10 1 2 3 80 17) (2 ∷ []) 3 3 2 3 ∷
    search (from 9 255 255 255 80 6) (2 ∷ []) 2 1 2 1 ∷
    search (from 10 255 255 255 80 6) (0 ∷ 2 ∷ []) 3 3 0 1 ∷
    search (from 11 0 0 0 80 6) (2 ∷ []) 3 1 2 1 ∷
    search (from 10 1 2 3 absent_port 6) (2 ∷ []) 3 3 2 3 ∷
    check rules tree pool (Accepted 2 3) ∷
    check rules (nodes 184549375 2) (2 ∷ 0 ∷ 2 ∷ 2 ∷ []) (Err (LeafLacksRule 3 1)) ∷
    check rules (nodes 167772159 3) pool (Err (NodeWrong 2)) ∷
    check [] (5 ∷ 0 ∷ 0 ∷ []) [] (Accepted 0 0) ∷
    misses (from 10 1 2 3 80 6) 0 (Ok 5) ∷
    misses (from 11 0 0 0 443 17) 0 (Ok 0) ∷
    misses (from 10 1 2 3 1024 17) 1 (Ok 3) ∷
    misses (from 10 1 2 3 80 6) 3 (Err (RuleNotGood 3)) ∷ []
