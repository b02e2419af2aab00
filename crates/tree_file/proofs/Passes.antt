-- The pass over the lines of the nodes, node by node. `ReadSoFar` is the invariant: the nodes below i are read, their
-- words and entries are stored, and the rest decides.
use Rattle.std.specs.Prelude.{Err, Ok, Result}
use Rattle.refusals.specs.Verdict.{Fine}
use Prim.Native.Nat.{ℕ, ◌+◌, ◌*◌, ◌^◌, ◌≤◌, ◌<◌}
use native.Mathlib.Omega.{arith}
use mathlib.Core.Path.{◌≡◌, refl, sym, ap, subst, ◌∙◌}
use mathlib.Core.List.{List, [], ◌++◌}
use lib.ListN.{length, take, drop, length-append}
use lib.Seq.{sets, length-take-le}
use lib.Dec.{eqb}
use borrow.Author.Tests.{le-ltb, eqb-true}
use Rattle.facts.proofs.Setting.{sets_append}
use Rattle.refusals.specs.declared.Refusal.{Refusal}
use Rattle.refusals.specs.declared.Refusal.TheVariants.{TextStops}
use Rattle.trees.specs.Words.{node_words}
use Rattle.text.specs.declared.cursor.Cursor.{Cursor}
use Rattle.text.specs.Places.{following}
use Rattle.text.specs.Text.{refused, line, no_line, next_from}
use Rattle.text.specs.Cursors.{cursor_at}
use Rattle.text.specs.Onward.{Stands}
use Rattle.text.specs.EndLines.{end_line_at}
use Rattle.text.proofs.EndLines.{EndComes, end_comes, over_complete}
use Rattle.text.proofs.NextLines.{EndAt}
use Rattle.text.proofs.Onward.{next_stands, on_next, on_wrong, on_stops}
use Rattle.tree_file.specs.declared.read.Counts.{Counts}
use Rattle.tree_file.specs.TreeText.{tree, over, step, finish}
use Rattle.tree_file.specs.ReadSteps.{in_nodes, begun, tree_from, TreeStored}
use Rattle.tree_file.specs.NodeSteps.{LineRead, NodeLineRead}

-- ---- a node's line in its text

-- a line that ends there begins within what is before its end
pub begins_within : (s : List ℕ) (c : Cursor) {p : ℕ} → EndAt s c p → c.at ≤ length (take p s)
begins_within s c {p} e = rw (length-take-le p s (omega (arith, e.within))) e.from

module _ {s : List ℕ} {c : Cursor} (small : length s < 2 ^ 63) (stands : Stands s c) (k : Counts) (i filled : ℕ)
    (nodes pool : List ℕ) where
  -- where there is no whole line the text stops
  pub node_stops :
      {why : Refusal} (nodes' pool' : List ℕ) → next_from [] (drop c.at s) ≡ no_line → why ≡ TextStops c.lines →
      NodeLineRead s c k i filled nodes pool nodes' pool' (Err why)
  unfolding finish
  node_stops nodes' pool' e q =
      NodeLineRead.refuses (λ ws es f. on_stops small stands step finish (in_nodes k i ws es) refl e q)

  -- what a line comes to is what the text comes to there
  pub node_of_line :
      {p : ℕ} {nodes' pool' : List ℕ} {r : Result (ℕ × Cursor) Refusal} → EndAt s c p →
      LineRead (take p s) c k i filled nodes pool nodes' pool' r → NodeLineRead s c k i filled nodes pool nodes' pool' r
  node_of_line e (LineRead.refuses q f) =
      NodeLineRead.refuses
      (λ ws es g. on_wrong small stands step finish (in_nodes k i ws es) e.next (rw e.part at (f ws es g)) q)
  node_of_line {p} e (LineRead.stores {sum = sum} {d = d} xs ys added q f) =
      let size : length (take p s) ≡ p = length-take-le p s (omega (arith, e.within)) in
      let there : d ≡ cursor_at (p + 1) (following c.lines) =
      q ∙ ap (λ (x : ℕ). cursor_at (x + 1) (following c.lines)) size in
      let at : p + 1 ≡ d.at = sym (ap (λ (x : Cursor). x.at) there) in
      let lines : d.lines ≡ following c.lines = ap (λ (x : Cursor). x.lines) there in
      let next = subst (λ (x : ℕ). next_from [] (drop c.at s) ≡ line e.this (drop x s)) at e.next in
      NodeLineRead.stores xs ys added (next_stands small stands {d = d} next (omega (arith, e.within)) lines)
      (λ ws es g.
      on_next small stands step finish (in_nodes k i ws es) d (in_nodes k (i + 1) (ws ++ xs) (es ++ ys)) next lines
      (rw e.part at (f ws es g)))

-- ---- node by node

pub record ReadSoFar (s : List ℕ) (k : Counts) (first : Cursor) (nodes pool : List ℕ) (i filled : ℕ) (c : Cursor)
    (nodes' pool' : List ℕ) : Type 0 where
  pub words : List ℕ
  pub entries : List ℕ
  pub left : tree_from (begun k) s first ≡ tree_from (in_nodes k i words entries) s c
  pub size : length words ≡ i * node_words
  pub total : length entries ≡ filled
  pub nodes_are : nodes' ≡ sets nodes 0 words
  pub pool_is : pool' ≡ sets pool 0 entries
  pub stands : Stands s c
  pub most : i ≤ k.nodes
  pub room : filled ≤ k.pool

-- before the first node nothing is stored, and all is left
pub so_far_first :
    {s : List ℕ} (k : Counts) {c : Cursor} (nodes pool : List ℕ) → Stands s c →
    ReadSoFar s k c nodes pool 0 0 c nodes pool
so_far_first k nodes pool h =
    record {
      words = [];
      entries = [];
      left = refl;
      size = refl;
      total = refl;
      nodes_are = refl;
      pool_is = refl;
      stands = h;
      most = omega arith;
      room = omega arith;
    }

module _ {s : List ℕ} {k : Counts} {first : Cursor} {nodes pool : List ℕ} {i filled : ℕ} {c : Cursor}
    {now_nodes now_pool : List ℕ} (g : ReadSoFar s k first nodes pool i filled c now_nodes now_pool) where
  -- a refused line refuses the text
  pub so_far_refused :
      {why : Refusal} {nodes' pool' : List ℕ} →
      NodeLineRead s c k i filled now_nodes now_pool nodes' pool' (Err why) →
      tree_from (begun k) s first ≡ refused why
  so_far_refused (NodeLineRead.refuses f) = g.left ∙ f g.words g.entries g.total

  -- a node's line leads to the next
  pub so_far_step :
      {sum : ℕ} {d : Cursor} {nodes' pool' : List ℕ} → i < k.nodes →
      NodeLineRead s c k i filled now_nodes now_pool nodes' pool' (Ok (sum, d)) →
      ReadSoFar s k first nodes pool (i + 1) sum d nodes' pool'
  so_far_step h (NodeLineRead.stores xs ys a stands f) =
      let e : i * node_words ≡ 0 + length g.words = omega (arith, g.size) in
      let e' : filled ≡ 0 + length g.entries = omega (arith, g.total) in
      record {
        words = g.words ++ xs;
        entries = g.entries ++ ys;
        left = g.left ∙ f g.words g.entries g.total;
        size = length-append g.words xs ∙ omega (arith, g.size, a.size);
        total = length-append g.entries ys ∙ omega (arith, g.total, a.more);
        nodes_are = a.nodes_are ∙ rw (e, g.nodes_are) (sym (sets_append nodes 0 g.words xs));
        pool_is = a.pool_is ∙ rw (e', g.pool_is) (sym (sets_append pool 0 g.entries ys));
        stands = stands;
        most = omega arith;
        room = a.fits;
      }

  module _ (small : length s < 2 ^ 63) (h : k.nodes ≤ i) where
    -- behind the last node the end line decides
    last_comes :
        EndComes (tree_from (begun k) s first) (tree k.rules g.words g.entries)
        (end_line_at s c (eqb filled k.pool) (k.nodes + 1))
    unfolding step finish
    last_comes =
        let e : i ≡ k.nodes = omega (arith, g.most) in
        let there = g.left ∙ ap (λ (x : ℕ). tree_from (in_nodes k x g.words g.entries) s c) e in
        let said = tree k.rules g.words g.entries in
        rw there
        (end_comes step finish small g.stands (in_nodes k k.nodes g.words g.entries) (over said) said
        (eqb filled k.pool) (k.nodes + 1) refl
        (λ l. rw (le-ltb k.nodes k.nodes (omega arith), g.total)) refl (λ l. refl))

    -- where it is refused, so is the text
    pub so_far_ends_not :
        {why : Refusal} → Err why ≡ end_line_at s c (eqb filled k.pool) (k.nodes + 1) →
        tree_from (begun k) s first ≡ refused why
    so_far_ends_not q = subst (EndComes (tree_from (begun k) s first) _) (sym q) last_comes

    -- where the text is over, the whole tree is stored
    pub so_far_ends :
        Fine ≡ end_line_at s c (eqb filled k.pool) (k.nodes + 1) →
        TreeStored (tree_from (begun k) s first) nodes pool now_nodes now_pool k.rules k.nodes k.pool
    so_far_ends q =
        record {
          words = g.words;
          entries = g.entries;
          says = subst (EndComes (tree_from (begun k) s first) _) (sym q) last_comes;
          size = omega (arith, g.size, g.most);
          total = g.total ∙ eqb-true filled k.pool (over_complete s c (eqb filled k.pool) (k.nodes + 1) q);
          nodes_are = g.nodes_are;
          pool_is = g.pool_is;
        }
