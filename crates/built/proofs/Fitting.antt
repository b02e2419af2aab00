-- A tree fits exactly where all of its words and all of its entries do.
use Prim.Native.Nat.{ℕ, ◌+◌, ◌*◌, ◌≤◌}
use native.Mathlib.Omega.{arith}
use mathlib.Core.Path.{◌≡◌, refl}
use mathlib.Core.Logic.{◌↔◌}
use lib.ListN.{length}
use borrow.Author.Tests.{leb-true, le-leb}
use Rattle.refusals.specs.Verdict.{Fine}
use Rattle.refusals.proofs.Order.{fine_iff_holds, then_fine_iff}
use Rattle.trees.specs.Words.{node_words}
use Rattle.built.specs.Trees.{Tree, bud, leaf, cut}
use Rattle.built.specs.Layout.{size, pooled, node_fits, entries_fit, fits}
use Rattle.built.proofs.Laying.{length_pooled}

-- node i fits exactly where the words of the nodes up to and including it do
pub node_fits_iff : (i a : ℕ) → (node_fits i a ≡ Fine) ↔ ((i + 1) * node_words ≤ a)
unfolding node_fits
node_fits_iff i a = (
  λ e. leb-true ((i + 1) * node_words) a ((fine_iff_holds _ _).0 e),
  λ l. (fine_iff_holds _ _).1 (le-leb ((i + 1) * node_words) a l),
)

-- s entries fit exactly where there is room for them
pub entries_fit_iff : (s b : ℕ) → (entries_fit s b ≡ Fine) ↔ (s ≤ b)
unfolding entries_fit
entries_fit_iff s b = (
  λ e. leb-true s b ((fine_iff_holds _ _).0 e),
  λ l. (fine_iff_holds _ _).1 (le-leb s b l),
)

-- the words of the nodes up to the tree's last fit in a, and the entries up to its last in b
abbrev RoomFor : Tree → ℕ → ℕ → ℕ → ℕ → Type 0
RoomFor t i s a b = ((i + size t) * node_words ≤ a) × (s + length (pooled t) ≤ b)

-- where a tree fits, its entries and those before it are no more than m, if the room is not, nor were those before it
pub fine_entries : (t : Tree) (i s a b m : ℕ) → s ≤ m → b ≤ m → fits t i s a b ≡ Fine → s + length (pooled t) ≤ m
unfolding fits size pooled
fine_entries bud i s a b m h k e = omega arith
fine_entries (leaf l) i s a b m h k e =
    omega (
      arith,
      (entries_fit_iff (s + length l) b).0 ((then_fine_iff (node_fits i a) (entries_fit (s + length l) b)).0 e).1,
    )
fine_entries (cut f v x y) i s a b m h k e =
    let t = (then_fine_iff (node_fits i a) _).0 e in
    let u = (then_fine_iff (fits x (i + 1) s a b) _).0 t.1 in
    let l = fine_entries x (i + 1) s a b m h k u.0 in
    omega (arith, fine_entries y (i + 1 + size x) (s + length (pooled x)) a b m l k u.1, length_pooled f v x y)

-- where a tree fits behind nodes that do, so do its nodes
pub fine_nodes : (t : Tree) (i s a b : ℕ) → i * node_words ≤ a → fits t i s a b ≡ Fine → (i + size t) * node_words ≤ a
unfolding fits size pooled
fine_nodes bud i s a b h e = omega arith
fine_nodes (leaf l) i s a b h e =
    (node_fits_iff i a).0 ((then_fine_iff (node_fits i a) (entries_fit (s + length l) b)).0 e).0
fine_nodes (cut f v x y) i s a b h e =
    let t = (then_fine_iff (node_fits i a) _).0 e in
    let u = (then_fine_iff (fits x (i + 1) s a b) _).0 t.1 in
    let l = fine_nodes x (i + 1) s a b ((node_fits_iff i a).0 t.0) u.0 in
    omega (arith, fine_nodes y (i + 1 + size x) (s + length (pooled x)) a b l u.1)

fine_of_room : (t : Tree) (i s a b : ℕ) → RoomFor t i s a b → fits t i s a b ≡ Fine
unfolding fits size pooled
fine_of_room bud i s a b r = refl
fine_of_room (leaf l) i s a b r =
    (then_fine_iff (node_fits i a) (entries_fit (s + length l) b)).1
    ((node_fits_iff i a).1 r.0, (entries_fit_iff (s + length l) b).1 r.1)
fine_of_room (cut f v x y) i s a b r =
    let c = length_pooled f v x y in
    (then_fine_iff (node_fits i a) _).1 (
      (node_fits_iff i a).1 (omega (arith, r.0)),
      (then_fine_iff (fits x (i + 1) s a b) _).1 (
        fine_of_room x (i + 1) s a b (omega (arith, r.0), omega (arith, r.1, c)),
        fine_of_room y (i + 1 + size x) (s + length (pooled x)) a b (omega (arith, r.0), omega (arith, r.1, c)),
      ),
    )

-- a tree behind nodes and entries that fit does exactly where the words of the nodes up to its last do, and the entries
-- up to its last
pub fits_fine_iff :
    (t : Tree) (i s a b : ℕ) → i * node_words ≤ a → s ≤ b →
    (fits t i s a b ≡ Fine) ↔ (((i + size t) * node_words ≤ a) × (s + length (pooled t) ≤ b))
fits_fine_iff t i s a b h k =
    (λ e. (fine_nodes t i s a b h e, fine_entries t i s a b b k (omega arith) e), fine_of_room t i s a b)
