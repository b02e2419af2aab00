-- The reply to an input line: whether it asks about a header decides.
use Rattle.std.specs.Prelude.{None, Some}
use Prim.Native.Nat.{ℕ}
use native.Mathlib.Omega.{arith}
use mathlib.Core.Path.{◌≡◌, refl, ap}
use mathlib.Core.List.{List}
use mathlib.Core.Option.{Option, none, some}
use Rattle.text.specs.Cursors.{wrong_at}
use Rattle.console.specs.Heads.{head_in, in_head, head_at}
use Rattle.console.specs.Lines.{refused_line}
use Rattle.console.specs.Replies.{on_head, line_reply}

module _ (answer : List ℕ → List ℕ) (k : ℕ) where
  none_by : (o : Option (List ℕ)) → None ≡ in_head o → refused_line (wrong_at k) ≡ on_head answer k o
  none_by none e = refl
  none_by (some h) e = let z : ◌≡◌ {A = ℕ} 0 1 = cc in absurd (omega arith)

  some_by : {h : List ℕ} (o : Option (List ℕ)) → Some h ≡ in_head o → answer h ≡ on_head answer k o
  some_by none e = let z : ◌≡◌ {A = ℕ} 0 1 = cc in absurd (omega arith)
  some_by (some g) e = ap answer cc

  module _ (l : List ℕ) where
    -- a line that asks about none is refused
    pub none_asked : None ≡ head_at l → refused_line (wrong_at k) ≡ line_reply answer k l
    unfolding line_reply head_at
    none_asked e = none_by (head_in l) e

    -- a line that asks about one gets its answer
    pub one_asked : {h : List ℕ} → Some h ≡ head_at l → answer h ≡ line_reply answer k l
    unfolding line_reply head_at
    one_asked e = some_by (head_in l) e
