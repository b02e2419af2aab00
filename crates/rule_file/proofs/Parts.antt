-- A list of words, cut into parts of as many words each.
use Prim.Native.Nat.{ℕ, ◌+◌, ◌*◌, ◌≤◌, ◌<◌}
use native.Mathlib.Nat.{add-mul, one-mul, mul-le-mul_right}
use native.Mathlib.Omega.{arith}
use mathlib.Core.List.{List, ◌++◌}
use mathlib.Core.Path.{◌≡◌, sym, ap, ◌∙◌}
use lib.ListN.{length, take, drop, length-take, length-drop}
use lib.Seq.{take-append-le, drop-append-le, drop_at, take-length, take-add}
use Rattle.rule_file.specs.ListText.{part_at}

module _ (w : ℕ) where
  -- one part more is as many words more
  pub one_more : (i : ℕ) → (i + 1) * w ≡ i * w + w
  one_more i = add-mul i 1 w ∙ ap (λ (k : ℕ). i * w + k) (one-mul w)

  -- a part below the n-th lies within n parts
  pub part_within : {i n : ℕ} → i < n → i * w + w ≤ n * w
  part_within {i} {n} h = let m : (i + 1) * w ≤ n * w = mul-le-mul_right w (omega arith) in omega (arith, one_more i)

  module _ (ws : List ℕ) (i : ℕ) where
    -- what follows the words of a part does not change it
    pub at_append : (x : List ℕ) → i * w + w ≤ length ws → part_at w (ws ++ x) i ≡ part_at w ws i
    at_append x h =
        rw (drop-append-le (i * w) ws x (omega arith))
        (take-append-le w (drop (i * w) ws) x (simp length-drop (omega arith)))

    -- as many words behind i parts are part i
    pub at_last : (x : List ℕ) → length ws ≡ i * w → length x ≡ w → part_at w (ws ++ x) i ≡ x
    at_last x h l = rw (drop_at ws x (i * w) h) (ap (λ (k : ℕ). take k x) (sym l) ∙ take-length x)

    -- a part that is there has as many words
    pub at_length : i * w + w ≤ length ws → length (part_at w ws i) ≡ w
    at_length h = simp (length-take, length-drop) (omega arith)

    -- the parts below i and part i are the parts below i + 1
    pub at_next : take (i * w) ws ++ part_at w ws i ≡ take ((i + 1) * w) ws
    at_next = sym (take-add (i * w) w ws) ∙ ap (λ (k : ℕ). take k ws) (sym (one_more i))
