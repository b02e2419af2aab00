-- The line that is being gathered: its bytes are held while they are few, and then it is known to be too long.
--   Holds p k g    the state g has gathered the bytes p of a line that has k lines before it
use Prim.Native.Nat.{ℕ, ◌+◌, ◌≤◌, ◌<◌}
use native.Mathlib.Omega.{arith}
use native.Mathlib.Numerals.{add-one}
use mathlib.Core.Path.{◌≡◌, refl, sym, ap, ◌∙◌}
use mathlib.Core.List.{List, [], ◌∷◌, ◌++◌}
use lib.ListN.{length, take, set, length-append, length-set, length-replicate}
use lib.Seq.{take-suc-set}
use Rattle.facts.proofs.Cases.{WithinOrOver, within_or_over, at_most, over}
use Rattle.text.specs.Words.{newline}
use Rattle.text.specs.Places.{following}
use Rattle.console.specs.declared.gather.Gathering.{Gathering}
use Rattle.console.specs.Heads.{most_bytes}
use Rattle.console.specs.Replies.{line_reply}
use Rattle.console.specs.Gathered.{begun, step, last_reply, reply_at, on_last}
use Rattle.console.proofs.Heads.{too_long}
use Rattle.console.proofs.Gathering.{step_newline, step_held, step_over, last_none, last_part}
use Rattle.console.proofs.Gathering.{reply_over, reply_held}

pub record Holds (p : List ℕ) (k : ℕ) (g : Gathering) : Type 0 where
  pub room : length g.held ≡ most_bytes
  pub lines : g.lines ≡ k
  pub few : length p ≤ most_bytes → (g.count ≡ length p) × (take (length p) g.held ≡ p)
  pub long : most_bytes < length p → g.count ≡ most_bytes + 1

-- before the first byte
pub holds_begun : Holds [] 0 begun
unfolding begun
holds_begun =
    let size = length-replicate {A = ℕ} most_bytes 0 in
    record { room = size; lines = refl; few = λ h. (refl, refl); long = λ h. absurd (omega arith) }

module _ {p : List ℕ} {k : ℕ} {g : Gathering} (q : Holds p k g) where
  -- behind a newline
  pub holds_next : (b : ℕ) → b ≡ newline → Holds [] (following k) (step g b)
  holds_next b e =
      rw (step_newline g b e)
      (record {
        room = q.room;
        lines = ap following q.lines;
        few = λ h. (refl, refl);
        long = λ h. absurd (omega arith);
      })

  module _ (b : ℕ) (e : b ≡ newline → ⊥) where
    size : length (p ++ (b ∷ [])) ≡ length p + 1
    size = length-append p (b ∷ [])

    holds_one : length p < most_bytes → Holds (p ++ (b ∷ [])) k (step g b)
    holds_one h =
        let here = q.few (omega arith) in
        let front : take (length p + 1) (set g.held (length p) b) ≡ p ++ (b ∷ []) =
        rw add-one (take-suc-set g.held (length p) b (omega (arith, q.room))) ∙
        ap (λ (x : List ℕ). x ++ (b ∷ [])) here.1 in
        rw (step_held g b e (omega (arith, here.0)))
        (record {
          room = length-set g.held g.count b ∙ q.room;
          lines = q.lines;
          few = λ m. (omega (arith, here.0, size), rw (size, here.0) front);
          long = λ m. absurd (omega (arith, size));
        })

    holds_over : most_bytes ≤ length p → Holds (p ++ (b ∷ [])) k (step g b)
    holds_over h =
        rw (step_over g b e (full (within_or_over (length p) most_bytes)))
        (record { room = q.room; lines = q.lines; few = λ m. absurd (omega (arith, size)); long = λ m. refl })
      where
        full : WithinOrOver (length p) most_bytes → most_bytes ≤ g.count
        full (at_most m) = omega (arith, (q.few m).0)
        full (over m) = omega (arith, q.long m)

    -- behind another byte
    pub holds_more : Holds (p ++ (b ∷ [])) k (step g b)
    holds_more = go (within_or_over most_bytes (length p))
      where
        go : WithinOrOver most_bytes (length p) → Holds (p ++ (b ∷ [])) k (step g b)
        go (at_most m) = holds_over m
        go (over m) = holds_one m

  -- what is replied to the line once it is whole
  pub holds_reply : (answer : List ℕ → List ℕ) → reply_at answer g ≡ line_reply answer k p
  unfolding line_reply
  holds_reply answer = go (within_or_over (length p) most_bytes)
    where
      go : WithinOrOver (length p) most_bytes → reply_at answer g ≡ line_reply answer k p
      go (at_most h) =
          let here = q.few h in
          sym (reply_held answer g (omega (arith, here.0))) ∙ rw (q.lines, here.0, here.1)
      go (over h) =
          sym (reply_over answer g (omega (arith, q.long h))) ∙ rw (q.lines, too_long p h)

-- what is replied to it at the end of input
pub holds_last : (p : List ℕ) {k : ℕ} {g : Gathering} → Holds p k g → last_reply g ≡ on_last k p
holds_last [] q = sym (last_none _ (q.few (omega arith)).0)
holds_last (b ∷ bs) {k} {g} q =
    sym (last_part g (λ e. go e (within_or_over (length (b ∷ bs)) most_bytes))) ∙ rw q.lines
  where
    go : g.count ≡ 0 → WithinOrOver (length (b ∷ bs)) most_bytes → ⊥
    go e (at_most h) = omega (arith, (q.few h).0)
    go e (over h) = omega (arith, q.long h)
