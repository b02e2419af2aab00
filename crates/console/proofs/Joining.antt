-- Bytes without a newline join the line that is being gathered. `Joining` is the invariant: the bytes below a place
-- have joined, and what is left decides.
use Prim.Native.Nat.{ℕ, ◌+◌, ◌≤◌, ◌<◌}
use native.Mathlib.Omega.{arith}
use mathlib.Core.Path.{◌≡◌, refl, sym, ap, ◌∙◌, subst}
use mathlib.Core.List.{List, [], ◌∷◌}
use lib.ListN.{length, get_or, drop, set}
use Rattle.facts.proofs.Steps.{drop_step, drop_end}
use Rattle.text.specs.Text.{no_line, next_from}
use Rattle.text.proofs.Plain.{Plain}
use Rattle.text.proofs.Texts.{next_none}
use Rattle.console.specs.declared.gather.Gathering.{Gathering}
use Rattle.console.specs.Heads.{most_bytes}
use Rattle.console.specs.Gathered.{gathering, after}
use Rattle.console.proofs.Gathering.{step_held, step_over}

-- a line that is full is too long with any byte more
full_over :
    (g : Gathering) (b : ℕ) (l : List ℕ) → Plain (b ∷ l) → most_bytes ≤ g.count →
    after g (b ∷ l) ≡ gathering g.held (most_bytes + 1) g.lines
unfolding after
full_over g b [] p h = step_over g b p.0 h
full_over g b (c ∷ l) p h =
    rw (step_over g b p.0 h) (full_over (gathering g.held (most_bytes + 1) g.lines) c l p.1 (omega arith))

pub record Joining (g : Gathering) (bs held : List ℕ) (count at : ℕ) : Type 0 where
  pub left : after g bs ≡ after (gathering held count g.lines) (drop at bs)
  pub plain : Plain (drop at bs)

-- before the first byte
pub joining_first :
    (g : Gathering) (bs : List ℕ) → next_from [] bs ≡ no_line → Joining g bs g.held g.count 0
joining_first g bs none = record { left = refl; plain = next_none [] bs tt none }

module _ {g : Gathering} {bs held : List ℕ} {count at : ℕ} (q : Joining g bs held count at) where
  -- where no byte is left it is the state after them all
  pub joining_last : length bs ≤ at → gathering held count g.lines ≡ after g bs
  unfolding after
  joining_last h = sym (rw (drop_end bs at h) at q.left)

  module _ (h : at < length bs) where
    next : after g bs ≡ after (gathering held count g.lines) (get_or bs at 0 ∷ drop (at + 1) bs)
    next = rw (drop_step bs at h) at q.left

    plain_next : Plain (get_or bs at 0 ∷ drop (at + 1) bs)
    plain_next = subst Plain (drop_step bs at h) q.plain

    -- a byte for which there is no room makes the line too long, and so it stays
    pub joining_over : most_bytes ≤ count → gathering held (most_bytes + 1) g.lines ≡ after g bs
    joining_over full = sym (next ∙ full_over _ _ _ plain_next full)

    -- another byte is held
    pub joining_step : count < most_bytes → Joining g bs (set held count (get_or bs at 0)) (count + 1) (at + 1)
    unfolding after
    joining_step some =
        record {
          left = next ∙ ap (λ (x : Gathering). after x (drop (at + 1) bs)) (step_held _ _ plain_next.0 some);
          plain = plain_next.1;
        }
