-- The promise of each C function allows one answer and one state of the lent outputs, since that of its call does.
use Prim.Native.Nat.{ℕ}
use mathlib.Core.Path.{◌≡◌, refl, sym, ap, ◌∙◌}
use mathlib.Core.List.{List}
use Rattle.refusals.specs.Paper.{Paper}
use Rattle.refusals.specs.Promises.{Fixes, Settles}
use Rattle.exports.specs.Answers.{as_eight, InWords, Tells, TellsOne, TellsBoth}

-- two answers that a promise allows are equal, and so are the two states v and w of the lent outputs, whether there are
-- none, one or two. The promises of all calls (specs/Calls.antt) are instances of `InWords`
pub in_words_unique :
    {R W : Type 0} {words : List ℕ → List ℕ} {paper : R → Paper} {P : R → W → Type 0} {v w : W}
    {answer other : List ℕ} →
    ((r s : R) (x y : W) → P r x → P s y → (r ≡ s) × (x ≡ y)) → InWords words paper (λ r. P r v) answer →
    InWords words paper (λ r. P r w) other → (answer ≡ other) × (v ≡ w)
in_words_unique {R} {words = words} {paper = paper} one p q =
    let same = one p.said q.said _ _ p.promised q.promised in
    (p.answers ∙ ap (λ (r : R). as_eight words (paper r)) same.0 ∙ sym q.answers, same.1)

module _ {R : Type 0} {words : List ℕ → List ℕ} {paper : R → Paper} where
  -- a C function without an output says what its call says, and has one answer, where its call has
  pub tells : {P : R → Type 0} → Fixes P → Tells words paper P (InWords words paper P)
  tells {P} one = (
    λ r p. record { said = r; promised = p; answers = refl },
    λ a b p q.
        (in_words_unique {P = λ x (_ : Unit {0}). P x} {v = tt} {w = tt} (λ x y _ _ s t. (one x y s t, refl)) p q).0,
  )

  -- so does one with an output, and leaves it in one state
  pub tells_one :
      {P : R → List ℕ → Type 0} → Settles P →
      TellsOne words paper P (λ v answer. InWords words paper (λ r. P r v) answer)
  tells_one {P} one = (
    λ r v p. record { said = r; promised = p; answers = refl },
    λ v w answer other p q. in_words_unique {P = P} one p q,
  )

  -- and one with two leaves both in one
  pub tells_both :
      {P : R → List ℕ → List ℕ → Type 0} →
      ((r s : R) (v w x y : List ℕ) → P r v x → P s w y → (r ≡ s) × (v ≡ w) × (x ≡ y)) →
      TellsBoth words paper P (λ v x answer. InWords words paper (λ r. P r v x) answer)
  tells_both one = (
    λ r v x p. record { said = r; promised = p; answers = refl },
    λ v w x y answer other p q.
        let same = one p.said q.said v w x y p.promised q.promised in
        (p.answers ∙ ap (λ (r : R). as_eight words (paper r)) same.0 ∙ sym q.answers, same.1, same.2),
  )
