-- Two tests joined, and a test taken by its two cases.
use mathlib.Core.Bool.{Bool, true, false, ◌&&◌, ◌||◌, true≢false, false≢true}
use mathlib.Core.Path.{◌≡◌, refl, sym, ap, ◌∙◌}
use mathlib.Core.Logic.{◌⊎◌, inl, inr}

-- where both of two tests hold, each does
pub both : (a b : Bool) → (a && b) ≡ true → (a ≡ true) × (b ≡ true)
both true b e = (refl, e)
both false b e = absurd (false≢true e)

-- where each of two tests holds, both do
pub join : {a b : Bool} → a ≡ true → b ≡ true → (a && b) ≡ true
join {a} {b} p q = ap (λ (x : Bool). x && b) p ∙ q

-- where not either of two tests holds, each fails
pub neither : (a b : Bool) → (a || b) ≡ false → (a ≡ false) × (b ≡ false)
neither true b e = absurd (true≢false e)
neither false b e = (refl, e)

-- a test holds or fails
pub sure : (b : Bool) → (b ≡ true) ⊎ (b ≡ false)
sure true = inl refl
sure false = inr refl

-- a test that holds and fails proves anything
pub clash {ℓ} : {A : Type ℓ} {b : Bool} → b ≡ true → b ≡ false → A
clash p q = absurd (true≢false (sym p ∙ q))

-- a test that cannot hold fails
pub fails : (b : Bool) → (b ≡ true → ⊥) → b ≡ false
fails true h = absurd (h refl)
fails false h = refl

-- two tests that imply each other are one
pub same_test : (a b : Bool) → (a ≡ true → b ≡ true) → (b ≡ true → a ≡ true) → a ≡ b
same_test true true f g = refl
same_test true false f g = absurd (false≢true (f refl))
same_test false true f g = absurd (false≢true (g refl))
same_test false false f g = refl

-- a test whose outcome t was not refused holds
pub held : {t b : Bool} → t ≡ b → t ≡ true → b ≡ true
held {t} e h = sym e ∙ h

-- a test whose outcome t was refused fails
pub failed : {t b : Bool} → t ≡ b → t ≡ false → b ≡ false
failed {t} e h = sym e ∙ h
