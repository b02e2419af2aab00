-- The promise of `feed` allows one result and one state of the lent bytes.
use Prim.Native.Nat.{ℕ}
use mathlib.Core.Path.{◌≡◌, sym, ap, ◌∙◌}
use mathlib.Core.List.{List}
use lib.ListN.{length, take}
use Rattle.facts.specs.Lists.{written}
use Rattle.console.specs.declared.gather.Gathering.{Gathering}
use Rattle.console.specs.declared.feed.Fed.{Fed}
use Rattle.console.specs.Gathered.{after, answers}
use Rattle.console.specs.Feeding.{IsFed}

same_fed :
    {a b c d : ℕ} {x y : Gathering} → a ≡ b → c ≡ d → x ≡ y →
    ◌≡◌ {A = Fed} (record { taken = a; filled = c; gathering = x }) (record { taken = b; filled = d; gathering = y })
same_fed e f h = rw (e, f, h)

-- the call that answers a piece of input has one result, and leaves the lent bytes in one state
pub fed_unique :
    {answer : List ℕ → List ℕ} {g : Gathering} {bs before : List ℕ} {r t : Fed} {new other : List ℕ} →
    IsFed answer g bs before r new → IsFed answer g bs before t other → (r ≡ t) × (new ≡ other)
fed_unique {answer} {g} {bs} {before} p q =
    let e = p.taken ∙ sym q.taken in (
      same_fed e (p.filled ∙ ap (λ (k : ℕ). length (answers answer g (take k bs))) e ∙ sym q.filled)
          (p.state ∙ ap (λ (k : ℕ). after g (take k bs)) e ∙ sym q.state),
      p.bytes ∙ ap (λ (k : ℕ). written (answers answer g (take k bs)) before) e ∙ sym q.bytes,
    )
