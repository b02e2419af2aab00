-- The paper tells refusals apart: number, place and extra give the variant and what it holds.
use Rattle.refusals.specs.Promises.{Apart}
use Rattle.std.specs.Prelude.{Ok, Err}
use Prim.Native.Nat.{ℕ}
use native.Mathlib.Omega.{arith}
use mathlib.Core.Path.{◌≡◌, refl, sym, ◌∙◌, ap}
use mathlib.Core.List.{List, [], ◌∷◌}
use lib.ListN.{get_or}
use Rattle.refusals.specs.declared.Refusal.{Refusal}
use Rattle.refusals.specs.declared.Refusal.TheVariants.{RuleWordsWrong, RuleNotGood, HeaderWrong, OutputShort}
use Rattle.refusals.specs.declared.Refusal.TheVariants.{TreeWordsWrong, NodeWrong, LeafWrong, LeafLacksRule}
use Rattle.refusals.specs.declared.Refusal.TheVariants.{LineWrong, TextStops, RuleHasTwin, FileNotRead}
use Rattle.refusals.specs.Table.{number_of, place_of, extra_of}
use Rattle.refusals.specs.Paper.{refusal, success, on_paper, said, counted}

-- the refusal with number n, place p and extra e: a line for each number from 0 on
named : ℕ → ℕ → ℕ → Refusal
named n p e =
    get_or
    (FileNotRead ∷ RuleWordsWrong ∷ RuleNotGood p ∷ HeaderWrong p ∷ OutputShort p e ∷ TreeWordsWrong ∷ NodeWrong p ∷
    LeafWrong p ∷ LeafLacksRule p e ∷ LineWrong p ∷ TextStops p ∷ RuleHasTwin p e ∷ [])
    n FileNotRead

named_back : (why : Refusal) → named (number_of why) (place_of why) (extra_of why) ≡ why
unfolding named
named_back RuleWordsWrong = refl
named_back (RuleNotGood rule) = refl
named_back (HeaderWrong field) = refl
named_back (OutputShort needed output) = refl
named_back TreeWordsWrong = refl
named_back (NodeWrong node) = refl
named_back (LeafWrong node) = refl
named_back (LeafLacksRule node rule) = refl
named_back (LineWrong line) = refl
named_back (TextStops lines) = refl
named_back (RuleHasTwin rule earlier) = refl
named_back FileNotRead = refl

-- two refusals that are the same on paper are the same
pub on_paper_unique : (r s : Refusal) → on_paper r ≡ on_paper s → r ≡ s
on_paper_unique r s e =
    let number : number_of r ≡ number_of s = cc in
    let place : place_of r ≡ place_of s = cc in
    let extra : extra_of r ≡ extra_of s = cc in
    sym (named_back r) ∙ rw (number, place, extra) (named_back s)

-- a refusal is no success on paper
pub refusal_not_success {ℓ} : {A : Type ℓ} {n p e : ℕ} {values : List ℕ} → refusal n p e ≡ success values → A
refusal_not_success e = let z : ◌≡◌ {A = ℕ} 0 1 = cc in absurd (omega arith)

-- where the values tell what was found apart, the paper tells the answers apart
pub said_apart :
    {T : Type 0} {values : T → List ℕ} → ((x y : T) → values x ≡ values y → x ≡ y) → Apart (said values)
said_apart f (Err a) (Err b) e = ap Err (on_paper_unique a b e)
said_apart f (Err a) (Ok y) e = refusal_not_success e
said_apart f (Ok x) (Err b) e = refusal_not_success (sym e)
said_apart {values = values} f (Ok x) (Ok y) e = let q : values x ≡ values y = cc in ap Ok (f x y q)

-- so it does where one number is found
pub counted_apart : Apart counted
counted_apart = said_apart (λ n m e. cc)
