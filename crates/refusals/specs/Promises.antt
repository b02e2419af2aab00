-- What every call promises, and what a promise fixes. Definitions only.
--   Says paper v values r      the promise of a call that writes nothing: its answer r is, on paper, v giving the
--                              values
--   Writes paper v values new found r after    the promise of a call that is lent the words `found`: its answer is
--                              such, and the words after it are the new ones in front and the rest as found; on a
--                              refusal all are as found
--   Apart paper                the paper tells answers apart: two that are the same on it are the same
--   Fixes P                    two results that the promise P allows are equal
--   Settles P                  so are two results and two states of the lent words
--   value i vs                 value i of the values vs of a success
--   WritesOnly w P paper size  a call that is lent the words w: its promise P settles the result and the lent words;
--                              where it says a refusal they are as found; where it says the values vs, those past the
--                              first `size vs` are
--   WritesBoth v w P paper size more    the same of a call that is lent two outputs, and of each of them
use Rattle.std.specs.Prelude.{ℕ, ◌≡◌, List, get_or, drop}
use Rattle.facts.specs.Lists.{written}
use Rattle.refusals.specs.Verdict.{Verdict}
use Rattle.refusals.specs.Paper.{Paper, refusal, success}
use Rattle.refusals.specs.Order.{◌giving◌, leaving}

pub record Says {R : Type 0} (paper : R → Paper) (v : Verdict) (values : List ℕ) (r : R) : Type 0 where
  pub answers : paper r ≡ (v giving values)

pub record Writes
    {R : Type 0} (paper : R → Paper) (v : Verdict) (values new found : List ℕ) (r : R) (after : List ℕ) : Type 0 where
  pub answers : paper r ≡ (v giving values)
  pub leaves : after ≡ leaving v (written new found) found

abbrev pub Apart : {R : Type 0} → (R → Paper) → Type 0
Apart {R} paper = (r s : R) → paper r ≡ paper s → r ≡ s

abbrev pub Fixes : {R : Type 0} → (R → Type 0) → Type 0
Fixes {R} P = (r s : R) → P r → P s → r ≡ s

abbrev pub Settles : {R : Type 0} → (R → List ℕ → Type 0) → Type 0
Settles {R} P = (r s : R) (v w : List ℕ) → P r v → P s w → (r ≡ s) × (v ≡ w)

abbrev pub value : ℕ → List ℕ → ℕ
value i vs = get_or vs i 0

pub record WritesOnly
    {R : Type 0} (w : List ℕ) (P : R → List ℕ → Type 0) (paper : R → Paper) (size : List ℕ → ℕ) : Type 0 where
  pub one : Settles P
  pub refused : (r : R) (after : List ℕ) (n p e : ℕ) → P r after → paper r ≡ refusal n p e → after ≡ w
  pub rest :
      (r : R) (after vs : List ℕ) → P r after → paper r ≡ success vs → drop (size vs) after ≡ drop (size vs) w

abbrev pub WritesBoth :
    {R : Type 0} → (v w : List ℕ) → (R → List ℕ → List ℕ → Type 0) → (R → Paper) → (List ℕ → ℕ) → (List ℕ → ℕ) → Type 0
WritesBoth {R} v w P paper size more =
    WritesOnly v (λ (r : R) x. (y : List ℕ) × P r x y) paper size ×
    WritesOnly w (λ (r : R) y. (x : List ℕ) × P r x y) paper more
